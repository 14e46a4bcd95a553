use Rattle.std.proofs.Common.{◌∙◌, ap, int_cmp, w64}
use Rattle.std.specs.BTreeMap.{get}
use Rattle.std.proofs.lemmas.Int.{to_z-of_z}
use Rattle.pth_audit.specs.Holds.{is_writer}
use Rattle.pth_audit.proofs.holds.Holds.is_writer.Goals as goal

pub returns : goal.returns
returns c = c.is_writer.ensures ∙ ap (is_writer c.args.t) (c.writer.ensures ∙ ap (get int_cmp c.args.self.now.writers) (to_z-of_z w64 c.args.l c.ranges.l))
