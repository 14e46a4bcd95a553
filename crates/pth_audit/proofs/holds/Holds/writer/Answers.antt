use Rattle.std.proofs.Common.{◌∙◌, ap, w64, int_cmp}
use Rattle.std.specs.BTreeMap.{get}
use Rattle.std.proofs.lemmas.Int.{to_z-of_z}
use Rattle.pth_audit.proofs.holds.Holds.writer.Goals as goal

pub returns : goal.returns
returns c = c.copied.ensures ∙ c.get.ensures.value ∙ ap (get int_cmp c.args.self.now.writers) (to_z-of_z w64 c.args.l c.ranges.l)
