use Rattle.std.proofs.Common.{◌∙◌, ap, int_cmp, w64}
use Rattle.std.specs.BTreeMap.{get}
use Rattle.std.proofs.lemmas.Int.{to_z-of_z}
use Rattle.pth_audit.specs.Holds.{levels_of}
use Rattle.pth_audit.proofs.holds.Holds.levels.Goals as goal

pub returns : goal.returns
returns c = c.levels_of.ensures ∙ ap (levels_of c.args.t) (c.owner.ensures ∙ ap (get int_cmp c.args.self.now.owners) (to_z-of_z w64 c.args.i c.ranges.i))
