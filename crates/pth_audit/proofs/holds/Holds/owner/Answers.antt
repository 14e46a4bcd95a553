use Rattle.std.proofs.Common.{◌∙◌, ap, w64, int_cmp}
use Rattle.std.specs.BTreeMap.{get}
use Rattle.std.proofs.lemmas.Int.{to_z-of_z}
use Rattle.pth_audit.proofs.holds.Holds.owner.Goals as goal

pub returns : goal.returns
returns c = c.copied.ensures ∙ c.get.ensures.value ∙ ap (get int_cmp c.args.self.now.owners) (to_z-of_z w64 c.args.i c.ranges.i)
