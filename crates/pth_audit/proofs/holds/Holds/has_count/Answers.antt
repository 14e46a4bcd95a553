use Rattle.std.proofs.Common.{◌∙◌, ap, w64}
use Rattle.std.proofs.lemmas.Int.{to_z-of_z}
use Rattle.pth_audit.specs.Holds.{has_levels}
use Rattle.pth_audit.proofs.Counted.{counts}
use Rattle.pth_audit.proofs.holds.Holds.has_count.Goals as goal

pub returns : goal.returns
returns c = counts _ _ (c.levels.ensures ∙ ap (has_levels c.args.self.now c.args.t) (to_z-of_z w64 c.args.i c.ranges.i))
