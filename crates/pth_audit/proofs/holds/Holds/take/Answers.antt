use Rattle.std.proofs.Common.{◌≡◌, ◌∙◌, ap, arith, w64}
use Rattle.std.proofs.lemmas.Int.{to_z-of_z}
use Rattle.pth_audit.specs.Holds.{has_levels}
use Rattle.pth_audit.proofs.holds.Holds.take.Goals as goal

pub overflow_add-levels : goal.overflow_add-levels
overflow_add-levels c =
    let levels : c.levels-levels.result ≡ has_levels c.args.self.now c.args.t c.args.i = c.levels-levels.ensures ∙ ap (has_levels c.args.self.now c.args.t) (to_z-of_z w64 c.args.i c.ranges.i) in
    let few = c.requires in
    omega (arith, levels, few)
