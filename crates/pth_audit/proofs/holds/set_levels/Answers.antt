use Rattle.std.proofs.Common.{◌∙◌, ap, cond, None, ℤ, w64, int_cmp}
use Rattle.std.specs.BTreeMap.{get}
use Rattle.std.specs.Ordering.{is_eq}
use Rattle.std.proofs.lemmas.Int.{to_z-of_z}
use Rattle.pth_audit.proofs.HoldsMaps.{levels_removed}
use Rattle.pth_audit.proofs.holds.set_levels.Goals as goal

pub returns-then-levels-eq0 : goal.returns-then-levels-eq0
returns-then-levels-eq0 c =
    levels_removed c.args.owners.now c.remove-owner.new.self c.args.t c.args.i c.args.levels c.if-levels-eq0.true
    (λ k. c.remove-owner.ensures.updates.0 k ∙ ap (λ (i : ℤ). cond (is_eq (int_cmp i k)) None (get int_cmp c.args.owners.now k)) (to_z-of_z w64 c.args.i c.ranges.i))
