use Rattle.std.proofs.Common.{◌≡◌, ◌∙◌, ◌-◌, ◌==◌, ap, ℕ, ℤ, if◌then◌else◌, w64}
use Rattle.std.proofs.lemmas.Int.{to_z-of_z}
use Rattle.std.proofs.lemmas.Result.{on_ok_weaker}
use Rattle.pth_laws.specs.Marks.{is_same}
use Rattle.pth_audit.specs.Holds.{has_levels}
use Rattle.pth_audit.proofs.HoldsMaps.{given_back}
use Rattle.pth_audit.proofs.holds.Holds.give.Goals as goal

pub returns : goal.returns
returns c =
    let i = to_z-of_z w64 c.args.i c.ranges.i in
    let less : c.saturating_sub-levels.result ≡ has_levels c.args.self.now c.args.t c.args.i - 1 =
    c.saturating_sub-levels.ensures ∙ ap (λ (n : ℕ). n - 1) (c.levels.ensures ∙ ap (has_levels c.args.self.now c.args.t) i) in
    on_ok_weaker c.set_levels.result
    (λ set. given_back c.args.self.now c.set_levels.new.owners c.args.t c.args.i c.saturating_sub-levels.result less
    (λ u k. set u k ∙ ap (λ (j : ℤ). if is_same k j then (if c.args.t == u then c.saturating_sub-levels.result else 0) else has_levels c.args.self.now u k) i))
    c.set_levels.ensures
