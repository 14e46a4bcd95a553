use Rattle.std.proofs.Common.{◌≡◌, ◌∙◌, ◌<◌, ◌≤◌, ◌-◌, ℕ, pos, refl, sym, arith}
use Rattle.pth_store.specs.Keys.{key_limit, tables_of}
use Rattle.pth_store.proofs.Calls.{first-some, first-none, first-zero}
use Rattle.pth_store.proofs.keys.Keys.first_live.Goals as goal

pub loop-k-preserved : goal.loop-k-preserved
loop-k-preserved c =
    let low : c.loop-k.k < key_limit = omega (arith, c.loop-k-test.true, c.values_end-k-end.ensures.low) in
    c.loop-k.invariant ∙ first-none (tables_of c.args.self.now) c.args.s.0 c.loop-k.k low (sym c.in_default.is ∙ c.owed_for.ensures)

pub returns-in-Some : goal.returns-in-Some
returns-in-Some c =
    let low : c.loop-k.k < key_limit = omega (arith, c.loop-k-test.true, c.values_end-k-end.ensures.low) in
    sym (c.loop-k.invariant ∙ first-some (tables_of c.args.self.now) c.args.s.0 c.loop-k.k low c.in-Some.owed (sym c.in-Some.is ∙ c.owed_for.ensures))

pub returns : goal.returns
returns c =
    let zeros : (i : ℕ) → c.values_end-k-end.result ≤ i → i < key_limit → (tables_of c.args.self.now).values i c.args.s.0 ≡ pos 0 = rw (← c.self.view_is) c.values_end-k-end.ensures.zero in
    sym (c.loop-k.invariant ∙ first-zero (tables_of c.args.self.now) c.args.s.0 (key_limit - c.loop-k.k) c.loop-k.k refl (λ i high low. zeros i (omega (arith, c.loop-k-test.false, high)) low))
