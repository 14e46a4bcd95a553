use Rattle.std.proofs.Common.{◌≡◌, ◌∙◌, ◌-◌, ◌+◌, ◌++◌, ◌∷◌, [], ℕ, List, Some, length, option_map, ap, sym, arith}
use Rattle.pth_base.proofs.Tables.{not_same}
use Rattle.pth_explaining.proofs.Ways.{ends_back, ends_none, ends_over, goes_on, same}
use Rattle.pth_explaining.specs.Circles.{on_whom, way}
use Rattle.pth_explaining.proofs.circles.circle_from.Goals as goal

pub returns-in-None : goal.returns-in-None
returns-in-None c =
    sym (ends_none (on_whom c.args.blocks.now) c.args.t c.loop.found.items _ c.loop.at (let low = c.loop-test.true in omega (arith, low)) (sym c.on_whom.ensures ∙ c.in-None.is))
    ∙ c.loop.invariant

pub returns-in-Some : goal.returns-in-Some
returns-in-Some c =
    ap (λ (l : List ℕ). Some l) c.in_ok-push.ensures.items
    ∙ sym (ends_back (on_whom c.args.blocks.now) c.args.t c.loop.found.items _ c.loop.at c.in-Some.next (let low = c.loop-test.true in omega (arith, low)) (sym c.on_whom.ensures ∙ c.in-Some.is) (same c.if-next-t.true))
    ∙ c.loop.invariant

pub loop-preserved : goal.loop-preserved
loop-preserved c =
    ap (λ (l : List ℕ). option_map (λ (ts : List ℕ). l ++ ts) (way (on_whom c.args.blocks.now) (length c.args.blocks.now - (c.loop.counter + 1)) c.args.t c.in-Some.next)) c.in_ok-push.ensures.items
    ∙ ap (λ (n : ℕ). option_map (λ (ts : List ℕ). (c.loop.found.items ++ c.loop.at ∷ []) ++ ts) (way (on_whom c.args.blocks.now) n c.args.t c.in-Some.next))
    (let e : length c.args.blocks.now - (c.loop.counter + 1) ≡ length c.args.blocks.now - c.loop.counter - 1 = omega arith in e)
    ∙ sym (goes_on (on_whom c.args.blocks.now) c.args.t c.loop.found.items _ c.loop.at c.in-Some.next (let low = c.loop-test.true in omega (arith, low)) (sym c.on_whom.ensures ∙ c.in-Some.is) (not_same c.in-Some.next c.args.t c.if-next-t.false))
    ∙ c.loop.invariant

pub returns : goal.returns
returns c =
    sym (ends_over (on_whom c.args.blocks.now) c.args.t c.loop.found.items _ c.loop.at (let high = c.loop-test.false in omega (arith, high)))
    ∙ c.loop.invariant
