use Rattle.std.proofs.Common.{◌∙◌, Some, option_map, sym, ap, arith}
use Rattle.pth_threads.specs.Threads.{number_of}
use Rattle.pth_audit.specs.Blocking.{blocks_on}
use Rattle.pth_audit.proofs.Circles.{same_number, other_number, along-none, along-step, never_back, still_away}
use Rattle.pth_audit.proofs.cycle.steps_back.Goals as goal

pub loop-n-init : goal.loop-n-init
loop-n-init g c = λ s st. (along-none (blocks_on s) c.args.t.0, λ k some none. absurd (omega (arith, some, none)))

pub returns-in-None : goal.returns-in-None
returns-in-None g c = λ s st.
    let way = c.loop-n.invariant s st in
    never_back (blocks_on s) c.args.most c.loop-n.n c.args.t.0 c.loop-n.at.0 way.0 (sym (c.blocks_on.ensures s st) ∙ ap (option_map number_of) c.in-None.is) way.1

pub returns-in-Some : goal.returns-in-Some
returns-in-Some g c = λ s st.
    let way = c.loop-n.invariant s st in
    let next = along-step (blocks_on s) c.loop-n.n c.args.t.0 c.loop-n.at.0 way.0 ∙ sym (c.blocks_on.ensures s st) ∙ ap (option_map number_of) c.in-Some.is in
    (omega arith, omega arith, next ∙ ap (λ t. Some t) (same_number c.in-Some.next.0 c.args.t.0 (sym c.if-eq.true ∙ c.eq.ensures)), λ k some within. way.1 k some (omega (arith, within)))

pub loop-n-preserved : goal.loop-n-preserved
loop-n-preserved g c = λ s st.
    let way = c.loop-n.invariant s st in
    let here = sym (c.blocks_on.ensures s st) ∙ ap (option_map number_of) c.in-Some.is in
    (along-step (blocks_on s) c.loop-n.n c.args.t.0 c.loop-n.at.0 way.0 ∙ here, still_away (blocks_on s) c.loop-n.n c.args.t.0 c.loop-n.at.0 c.in-Some.next.0 way.0 here (other_number c.in-Some.next.0 c.args.t.0 (sym c.if-eq.false ∙ c.eq.ensures)) way.1)
