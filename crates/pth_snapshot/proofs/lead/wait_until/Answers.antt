use Rattle.std.proofs.Common.{not, ap, ◌∙◌, arith}
use Rattle.pth_snapshot.proofs.Leading.{moved_later, waiting_stalled}
use Rattle.pth_snapshot.proofs.lead.wait_until.Goals as goal

pub moves-smaller : goal.moves-smaller
moves-smaller g c =
    let later = moved_later g.P.Program.functions c.moves.machine c.idle.new.self _ _ c.is_early.ensures.sound c.moves.invariant.between.goes c.in-Ok-true.ensures.turn (c.in-Ok-true.ensures.moves c.in-Ok-true.field-0-test) in
    let early = c.is_early.ensures.early c.moves-test.true in
    omega arith

pub returns-in-Ok-false-clause-comes : goal.returns-in-Ok-false-clause-comes
returns-in-Ok-false-clause-comes g c = λ lasts given i st.
    let w = c.moves.invariant.waits given i st in
    waiting_stalled g.P.Program.functions given c.args.moment i c.moves.machine c.idle.new.self w
    (c.is_early.ensures.come given w.part w.stands ∙ ap not c.moves-test.true)
    (c.is_early.ensures.next c.moves-test.true given w.part w.stands)
    ((c.in-Ok-false.ensures.none _ w.stands).0 c.in-Ok-false.field-0-test)
