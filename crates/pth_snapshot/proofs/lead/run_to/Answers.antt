use Rattle.std.proofs.Common.{◌+◌, ◌∙◌, inl, inr, arith}
use Rattle.pth_snapshot.proofs.Leading.{way_more, way_over}
use Rattle.pth_snapshot.proofs.lead.run_to.Goals as goal

pub returns-then-is_over-clause-comes : goal.returns-then-is_over-clause-comes
returns-then-is_over-clause-comes g c = λ lasts given i st.
    let way = c.pieces.invariant.way given i st in
    let made = c.pieces.invariant.made in
    let piece = c.min-piece.ensures in
    way_over g.P.Program.functions given c.args.to i (c.pieces.machine.turn.steps + c.min-piece.result) c.pieces.machine c.advance-outcome.new.self _ _ way (omega arith)
    (elim (c.is_over.ensures.over c.if-is_over.true) [
      | inl none ↦ inl (omega arith)
      | inr ended ↦ inr (λ on. ended (c.advance-outcome.ensures.outcome ∙ on))
    ])
    (c.advance-outcome.ensures.goes_on lasts given way.part way.stands)

pub pieces-preserved : goal.pieces-preserved
pieces-preserved g c =
    let going = c.is_over.ensures.going c.if-is_over.false in
    let made = c.pieces.invariant.made in
    let piece = c.min-piece.ensures in
    record {
      made = (let now = (c.advance-outcome.ensures.running.0 going.1).0 in omega arith);
      way = λ given i st.
          let way = c.pieces.invariant.way given i st in
          way_more g.P.Program.functions given c.args.to i (c.pieces.machine.turn.steps + c.min-piece.result) c.pieces.machine c.advance-outcome.new.self _ _ way (omega arith)
          (c.advance-outcome.ensures.goes_on (λ over. (let e = going.1 in cc (e, over))) given way.part way.stands);
    }
