use Rattle.std.proofs.Common.{◌+◌, ◌∙◌, sym, arith}
use Rattle.pth_snapshot.proofs.Leading.{opened_turn, opened_ended}
use Rattle.pth_snapshot.proofs.lead.open.Goals as goal

pub returns-in-Running-clause-opened : goal.returns-in-Running-clause-opened
returns-in-Running-clause-opened g c = λ lasts given st.
    let way = c.run_to.ensures.comes (λ over. (let e = sym c.in-Running.is ∙ over in cc e)) given 0 st in
    let made = c.run_to.ensures.running c.in-Running.is in
    opened_turn g.P.Program.functions given c.args.steps (c.run_to.new.machine.turn.steps + 1) c.run_to.new.machine c.turn.new.self _ _ (omega arith) (omega arith) way (c.turn.ensures.goes_on lasts given way.0 way.2)

pub returns-in_default : goal.returns-in_default
returns-in_default g c = record {
  opened = λ lasts given st. opened_ended g.P.Program.functions given c.args.steps c.run_to.new.machine (omega arith) (λ on. c.in_default.not-Running (c.run_to.ensures.outcome ∙ on)) (c.run_to.ensures.comes lasts given 0 st);
  outcome = c.run_to.ensures.outcome;
  running = λ on. absurd (c.in_default.not-Running on);
}
