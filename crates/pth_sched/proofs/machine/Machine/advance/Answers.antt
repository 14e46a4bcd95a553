use Rattle.std.proofs.Common.{◌≢◌, ◌∙◌, ◌+◌, sym, refl, arith, rules}
use Rattle.pth_base.specs.declared.outcome.Outcome.TheVariants.{Running}
use Rattle.pth_model.specs.Run.{stops_at}
use Rattle.pth_sched.proofs.Following.{stays}
use Rattle.pth_sched.proofs.RunLaws.{drives_lawfully, standing_keeps}
use Rattle.pth_sched.proofs.machine.Machine.advance.Goals as goal

pub returns-in_default : goal.returns-in_default
returns-in_default g c =
    let ended : c.args.self.now.turn.outcome ≢ Running = search rules in
    record {
      goes_on = λ memory x i st. stays g.P.Program.functions x _ i c.args.self.now _ ended st;
      breaks_off = λ none x i st. absurd (st.memory (sym c.outcome.ensures ∙ none));
      running = (λ runs. absurd (ended (sym c.outcome.ensures ∙ runs)), λ at. absurd (ended at.1.goes));
      laws = λ x i before st so_far. standing_keeps g.P.Program.functions x i _ _ st so_far;
      steps = omega arith;
      outcome = c.outcome.ensures;
      again = λ before. (c.outcome.ensures, refl);
    }

pub returns-clause-goes_on : goal.returns-clause-goes_on
returns-clause-goes_on g c = search rules

pub returns-clause-breaks_off : goal.returns-clause-breaks_off
returns-clause-breaks_off g c = search rules

pub returns-clause-outcome : goal.returns-clause-outcome
returns-clause-outcome g c = search rules

pub returns-clause-laws : goal.returns-clause-laws
returns-clause-laws g c =
    let f = g.P.Program.functions in
    drives_lawfully f (λ x i. stops_at f x (c.args.self.now.turn.steps + c.args.n)) _ _ _ _ _ (returns-clause-outcome g c) (returns-clause-goes_on g c) (returns-clause-breaks_off g c)
