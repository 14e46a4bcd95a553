use Rattle.std.proofs.Common.{◌≡◌, ap, sym, subst}
use Rattle.pth_world.specs.Frame.{runs_after}
use Rattle.pth_world.specs.Shows.{Shows}
use Rattle.pth_sched.proofs.QuiescentSteps.{owed_stays_quiescent}
use Rattle.pth_sched.proofs.schedule.Schedule.settle.Goals.{then-t-eq-MAIN, else-t-eq-MAIN}
use Rattle.pth_sched.proofs.schedule.Schedule.settle.Goals as goal

pub returns-in-Done-clause-shows : goal.returns-in-Done-clause-shows
returns-in-Done-clause-shows g c = λ k st. rw c.in-Done.is (c.owe.ensures.shows k (subst (λ m. Shows m.world k) (sym c.self.view_is) st))

pub returns-in-Yields-clause-shows : goal.returns-in-Yields-clause-shows
returns-in-Yields-clause-shows g c = λ k st. rw c.in-Yields.is (c.owe-in-Yields.ensures.shows k (subst (λ m. Shows m.world k) (sym c.self.view_is) st))

pub invariant_of-self : goal.invariant_of-self
invariant_of-self g c = λ some.
    let runs = subst (λ m. m.world.scheduler.running ≡ runs_after c.args.t.0 c.args.next) (sym c.self.view_is) c.requires.runs in
    owed_stays_quiescent _ c.owe.new.self _ c.args.t.0 c.args.next (c.self.invariant some) (rw c.in-Done.is at runs) (λ k sh. rw c.in-Done.is (c.owe.ensures.shows k sh)) (ap (λ w. w.store) c.owe.ensures.same)

pub invariant_of-self-in-Yields : goal.invariant_of-self-in-Yields
invariant_of-self-in-Yields g c = λ some.
    let runs = subst (λ m. m.world.scheduler.running ≡ runs_after c.args.t.0 c.args.next) (sym c.self.view_is) c.requires.runs in
    owed_stays_quiescent _ c.owe-in-Yields.new.self _ c.args.t.0 c.args.next (c.self.invariant some) (rw c.in-Yields.is at runs) (λ k sh. rw c.in-Yields.is (c.owe-in-Yields.ensures.shows k sh)) (ap (λ w. w.store) c.owe-in-Yields.ensures.same)

pub invariant_of-self-in-Ended : goal.invariant_of-self-in-Ended
invariant_of-self-in-Ended g c = elim c.if-t-eq-MAIN.branch [
  | then-t-eq-MAIN w ↦ rw w.self-inside-is c.self.invariant
  | else-t-eq-MAIN w ↦ rw w.self-inside-is c.self.invariant
]
