use Rattle.std.proofs.Common.{◌≡◌, ◌≤◌, arith, Some, None, ◌∙◌, ap, subst, sym, rules}
use Rattle.pth_base.specs.Limits.{most_steps}
use Rattle.pth_model.specs.State.{Turn}
use Rattle.pth_sched.specs.MachineOf.{IsGoing, HasUpperBound}
use Rattle.pth_sched.specs.Running.{Stands}
use Rattle.pth_sched.proofs.Parts.{after_memory, step_makes, steps_marks, turn_turns, turn_steps}
use Rattle.pth_sched.proofs.UpperBounds.{step_bounded}
use Rattle.pth_sched.proofs.Going.{step_going}
use Rattle.pth_sched.proofs.schedule.Schedule.step.Goals as goal

pub go_on-requires-clause-few : goal.go_on-requires-clause-few
go_on-requires-clause-few g c k =
    let before = subst (λ m. IsGoing m) (sym c.self.view_is) c.requires.going in
    let few = subst (λ m. m.turn.steps ≤ most_steps) (sym c.self.view_is) c.requires.few in
    let given = before.made k in
    omega arith

pub returns-in-Err-clause-err : goal.returns-in-Err-clause-err
returns-in-Err-clause-err g c = λ x st right.
    let inside = subst (λ m. Stands m x) (sym c.self.view_is) st in
    rw (steps_marks g.P.Program.functions x.turn c.args.t.0 x.state) (c.in-Err.ensures.goes.cut x.state (inside.world, right))

pub returns-clause-ok : goal.returns-clause-ok
returns-clause-ok g c = λ x st right.
    let inside = subst (λ m. Stands m x) (sym c.self.view_is) st in
    step_makes _ x inside g.P.Program.functions _ c.args.t.0 c.go_on.new.w c.in-Ok.next _ _ (c.in-Ok.ensures.goes.next x.state (inside.world, right)) (c.in-Ok.ensures.goes.leads x.state (inside.world, right)) c.settle.ensures.shows (ap (λ w. w.store) c.settle.ensures.same) c.settle.ensures.turn (λ e. after_memory c.args.t.0 c.in-Ok.next _ inside.memory (sym (ap (λ (x : Turn). x.outcome) c.settle.ensures.turn) ∙ e))

pub returns-clause-ranks : goal.returns-clause-ranks
returns-clause-ranks g c =
    let before = subst (λ m. HasUpperBound m) (sym c.self.view_is) c.requires.ranks in
    let queues = ap (λ w. w.threads.queues) c.settle.ensures.same in
    let turns = ap (λ (x : Turn). x.turns) c.settle.ensures.turn ∙ turn_turns c.args.t.0 c.in-Ok.next _ in
    let steps = ap (λ (x : Turn). x.steps) c.settle.ensures.turn ∙ turn_steps c.args.t.0 c.in-Ok.next _ in
    step_bounded _ _ c.args.t.0 c.go_on.new.w before (search rules) c.in-Ok.ensures.frame.ranks queues turns steps

pub returns-clause-going : goal.returns-clause-going
returns-clause-going g c =
    let before = subst (λ m. IsGoing m) (sym c.self.view_is) c.requires.going in
    let over = subst (λ m. m.turn.gave ≡ None) (sym c.self.view_is) c.requires.over in
    let runs = subst (λ m. m.world.scheduler.running ≡ Some c.args.t.0) (sym c.self.view_is) c.requires.runs in
    step_going _ _ before c.args.t.0 c.in-Ok.next c.go_on.new.w over runs c.in-Ok.ensures.frame c.settle.ensures.whole c.settle.ensures.same c.settle.ensures.turn

pub invariant_of-self-2 : goal.invariant_of-self-2
invariant_of-self-2 g c = λ some. c.in-Ok.ensures.quiescence c.self.invariant some
