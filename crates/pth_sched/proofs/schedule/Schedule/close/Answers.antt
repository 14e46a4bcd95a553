use Rattle.std.proofs.Common.{◌≡◌, ◌≤◌, ◌∙◌, Some, ap, refl, sym, subst}
use Rattle.std.proofs.lemmas.Result.{on_ok_weaker, on_err_weaker}
use Rattle.pth_base.specs.Limits.{most_steps}
use Rattle.pth_model.specs.State.{Scheduler}
use Rattle.pth_sched.specs.MachineOf.{IsGoing, HasUpperBound}
use Rattle.pth_sched.specs.Running.{Stands}
use Rattle.pth_sched.proofs.Keeping.{gives_rest}
use Rattle.pth_sched.proofs.Parts.{close_makes, closes_marks, turn_over}
use Rattle.pth_sched.proofs.UpperBounds.{close_bounded, ready_rises}
use Rattle.pth_sched.proofs.Going.{close_going, named_on}
use Rattle.pth_sched.proofs.QuiescentWorlds.{own_by, turn_over_stays_quiescent}
use Rattle.pth_sched.proofs.schedule.Schedule.close.Goals as goal

pub end_turn-requires-clause-rise : goal.end_turn-requires-clause-rise
end_turn-requires-clause-rise g c =
    let going = subst (λ m. IsGoing m) (sym c.self.view_is) c.requires.going in
    let bounded = subst (λ m. HasUpperBound m) (sym c.self.view_is) c.requires.ranks in
    let few = subst (λ m. m.turn.steps ≤ most_steps) (sym c.self.view_is) c.requires.few in
    ready_rises _ going bounded few

pub returns-clause-ok : goal.returns-clause-ok
returns-clause-ok g c =
    on_ok_weaker c.pass_unless_quiescent.result (λ leads x st.
    let inside = subst (λ m. Stands m x) (sym c.self.view_is) st in
    close_makes _ x inside g.P.Program.functions c.args.t.0 c.pass_unless_quiescent.new.w _ _ (leads _ (turn_over _ x inside c.args.t.0 c.end_turn.new.w (c.end_turn.ensures.shows x.state.control inside.world.control) c.end_turn.ensures.store))) c.pass_unless_quiescent.ensures.goes.leads

pub returns-clause-err : goal.returns-clause-err
returns-clause-err g c =
    on_err_weaker c.pass_unless_quiescent.result (λ cut x st.
    let inside = subst (λ m. Stands m x) (sym c.self.view_is) st in
    rw (closes_marks g.P.Program.functions x.turn c.args.t.0 x.state) (cut _ (turn_over _ x inside c.args.t.0 c.end_turn.new.w (c.end_turn.ensures.shows x.state.control inside.world.control) c.end_turn.ensures.store))) c.pass_unless_quiescent.ensures.goes.cut

pub returns-clause-ranks : goal.returns-clause-ranks
returns-clause-ranks g c =
    let inside = subst (λ m. HasUpperBound m) (sym c.self.view_is) c.requires.ranks in
    let over = subst (λ m. m.turn.gave ≡ Some c.args.t.0) (sym c.self.view_is) c.requires.over in
    on_ok_weaker c.pass_unless_quiescent.result (λ wakes.
    close_bounded _ _ c.args.t.0 c.end_turn.new.w inside over refl (ap (λ (x : Scheduler). x.running) wakes.rest.scheduler ∙ c.end_turn.ensures.running) c.end_turn.ensures.ranks c.end_turn.ensures.fresh wakes.ranks refl refl)
    c.pass_unless_quiescent.ensures.only_wakes

pub returns-clause-going : goal.returns-clause-going
returns-clause-going g c =
    let inside = subst (λ m. IsGoing m) (sym c.self.view_is) c.requires.going in
    let over = subst (λ m. m.turn.gave ≡ Some c.args.t.0) (sym c.self.view_is) c.requires.over in
    on_ok_weaker c.pass_unless_quiescent.result (λ wakes.
    let rest = wakes.rest in
    let named = named_on _ _ _ c.pass_unless_quiescent.new.w.threads (ap (λ (x : Scheduler). x.preferred) rest.scheduler ∙ c.end_turn.ensures.preferred) (λ u waits. wakes.stays u (c.end_turn.ensures.stays u waits)) inside.preferred in
    close_going _ _ inside c.args.t.0 over wakes.whole (ap (λ (x : Scheduler). x.running) rest.scheduler ∙ c.end_turn.ensures.running) named (λ k. gives_rest _ _ rest wakes.made k ∙ c.end_turn.ensures.gives k) refl refl refl)
    c.pass_unless_quiescent.ensures.only_wakes

pub pass_unless_quiescent-requires-clause-quiescence : goal.pass_unless_quiescent-requires-clause-quiescence
pass_unless_quiescent-requires-clause-quiescence g c = λ some.
    let going = subst (λ m. IsGoing m) (sym c.self.view_is) c.requires.going in
    let over = subst (λ m. m.turn.gave ≡ Some c.args.t.0) (sym c.self.view_is) c.requires.over in
    turn_over_stays_quiescent _ _ (c.self.invariant some) c.end_turn.new.w c.args.t.0 (own_by c.args.t.0 _ (rw over at going.own)) c.end_turn.ensures.shows c.end_turn.ensures.store c.end_turn.ensures.within
