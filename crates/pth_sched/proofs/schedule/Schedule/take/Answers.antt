use Rattle.std.proofs.Common.{◌≡◌, ◌≤◌, ◌∙◌, None, ap, refl, sym, subst, rules, SFits, w64, to_z-of_z}
use Rattle.std.proofs.lemmas.Result.{on_err_weaker, on_ok_weaker}
use Rattle.pth_base.proofs.Cuts.{cut_none}
use Rattle.pth_base.specs.Limits.{most_steps}
use Rattle.pth_model.specs.State.{Scheduler}
use Rattle.pth_world.specs.Numbering.{Thread, Object, Event, Port, GivesNone}
use Rattle.pth_sched.specs.MachineOf.{IsGoing, HasUpperBound}
use Rattle.pth_sched.specs.Running.{Stands}
use Rattle.pth_sched.proofs.Parts.{take_makes, take_stands, ready_history, few_turns, turns_few}
use Rattle.pth_sched.proofs.UpperBounds.{take_bounded}
use Rattle.pth_sched.proofs.Keeping.{gives_rest}
use Rattle.pth_sched.proofs.Going.{named_on, named_ready, take_going}
use Rattle.pth_sched.proofs.QuiescentWorlds.{take_quiescent}
use Rattle.pth_sched.proofs.schedule.Schedule.take.Goals as goal

pub returns-clause-ok : goal.returns-clause-ok
returns-clause-ok g c =
    let fits : SFits w64 c.ready_rank-rank.result = search rules in
    let told = simp to_z-of_z at c.push.ensures.ok in
    let nobody = subst (λ m. m.world.scheduler.running ≡ None) (sym c.self.view_is) c.requires.nobody in
    let going = subst (λ m. IsGoing m) (sym c.self.view_is) c.requires.going in
    let begun = going.between nobody in
    let steps = subst (λ m. m.turn.steps ≤ most_steps) (sym c.self.view_is) c.requires.few in
    let few = turns_few _ _ begun steps in
    on_ok_weaker c.push.result (λ tells x st history.
    let inside = subst (λ m. Stands m x) (sym c.self.view_is) st in
    let ready = c.ready_new.ensures.shows x.state.control inside.world.control in
    let numbers = c.dispatch-turn.ensures.numbers _ ready (ready_history _ x inside history) (few_turns _ x inside history few) in
    take_makes _ x inside c.next-t.result.0 c.ready_new.new.w c.dispatch-turn.new.self ready (c.next-t.ensures.next _ ready) (c.dispatch-turn.ensures.shows _ ready) (ap (λ w. w.store) c.dispatch-turn.ensures.same ∙ c.ready_new.ensures.scheduler.store)
    c.ready_rank-rank.result _ c.dispatch-turn.result _ _ (c.ready_rank-rank.ensures _ ready) (c.time.ensures.now ∙ ap (λ w. w.kernel.now) c.dispatch-turn.ensures.same) numbers tells) told

pub returns-clause-stands : goal.returns-clause-stands
returns-clause-stands g c =
    on_ok_weaker c.push.result (λ tells x st.
    let inside = subst (λ m. Stands m x) (sym c.self.view_is) st in
    let ready = c.ready_new.ensures.shows x.state.control inside.world.control in
    take_stands _ x inside c.next-t.result.0 c.ready_new.new.w c.dispatch-turn.new.self ready (c.next-t.ensures.next _ ready) (c.dispatch-turn.ensures.shows _ ready) (ap (λ w. w.store) c.dispatch-turn.ensures.same ∙ c.ready_new.ensures.scheduler.store)) c.push.ensures.ok

pub returns-clause-err : goal.returns-clause-err
returns-clause-err g c = on_err_weaker c.push.result (λ same x st. cut_none _ _ _ same) c.push.ensures.err

pub returns-clause-ranks : goal.returns-clause-ranks
returns-clause-ranks g c =
    let inside = subst (λ m. HasUpperBound m) (sym c.self.view_is) c.requires.ranks in
    let nobody = subst (λ m. m.world.scheduler.running ≡ None) (sym c.self.view_is) c.requires.nobody in
    let gave = subst (λ m. m.turn.gave ≡ None) (sym c.self.view_is) c.requires.over in
    on_ok_weaker c.push.result (λ tells. take_bounded _ _ c.ready_new.new.w inside gave nobody (c.ready_new.ensures.ranks inside.bound inside.low inside.under) c.ready_new.ensures.none c.dispatch-turn.ensures.ranks refl refl) c.push.ensures.ok

pub next-t-requires-clause-named : goal.next-t-requires-clause-named
next-t-requires-clause-named g c =
    let inside = subst (λ m. IsGoing m) (sym c.self.view_is) c.requires.going in
    named_ready c.ready_new.new.w c.ready_new.ensures.none (named_on _ _ _ c.ready_new.new.w.threads (ap (λ (x : Scheduler). x.preferred) c.ready_new.ensures.scheduler.scheduler) c.ready_new.ensures.stays inside.preferred)

pub returns-clause-going : goal.returns-clause-going
returns-clause-going g c =
    let inside = subst (λ m. IsGoing m) (sym c.self.view_is) c.requires.going in
    let nobody = subst (λ m. m.world.scheduler.running ≡ None) (sym c.self.view_is) c.requires.nobody in
    let gave = subst (λ m. m.turn.gave ≡ None) (sym c.self.view_is) c.requires.over in
    let dispatched : GivesNone c.ready_new.new.w c.dispatch-turn.new.self = elim [ Thread ↦ c.dispatch-turn.ensures.threads.made | Object ↦ ap (λ w. w.attributes.objects.made) c.dispatch-turn.ensures.same | Event ↦ ap (λ w. w.events.made) c.dispatch-turn.ensures.same | Port ↦ ap (λ w. w.store.ports.made) c.dispatch-turn.ensures.same ] in
    on_ok_weaker c.push.result (λ tells. take_going _ _ inside c.next-t.result.0 nobody c.dispatch-turn.ensures.whole (ap (λ w. w.scheduler.running) c.dispatch-turn.ensures.same) (ap (λ w. w.scheduler.preferred) c.dispatch-turn.ensures.same) (λ k. dispatched k ∙ gives_rest _ _ c.ready_new.ensures.scheduler c.ready_new.ensures.made k) gave refl refl) c.push.ensures.ok

pub invariant_of-self : goal.invariant_of-self
invariant_of-self g c = λ some.
    let nobody = subst (λ m. m.world.scheduler.running ≡ None) (sym c.self.view_is) c.requires.nobody in
    take_quiescent _ _ (c.self.invariant some) c.ready_new.new.w c.dispatch-turn.new.self c.next-t.result.0 nobody c.ready_new.ensures.shows c.dispatch-turn.ensures.shows (ap (λ w. w.store) c.dispatch-turn.ensures.same ∙ c.ready_new.ensures.scheduler.store)
