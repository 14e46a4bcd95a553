use Rattle.std.proofs.Common.{◌∙◌, ap, sym, subst, None}
use Rattle.pth_base.specs.declared.thread.ThreadState.TheVariants as state
use Rattle.pth_threads.specs.Threads.{slot_of}
use Rattle.pth_threads.specs.declared.entry.Change.TheVariants as change
use Rattle.pth_model.specs.Changes.{leaves_queue, or_nobody, trails}
use Rattle.pth_model.specs.Part.{runs}
use Rattle.pth_world.specs.World.{WorldOf}
use Rattle.pth_world.specs.Sound.{IsSound}
use Rattle.pth_world.specs.WellFormed.{View}
use Rattle.pth_world.specs.Touches.{Touches, view_placed, view_changed}
use Rattle.pth_world.proofs.Moves.{runs_whole, two_touches, same_twice, queues_alone}
use Rattle.pth_world.proofs.Ranks.{ranks_left}
use Rattle.pth_world.proofs.world.World.dispatch.Goals as goal

pub returns-clause-shows : goal.returns-clause-shows
unfolding runs leaves_queue trails
returns-clause-shows g c k sh =
    let a = c.take_ready-turn.ensures.shows k sh in
    let d = ap (λ o. (or_nobody o).dispatches) (c.record_of.ensures _ a) in
    rw (← d, ← c.one_more.ensures) (c.name_next.ensures.shows _ (c.set_running.ensures.shows _ (c.change_of-2.ensures.shows _ (c.change_of.ensures.shows _ a))))

pub returns-clause-whole : goal.returns-clause-whole
returns-clause-whole g c =
    let w = c.args.self.now in
    let t = c.args.t.0 in
    let n = c.one_more.result in
    let x = c.take_ready-turn.new.self.threads in
    let y = c.change_of.new.self.threads in
    let z = c.change_of-2.new.self.threads in
    let one = queues_alone w c.take_ready-turn.new.self c.take_ready-turn.ensures.same in
    let two = same_twice w.threads x y one c.change_of.ensures.threads in
    let three = same_twice w.threads y z two c.change_of-2.ensures.threads in
    let change_one = two_touches w.threads x y t (view_placed None) (view_changed (change.State state.Running)) one c.take_ready-turn.ensures.touches c.change_of.ensures.touches in
    let change_two = two_touches w.threads y z t _ (view_changed (change.Dispatches n)) two change_one c.change_of-2.ensures.touches in
    let threads = ap (λ (k : WorldOf _ _ _). k.threads) c.name_next.ensures.same ∙ ap (λ (k : WorldOf _ _ _). k.threads) c.set_running.ensures.same in
    let running = ap (λ (k : WorldOf _ _ _). k.scheduler.running) c.name_next.ensures.same ∙ ap (λ (k : WorldOf _ _ _). k.scheduler.running) c.set_running.ensures.same in
    runs_whole w c.name_next.new.self t n c.requires.whole c.requires.known c.requires.stands c.requires.nobody running
    (subst IsSound (sym threads) c.change_of-2.ensures.sound)
    (ap (λ v. slot_of v.records) threads ∙ three.slots)
    (ap (λ (k : WorldOf _ _ _). k.store) c.name_next.ensures.same ∙ ap (λ (k : WorldOf _ _ _). k.store) c.set_running.ensures.same ∙ ap (λ (k : WorldOf _ _ _). k.store) c.change_of-2.ensures.same ∙ ap (λ (k : WorldOf _ _ _). k.store) c.change_of.ensures.same ∙ ap (λ (k : WorldOf _ _ _). k.store) c.take_ready-turn.ensures.same)
    (ap (λ (k : WorldOf _ _ _). k.attributes) c.name_next.ensures.same ∙ ap (λ (k : WorldOf _ _ _). k.attributes) c.set_running.ensures.same ∙ ap (λ (k : WorldOf _ _ _). k.attributes) c.change_of-2.ensures.same ∙ ap (λ (k : WorldOf _ _ _). k.attributes) c.change_of.ensures.same ∙ ap (λ (k : WorldOf _ _ _). k.attributes) c.take_ready-turn.ensures.same)
    (subst (λ v. Touches w.threads v t (λ (k : View). view_changed (change.Dispatches n) (view_changed (change.State state.Running) (view_placed None k)))) (sym threads) change_two)

pub returns-clause-queues : goal.returns-clause-queues
returns-clause-queues g c =
    let queues = ap (λ (k : WorldOf _ _ _). k.threads.queues) c.name_next.ensures.same ∙ ap (λ (k : WorldOf _ _ _). k.threads.queues) c.set_running.ensures.same ∙ ap (λ (k : WorldOf _ _ _). k.threads.queues) c.change_of-2.ensures.same ∙ ap (λ (k : WorldOf _ _ _). k.threads.queues) c.change_of.ensures.same in
    rw queues c.take_ready-turn.ensures.queues

pub returns-clause-ranks : goal.returns-clause-ranks
returns-clause-ranks g c = ranks_left c.args.self.now.threads c.name_next.new.self.threads c.args.t.0 c.requires.known (returns-clause-queues g c)

pub record_of-requires-clause-at : goal.record_of-requires-clause-at
record_of-requires-clause-at g c = ap (λ (k : WorldOf _ _ _). slot_of k.threads.records c.args.t.0) c.take_ready-turn.ensures.same ∙ c.slot-slot.ensures.slot

pub change_of-requires-clause-at : goal.change_of-requires-clause-at
change_of-requires-clause-at g c = ap (λ (k : WorldOf _ _ _). slot_of k.threads.records c.args.t.0) c.take_ready-turn.ensures.same ∙ c.slot-slot.ensures.slot

pub change_of-requires-2-clause-at : goal.change_of-requires-2-clause-at
change_of-requires-2-clause-at g c = ap (λ f. f c.args.t.0) c.change_of.ensures.threads.slots ∙ ap (λ (k : WorldOf _ _ _). slot_of k.threads.records c.args.t.0) c.take_ready-turn.ensures.same ∙ c.slot-slot.ensures.slot
