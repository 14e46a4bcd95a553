use Rattle.std.proofs.Common.{◌∙◌, pos, ap, sym, subst, Some, None, false, rules, SFits, w64, to_z-of_z}
use Rattle.pth_base.specs.declared.thread.ThreadState.TheVariants as state
use Rattle.pth_queue.specs.declared.queue.Queue.TheVariants as queue
use Rattle.pth_threads.specs.Threads.{slot_of}
use Rattle.pth_threads.specs.declared.entry.Change.TheVariants as change
use Rattle.pth_model.specs.Ending.{is_dead_with}
use Rattle.pth_world.specs.World.{WorldOf}
use Rattle.pth_world.specs.Sound.{IsSound}
use Rattle.pth_world.specs.WellFormed.{View}
use Rattle.pth_world.specs.Touches.{Touches, view_placed, view_changed}
use Rattle.pth_world.proofs.Moves.{dead_whole, known_slot, left_nowhere, nowhere_after, two_touches, same_twice, queues_alone, stopped_then, threads_alone, threads_then}
use Rattle.pth_world.proofs.Ranks.{ranks_dead}
use Rattle.pth_world.proofs.Waits.{zero_enters}
use Rattle.pth_world.proofs.world.World.make_dead.Goals as goal

pub put_in-requires-clause-nowhere : goal.put_in-requires-clause-nowhere
put_in-requires-clause-nowhere g c =
    let m = c.take_out.new.self in
    let v = c.change-3.new.self in
    let one = same_twice m.threads c.change.new.self.threads c.change-2.new.self.threads c.change.ensures.threads c.change-2.ensures.threads in
    let queues = ap (λ (k : WorldOf _ _ _). k.threads.queues) c.change-3.ensures.same ∙ ap (λ (k : WorldOf _ _ _). k.threads.queues) c.change-2.ensures.same ∙ ap (λ (k : WorldOf _ _ _). k.threads.queues) c.change.ensures.same in
    nowhere_after m v c.args.t.0 (same_twice m.threads c.change-2.new.self.threads v.threads one c.change-3.ensures.threads) queues
    (left_nowhere c.args.self.now m c.args.t.0 (queues_alone c.args.self.now m c.take_out.ensures.same) c.take_out.ensures.queues)

pub returns-clause-shows : goal.returns-clause-shows
unfolding is_dead_with
returns-clause-shows g c k sh =
    let f : SFits w64 c.args.value = search rules in
    let a = c.change-2.ensures.shows _ (c.change.ensures.shows _ (c.take_out.ensures.shows k sh)) in
    let b = (rw to_z-of_z at c.change-3.ensures.shows) _ a in
    c.stop_running.ensures.shows _ (c.put_in.ensures.shows _ b)

pub returns-clause-moves : goal.returns-clause-moves
returns-clause-moves g c =
    let f : SFits w64 c.args.value = search rules in
    let w = c.args.self.now in
    let t = c.args.t.0 in
    let a = c.take_out.new.self.threads in
    let b = c.change.new.self.threads in
    let d = c.change-2.new.self.threads in
    let e = c.change-3.new.self.threads in
    let z = c.put_in.new.self.threads in
    let slot = known_slot (slot_of w.threads.records t) c.requires.known in
    let one = queues_alone w c.take_out.new.self c.take_out.ensures.same in
    let two = same_twice w.threads a b one c.change.ensures.threads in
    let three = same_twice w.threads b d two c.change-2.ensures.threads in
    let four = same_twice w.threads d e three c.change-3.ensures.threads in
    let five = same_twice w.threads e z four (queues_alone c.change-3.new.self c.put_in.new.self c.put_in.ensures.same) in
    let change_one = two_touches w.threads a b t (view_placed None) (view_changed (change.State state.Dead)) one c.take_out.ensures.touches c.change.ensures.touches in
    let change_two = two_touches w.threads b d t _ (view_changed (change.Suspended false)) two change_one c.change-2.ensures.touches in
    let change_three = two_touches w.threads d e t _ (view_changed (change.Value c.args.value)) three change_two (rw to_z-of_z at c.change-3.ensures.touches) in
    let change_four = two_touches w.threads e z t _ (view_placed (Some queue.Dead)) four change_three c.put_in.ensures.touches in
    let threads = ap (λ (k : WorldOf _ _ _). k.threads) c.stop_running.ensures.same in
    let left = threads_then w c.take_out.new.self c.change.new.self (threads_alone w c.take_out.new.self _ c.take_out.ensures.same) (threads_alone c.take_out.new.self c.change.new.self _ c.change.ensures.same) in
    let changed = threads_then w c.change-2.new.self c.change-3.new.self (threads_then w c.change.new.self c.change-2.new.self left (threads_alone c.change.new.self c.change-2.new.self _ c.change-2.ensures.same)) (threads_alone c.change-2.new.self c.change-3.new.self _ c.change-3.ensures.same) in
    record {
      whole =
          dead_whole w c.stop_running.new.self t slot.0 c.requires.whole slot.1 search rules c.args.value
          (subst IsSound (sym threads) c.put_in.ensures.sound)
          (ap (λ (k : WorldOf _ _ _). k.store) c.stop_running.ensures.same ∙ ap (λ (k : WorldOf _ _ _). k.store) c.put_in.ensures.same ∙ ap (λ (k : WorldOf _ _ _). k.store) c.change-3.ensures.same ∙ ap (λ (k : WorldOf _ _ _). k.store) c.change-2.ensures.same ∙ ap (λ (k : WorldOf _ _ _). k.store) c.change.ensures.same ∙ ap (λ (k : WorldOf _ _ _). k.store) c.take_out.ensures.same)
          (ap (λ (k : WorldOf _ _ _). k.attributes) c.stop_running.ensures.same ∙ ap (λ (k : WorldOf _ _ _). k.attributes) c.put_in.ensures.same ∙ ap (λ (k : WorldOf _ _ _). k.attributes) c.change-3.ensures.same ∙ ap (λ (k : WorldOf _ _ _). k.attributes) c.change-2.ensures.same ∙ ap (λ (k : WorldOf _ _ _). k.attributes) c.change.ensures.same ∙ ap (λ (k : WorldOf _ _ _). k.attributes) c.take_out.ensures.same)
          c.requires.nothing
          (ap (λ x. slot_of x.records) threads ∙ five.slots)
          (subst (λ x. Touches w.threads x t (λ (k : View). view_placed (Some queue.Dead) (view_changed (change.Value c.args.value) (view_changed (change.Suspended false) (view_changed (change.State state.Dead) (view_placed None k)))))) (sym threads) change_four);
      made = ap (λ x. x.records.made) threads ∙ five.made;
      ranks = ranks_dead c.args.self.now.threads c.stop_running.new.self.threads c.args.t.0 c.requires.known (pos 0) (search rules);
      same = stopped_then t w c.put_in.new.self c.stop_running.new.self (threads_then w c.change-3.new.self c.put_in.new.self changed (threads_alone c.change-3.new.self c.put_in.new.self _ c.put_in.ensures.same)) c.stop_running.ensures.same;
    }

pub put_in-requires-clause-rank : goal.put_in-requires-clause-rank
put_in-requires-clause-rank g c = zero_enters queue.Dead
