use Rattle.std.proofs.Common.{◌∙◌, ap, None, Some, rules}
use Rattle.pth_threads.specs.Threads.{slot_of}
use Rattle.pth_threads.specs.declared.entry.Change.TheVariants as change
use Rattle.pth_world.specs.World.{WorldOf}
use Rattle.pth_world.specs.Touches.{view_placed, view_changed}
use Rattle.pth_world.proofs.Moves.{moved_whole, known_slot, left_nowhere, nowhere_after, two_touches, same_twice, queues_alone, threads_alone, threads_then}
use Rattle.pth_world.proofs.Ranks.{ranks_moved_in}
use Rattle.pth_world.proofs.Waits.{zero_enters}
use Rattle.pth_world.proofs.world.World.move_to.Goals as goal

pub put_in-requires-clause-nowhere : goal.put_in-requires-clause-nowhere
put_in-requires-clause-nowhere g c =
    let w = c.args.self.now in
    let m = c.take_out.new.self in
    nowhere_after m c.change.new.self c.args.t.0 c.change.ensures.threads (ap (λ (k : WorldOf _ _ _). k.threads.queues) c.change.ensures.same)
    (left_nowhere w m c.args.t.0 (queues_alone w m c.take_out.ensures.same) c.take_out.ensures.queues)

pub returns-clause-moves : goal.returns-clause-moves
returns-clause-moves g c =
    let w = c.args.self.now in
    let t = c.args.t.0 in
    let a = c.take_out.new.self.threads in
    let b = c.change.new.self.threads in
    let z = c.put_in.new.self.threads in
    let slot = known_slot (slot_of w.threads.records t) c.requires.known in
    let one = queues_alone w c.take_out.new.self c.take_out.ensures.same in
    let two = same_twice w.threads a b one c.change.ensures.threads in
    let three = same_twice w.threads b z two (queues_alone c.change.new.self c.put_in.new.self c.put_in.ensures.same) in
    let change_one = two_touches w.threads a b t (view_placed None) (view_changed (change.Suspended c.args.suspended)) one c.take_out.ensures.touches c.change.ensures.touches in
    let change_two = two_touches w.threads b z t _ (view_placed (Some c.args.q)) two change_one c.put_in.ensures.touches in
    let running = ap (λ (k : WorldOf _ _ _). k.scheduler.running) c.put_in.ensures.same ∙ ap (λ (k : WorldOf _ _ _). k.scheduler.running) c.change.ensures.same ∙ ap (λ (k : WorldOf _ _ _). k.scheduler.running) c.take_out.ensures.same in
    record {
      whole =
          moved_whole w c.put_in.new.self t slot.0 c.args.q c.args.suspended c.requires.whole slot.1 c.requires.may change_two three.slots running (ap (λ (k : WorldOf _ _ _). k.store) c.put_in.ensures.same ∙ ap (λ (k : WorldOf _ _ _). k.store) c.change.ensures.same ∙ ap (λ (k : WorldOf _ _ _). k.store) c.take_out.ensures.same) (ap (λ (k : WorldOf _ _ _). k.attributes) c.put_in.ensures.same ∙ ap (λ (k : WorldOf _ _ _). k.attributes) c.change.ensures.same ∙ ap (λ (k : WorldOf _ _ _). k.attributes) c.take_out.ensures.same) c.put_in.ensures.sound;
      made = three.made;
      ranks = ranks_moved_in c.args.self.now.threads c.put_in.new.self.threads c.args.t.0 c.requires.known c.args.q (search rules);
      same = threads_then w c.change.new.self c.put_in.new.self (threads_then w c.take_out.new.self c.change.new.self (threads_alone w c.take_out.new.self _ c.take_out.ensures.same) (threads_alone c.take_out.new.self c.change.new.self _ c.change.ensures.same)) (threads_alone c.change.new.self c.put_in.new.self _ c.put_in.ensures.same);
    }

pub put_in-requires-clause-rank : goal.put_in-requires-clause-rank
put_in-requires-clause-rank g c = zero_enters c.args.q
