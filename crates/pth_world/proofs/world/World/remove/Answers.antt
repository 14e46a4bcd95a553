use Rattle.std.proofs.Common.{◌∙◌, ap, sym}
use Rattle.pth_queue.specs.declared.queue.Queue.TheVariants.{Dead}
use Rattle.pth_queue.specs.Queues.{QueuesOf}
use Rattle.pth_threads.specs.Threads.{slot_of}
use Rattle.pth_world.specs.Store.{StoreOf}
use Rattle.pth_world.specs.World.{WorldOf}
use Rattle.pth_world.proofs.Moves.{gone_whole, known_slot, rests_still, queued_rests, dead_nothing}
use Rattle.pth_world.proofs.Ranks.{ranks_left}
use Rattle.pth_world.proofs.world.World.remove.Goals as goal

pub returns-clause-moves : goal.returns-clause-moves
returns-clause-moves g c =
    let w = c.args.self.now in
    let slot = known_slot (slot_of w.threads.records c.args.t.0) c.requires.known in
    let running = ap (λ (k : WorldOf _ _ _). k.scheduler.running) c.drop_thread.ensures.same in
    let still = c.drop_thread.ensures.still (dead_nothing w c.args.t.0 c.requires.whole c.requires.known c.requires.dead) in
    record {
      whole =
          gone_whole w c.drop_thread.new.self c.args.t.0 slot.0 c.requires.whole slot.1 (running ∙ sym (rests_still c.args.t.0 w.scheduler.running (queued_rests w c.args.t.0 Dead c.requires.whole c.requires.dead)))
          c.drop_thread.ensures.others (rw slot.1 at c.drop_thread.ensures.threads) c.drop_thread.ensures.store (ap (λ (k : WorldOf _ _ _). k.attributes) c.drop_thread.ensures.same) (ap (λ (x : QueuesOf). x.top) (rw slot.1 at c.drop_thread.ensures.queues)) c.drop_thread.ensures.sound;
      made = (rw slot.1 at c.drop_thread.ensures.threads).made;
      ranks = ranks_left c.args.self.now.threads c.drop_thread.new.self.threads c.args.t.0 c.requires.known c.drop_thread.ensures.queues;
      same = c.drop_thread.ensures.same ∙ ap (λ (y : StoreOf). record w { threads = c.drop_thread.new.self.threads; store = y }) still;
    }
