use Rattle.std.proofs.Common.{◌∙◌, ap, sym, subst, rules}
use Rattle.pth_queue.specs.Queues.{QueuesOf}
use Rattle.pth_threads.specs.Threads.{slot_of}
use Rattle.pth_world.specs.World.{WorldOf, ThreadsBySlot}
use Rattle.pth_world.specs.Store.{StoreOf, store_of}
use Rattle.pth_world.specs.Sound.{IsSound}
use Rattle.pth_world.proofs.Moves.{gone_whole, known_slot, stopped_then}
use Rattle.pth_world.proofs.Ranks.{ranks_left}
use Rattle.pth_world.proofs.world.World.make_gone.Goals as goal

pub returns-clause-shows : goal.returns-clause-shows
returns-clause-shows g c k sh = c.stop_running.ensures.shows _ (c.drop_thread.ensures.shows k sh)

pub returns-clause-moves : goal.returns-clause-moves
returns-clause-moves g c =
    let w = c.args.self.now in
    let slot = known_slot (slot_of w.threads.records c.args.t.0) c.requires.known in
    let threads = ap (λ (k : WorldOf _ _ _). k.threads) c.stop_running.ensures.same in
    let gone = rw slot.1 at c.drop_thread.ensures.threads in
    let dropped = c.drop_thread.ensures.same ∙ ap (λ (y : StoreOf). record w { threads = c.drop_thread.new.self.threads; store = y }) (c.drop_thread.ensures.still c.requires.nothing) in
    record {
      whole =
          gone_whole w c.stop_running.new.self c.args.t.0 slot.0 c.requires.whole slot.1 search rules
          (rw threads c.drop_thread.ensures.others) (rw threads gone) (ap (λ (k : WorldOf _ _ _). store_of k.store) c.stop_running.ensures.same ∙ c.drop_thread.ensures.store) (ap (λ (k : WorldOf _ _ _). k.attributes) c.stop_running.ensures.same ∙ ap (λ (k : WorldOf _ _ _). k.attributes) c.drop_thread.ensures.same) (ap (λ (x : ThreadsBySlot _). x.queues.top) threads ∙ ap (λ (x : QueuesOf). x.top) (rw slot.1 at c.drop_thread.ensures.queues)) (subst IsSound (sym threads) c.drop_thread.ensures.sound);
      made = ap (λ x. x.records.made) threads ∙ gone.made;
      ranks = ranks_left c.args.self.now.threads c.stop_running.new.self.threads c.args.t.0 c.requires.known (search rules);
      same = stopped_then c.args.t.0 w c.drop_thread.new.self c.stop_running.new.self dropped c.stop_running.ensures.same;
    }
