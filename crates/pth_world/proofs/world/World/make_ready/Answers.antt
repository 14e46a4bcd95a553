use Rattle.std.proofs.Common.{◌∙◌, ap, rules, SFits, w64, to_z-of_z}
use Rattle.pth_threads.specs.Threads.{slot_of}
use Rattle.pth_model.specs.Pass.{is_ready_at}
use Rattle.pth_world.specs.World.{WorldOf}
use Rattle.pth_world.proofs.Moves.{make_ready_whole, queues_alone, left_nowhere, same_twice, two_touches}
use Rattle.pth_world.proofs.Ranks.{ranks_ready}
use Rattle.pth_world.proofs.Runnable.{among_ready, stays_touched}
use Rattle.pth_world.proofs.world.World.make_ready.Goals as goal

pub put_ready_at-requires-clause-nowhere : goal.put_ready_at-requires-clause-nowhere
put_ready_at-requires-clause-nowhere g c = left_nowhere c.args.self.now c.take_from.new.self c.args.t.0 (queues_alone _ _ c.take_from.ensures.same) c.take_from.ensures.queues

pub returns-clause-shows : goal.returns-clause-shows
unfolding is_ready_at
returns-clause-shows g c k sh =
    let f : SFits w64 c.args.rank = search rules in
    (rw to_z-of_z at c.put_ready_at.ensures.shows) _ (c.take_from.ensures.shows k sh)

pub returns-clause-whole : goal.returns-clause-whole
returns-clause-whole g c = make_ready_whole c.args.self.now c.take_from.new.self c.put_ready_at.new.self c.args.t.0 c.requires.before.queue c.requires.whole c.requires.known c.requires.before.before c.requires.before.stands c.take_from.ensures.touches c.take_from.ensures.same c.put_ready_at.ensures.touches c.put_ready_at.ensures.threads (ap (λ (k : WorldOf _ _ _). k.scheduler.running) c.put_ready_at.ensures.same) (ap (λ (k : WorldOf _ _ _). k.store) c.put_ready_at.ensures.same) (ap (λ (k : WorldOf _ _ _). k.attributes) c.put_ready_at.ensures.same) c.put_ready_at.ensures.sound

pub returns-clause-ranks : goal.returns-clause-ranks
returns-clause-ranks g c low = ranks_ready c.args.self.now.threads c.put_ready_at.new.self.threads c.args.t.0 c.requires.known c.args.rank low search rules

pub returns-clause-stays : goal.returns-clause-stays
returns-clause-stays g c =
    let all = queues_alone _ _ c.take_from.ensures.same in
    stays_touched c.args.self.now.threads c.put_ready_at.new.self.threads (same_twice _ _ _ all c.put_ready_at.ensures.threads).slots c.args.t.0 _ c.requires.whole.sound
    (two_touches _ _ _ c.args.t.0 _ _ all c.take_from.ensures.touches c.put_ready_at.ensures.touches)
    (λ i is a. among_ready)

pub put_ready_at-requires-clause-at : goal.put_ready_at-requires-clause-at
put_ready_at-requires-clause-at g c = ap (λ (k : WorldOf _ _ _). slot_of k.threads.records c.args.t.0) c.take_from.ensures.same ∙ c.slot-slot.ensures.slot
