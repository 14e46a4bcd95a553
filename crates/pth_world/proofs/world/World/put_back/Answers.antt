use Rattle.std.proofs.Common.{◌∙◌, ap, subst, None, SFits, w64, to_z-of_z}
use Rattle.pth_threads.specs.Threads.{slot_of}
use Rattle.pth_model.specs.Changes.{sets, enters, runs_now}
use Rattle.pth_model.specs.Part.{is_put_back}
use Rattle.pth_world.specs.World.{WorldOf}
use Rattle.pth_world.specs.Touches.{Touches}
use Rattle.pth_world.proofs.Slots.{prio_fits}
use Rattle.pth_world.proofs.Moves.{runner_nowhere, runner_known, back_whole, whole_prio}
use Rattle.pth_world.proofs.Ranks.{ranks_back, ready_at}
use Rattle.pth_world.proofs.Runnable.{among_ready, stays_touched}
use Rattle.pth_world.proofs.world.World.put_back.Goals as goal

pub put_ready_at-requires-clause-nowhere : goal.put_ready_at-requires-clause-nowhere
put_ready_at-requires-clause-nowhere g c = rw c.set_running.ensures.same (runner_nowhere c.args.self.now c.args.t.0 c.requires.whole c.requires.runs)

pub returns-clause-shows : goal.returns-clause-shows
unfolding is_put_back sets enters
returns-clause-shows g c k sh =
    let f : SFits w64 c.prio-prio.result = prio_fits _ c.prio-prio.ensures.low in
    rw (← c.prio-prio.ensures.prio k sh) ((rw to_z-of_z at c.put_ready_at.ensures.shows) (runs_now None k) (c.set_running.ensures.shows k sh))

pub returns-clause-whole : goal.returns-clause-whole
returns-clause-whole g c =
    let rests = ap (λ (k : WorldOf _ _ _). k.scheduler.running) c.put_ready_at.ensures.same ∙ ap (λ (k : WorldOf _ _ _). k.scheduler.running) c.set_running.ensures.same in
    let threads = ap (λ (k : WorldOf _ _ _). k.threads) c.set_running.ensures.same in
    back_whole c.args.self.now c.put_ready_at.new.self c.args.t.0 c.requires.whole c.requires.runs rests c.put_ready_at.ensures.sound
    (c.put_ready_at.ensures.threads.slots ∙ ap (λ k. slot_of k.records) threads) (ap (λ (k : WorldOf _ _ _). k.store) c.put_ready_at.ensures.same ∙ ap (λ (k : WorldOf _ _ _). k.store) c.set_running.ensures.same)
    (ap (λ (k : WorldOf _ _ _). k.attributes) c.put_ready_at.ensures.same ∙ ap (λ (k : WorldOf _ _ _). k.attributes) c.set_running.ensures.same)
    (subst (λ x. Touches x c.put_ready_at.new.self.threads c.args.t.0 _) threads c.put_ready_at.ensures.touches)

pub returns-clause-stays : goal.returns-clause-stays
returns-clause-stays g c =
    let threads = ap (λ (k : WorldOf _ _ _). k.threads) c.set_running.ensures.same in
    stays_touched c.args.self.now.threads c.put_ready_at.new.self.threads (c.put_ready_at.ensures.threads.slots ∙ ap (λ k. slot_of k.records) threads) c.args.t.0 _ c.requires.whole.sound
    (subst (λ x. Touches x c.put_ready_at.new.self.threads c.args.t.0 _) threads c.put_ready_at.ensures.touches)
    (λ i is a. among_ready)

pub returns-clause-threads : goal.returns-clause-threads
returns-clause-threads g c = rw c.set_running.ensures.same at c.put_ready_at.ensures.threads

pub returns-clause-queues : goal.returns-clause-queues
returns-clause-queues g c =
    let f : SFits w64 c.prio-prio.result = prio_fits _ c.prio-prio.ensures.low in
    ready_at _ _ _ _ c.prio-prio.ensures.low (rw (c.set_running.ensures.same, to_z-of_z) at c.put_ready_at.ensures.queues)

pub put_ready_at-requires-clause-at : goal.put_ready_at-requires-clause-at
put_ready_at-requires-clause-at g c = ap (λ (k : WorldOf _ _ _). slot_of k.threads.records c.args.t.0) c.set_running.ensures.same ∙ c.slot-slot.ensures.slot

pub returns-clause-ranks : goal.returns-clause-ranks
returns-clause-ranks g c = ranks_back c.args.self.now.threads c.put_ready_at.new.self.threads c.args.t.0 (runner_known c.args.self.now c.args.t.0 c.requires.whole c.requires.runs) (returns-clause-queues g c)

pub prio-prio-requires-clause-prio : goal.prio-prio-requires-clause-prio
prio-prio-requires-clause-prio g c = whole_prio c.args.self.now c.args.t.0 c.requires.whole
