use Rattle.std.proofs.Common.{◌∙◌, ap, subst, None}
use Rattle.pth_threads.specs.Threads.{slot_of}
use Rattle.pth_model.specs.Changes.{sets, enters, runs_now}
use Rattle.pth_model.specs.Part.{is_put_waiting}
use Rattle.pth_world.specs.World.{WorldOf}
use Rattle.pth_world.specs.Touches.{Touches}
use Rattle.pth_world.proofs.Moves.{runner_nowhere, runner_known, waits_whole, whole_prio}
use Rattle.pth_world.proofs.Ranks.{ranks_waits}
use Rattle.pth_world.proofs.Runnable.{runner_apart, stays_touched}
use Rattle.pth_world.proofs.world.World.make_waiting.Goals as goal

pub put_waiting-requires-clause-nowhere : goal.put_waiting-requires-clause-nowhere
put_waiting-requires-clause-nowhere g c = rw c.set_running.ensures.same (runner_nowhere c.args.self.now c.args.t.0 c.requires.whole c.requires.runs)

pub returns-clause-shows : goal.returns-clause-shows
unfolding is_put_waiting sets enters
returns-clause-shows g c k sh = c.put_waiting.ensures.shows (runs_now None k) (c.set_running.ensures.shows k sh)

pub returns-clause-whole : goal.returns-clause-whole
returns-clause-whole g c =
    let rests = ap (λ (k : WorldOf _ _ _). k.scheduler.running) c.put_waiting.ensures.same ∙ ap (λ (k : WorldOf _ _ _). k.scheduler.running) c.set_running.ensures.same in
    let threads = ap (λ (k : WorldOf _ _ _). k.threads) c.set_running.ensures.same in
    waits_whole c.args.self.now c.put_waiting.new.self c.args.t.0 c.requires.whole c.requires.runs rests c.put_waiting.ensures.sound
    (c.put_waiting.ensures.threads.slots ∙ ap (λ k. slot_of k.records) threads) (ap (λ (k : WorldOf _ _ _). k.store) c.put_waiting.ensures.same ∙ ap (λ (k : WorldOf _ _ _). k.store) c.set_running.ensures.same)
    (ap (λ (k : WorldOf _ _ _). k.attributes) c.put_waiting.ensures.same ∙ ap (λ (k : WorldOf _ _ _). k.attributes) c.set_running.ensures.same)
    (subst (λ x. Touches x c.put_waiting.new.self.threads c.args.t.0 _) threads c.put_waiting.ensures.touches)

pub returns-clause-stays : goal.returns-clause-stays
returns-clause-stays g c =
    let threads = ap (λ (k : WorldOf _ _ _). k.threads) c.set_running.ensures.same in
    stays_touched c.args.self.now.threads c.put_waiting.new.self.threads (c.put_waiting.ensures.threads.slots ∙ ap (λ k. slot_of k.records) threads) c.args.t.0 _ c.requires.whole.sound
    (subst (λ x. Touches x c.put_waiting.new.self.threads c.args.t.0 _) threads c.put_waiting.ensures.touches)
    (λ i is a. runner_apart c.args.self.now c.args.t.0 i _ c.requires.whole c.requires.runs is a)

pub returns-clause-threads : goal.returns-clause-threads
returns-clause-threads g c = rw c.set_running.ensures.same at c.put_waiting.ensures.threads

pub returns-clause-queues : goal.returns-clause-queues
returns-clause-queues g c = rw c.set_running.ensures.same at c.put_waiting.ensures.queues

pub returns-clause-ranks : goal.returns-clause-ranks
returns-clause-ranks g c = ranks_waits c.args.self.now.threads c.put_waiting.new.self.threads c.args.t.0 (runner_known c.args.self.now c.args.t.0 c.requires.whole c.requires.runs) (rw c.set_running.ensures.same at c.put_waiting.ensures.queues)

pub put_waiting-requires-clause-prio : goal.put_waiting-requires-clause-prio
put_waiting-requires-clause-prio g c = rw c.set_running.ensures.same (whole_prio c.args.self.now c.args.t.0 c.requires.whole)
