use Rattle.std.proofs.Common.{ap, sym, subst, refl, rules, arith, SFits, w64, to_z-of_z}
use Rattle.pth_world.specs.Numbering.{Thread}
use Rattle.pth_world.specs.WellFormed.{WellFormed}
use Rattle.pth_world.specs.World.{WorldOf}
use Rattle.pth_world.proofs.Slots.{prio_fits}
use Rattle.pth_queue.specs.declared.queue.Queue.TheVariants as queue
use Rattle.pth_world.proofs.Waits.{queues_in, waits_in, prio_enters}
use Rattle.pth_world.proofs.Places.{unused-nowhere}
use Rattle.pth_base.proofs.Results.{on_err}
use Rattle.pth_world.proofs.Wholes.{same_whole, spawn_shows, spawn_whole, spawn_others, spawn_queues, spawn_ranks}
use Rattle.pth_threads.specs.Threads.{tid_at}
use Rattle.pth_world.proofs.Stores.{spare_nothing}
use Rattle.pth_world.proofs.world.World.spawn.Goals as goal

pub add-requires-clause-spare : goal.add-requires-clause-spare
add-requires-clause-spare g c = spare_nothing c.args.self.now c.requires.whole

pub add-requires-clause-few : goal.add-requires-clause-few
add-requires-clause-few g c = let few = c.requires.few Thread in omega arith

pub returns-in_err-t-clause-whole_still : goal.returns-in_err-t-clause-whole_still
returns-in_err-t-clause-whole_still g c = on_err _ (subst WellFormed (sym c.add.ensures.same) (same_whole c.args.self.now _ c.in_err-t.ensures.err c.requires.whole))

pub insert-requires-clause-nowhere : goal.insert-requires-clause-nowhere
insert-requires-clause-nowhere g c =
    let adds = c.in_ok-t.ensures.ok in
    let queues = ap (λ (k : WorldOf _ _ _). k.threads.queues) c.add.ensures.same in
    rw (c.queues_mut.ensures.value, queues) (unused-nowhere (tid_at c.args.self.now.threads.records) c.in_ok-t.slot.0 c.args.self.now.threads.queues c.requires.whole.sound.queued adds.unused)

pub returns-clause-shows : goal.returns-clause-shows
returns-clause-shows g c k sh =
    let tid = c.in_ok-t.ensures.tid in
    let adds = rw tid at c.in_ok-t.ensures.ok in
    let progress = ap (λ (k : WorldOf _ _ _). k.threads.progress) c.add.ensures.same in
    let queues = ap (λ (k : WorldOf _ _ _). k.threads.queues) c.add.ensures.same in
    let has = rw (c.progress_mut.ensures.value, progress) at c.set.ensures.set in
    let prio : SFits w64 c.args.of.prio = prio_fits _ c.requires.prio in
    let waits = ap (λ (k : WorldOf _ _ _). k.threads.waits) c.add.ensures.same in
    let enters = rw (c.queues_mut.ensures.value, to_z-of_z, queues, waits) at c.insert.ensures in
    let f : SFits w64 c.args.arg = search rules in
    let is = rw to_z-of_z at c.in_ok-state.ensures in
    rw c.add.ensures.same (spawn_shows c.args.self.now c.requires.whole c.add.new.self.threads.records c.set.new.self c.insert.new.self.queues c.insert.new.self.waits c.in_ok-t.slot.0 c.args.of c.requires.prio _ refl adds has c.set.ensures.long (ap queues_in enters) (ap waits_in enters) g.P.Program.functions c.args.body.0 c.args.arg k (rw is refl) sh)

pub returns-clause-whole : goal.returns-clause-whole
returns-clause-whole g c =
    let tid = c.in_ok-t.ensures.tid in
    let adds = rw tid at c.in_ok-t.ensures.ok in
    let progress = ap (λ (k : WorldOf _ _ _). k.threads.progress) c.add.ensures.same in
    let queues = ap (λ (k : WorldOf _ _ _). k.threads.queues) c.add.ensures.same in
    let has = rw (c.progress_mut.ensures.value, progress) at c.set.ensures.set in
    let prio : SFits w64 c.args.of.prio = prio_fits _ c.requires.prio in
    let waits = ap (λ (k : WorldOf _ _ _). k.threads.waits) c.add.ensures.same in
    let enters = rw (c.queues_mut.ensures.value, to_z-of_z, queues, waits) at c.insert.ensures in
    rw c.add.ensures.same (spawn_whole c.args.self.now c.requires.whole c.add.new.self.threads.records c.set.new.self c.insert.new.self.queues c.insert.new.self.waits c.in_ok-t.slot.0 c.args.of c.requires.prio _ refl adds has c.set.ensures.long (ap queues_in enters) (ap waits_in enters))

pub returns-clause-others : goal.returns-clause-others
returns-clause-others g c =
    let tid = c.in_ok-t.ensures.tid in
    let adds = rw tid at c.in_ok-t.ensures.ok in
    let progress = ap (λ (k : WorldOf _ _ _). k.threads.progress) c.add.ensures.same in
    let queues = ap (λ (k : WorldOf _ _ _). k.threads.queues) c.add.ensures.same in
    let has = rw (c.progress_mut.ensures.value, progress) at c.set.ensures.set in
    let prio : SFits w64 c.args.of.prio = prio_fits _ c.requires.prio in
    let waits = ap (λ (k : WorldOf _ _ _). k.threads.waits) c.add.ensures.same in
    let enters = rw (c.queues_mut.ensures.value, to_z-of_z, queues, waits) at c.insert.ensures in
    rw c.add.ensures.same (spawn_others c.args.self.now c.requires.whole c.add.new.self.threads.records c.set.new.self c.insert.new.self.queues c.insert.new.self.waits c.in_ok-t.slot.0 c.args.of c.requires.prio _ refl adds has c.set.ensures.long (ap queues_in enters) (ap waits_in enters))

pub returns-clause-queues : goal.returns-clause-queues
returns-clause-queues g c =
    let tid = c.in_ok-t.ensures.tid in
    let adds = rw tid at c.in_ok-t.ensures.ok in
    let progress = ap (λ (k : WorldOf _ _ _). k.threads.progress) c.add.ensures.same in
    let queues = ap (λ (k : WorldOf _ _ _). k.threads.queues) c.add.ensures.same in
    let has = rw (c.progress_mut.ensures.value, progress) at c.set.ensures.set in
    let prio : SFits w64 c.args.of.prio = prio_fits _ c.requires.prio in
    let waits = ap (λ (k : WorldOf _ _ _). k.threads.waits) c.add.ensures.same in
    let enters = rw (c.queues_mut.ensures.value, to_z-of_z, queues, waits) at c.insert.ensures in
    rw (c.add.ensures.same, tid) (spawn_queues c.args.self.now c.requires.whole c.add.new.self.threads.records c.set.new.self c.insert.new.self.queues c.insert.new.self.waits c.in_ok-t.slot.0 c.args.of c.requires.prio _ refl adds has c.set.ensures.long (ap queues_in enters) (ap waits_in enters))

pub returns-clause-ranks : goal.returns-clause-ranks
returns-clause-ranks g c =
    let tid = c.in_ok-t.ensures.tid in
    let adds = rw tid at c.in_ok-t.ensures.ok in
    let progress = ap (λ (k : WorldOf _ _ _). k.threads.progress) c.add.ensures.same in
    let queues = ap (λ (k : WorldOf _ _ _). k.threads.queues) c.add.ensures.same in
    let has = rw (c.progress_mut.ensures.value, progress) at c.set.ensures.set in
    let prio : SFits w64 c.args.of.prio = prio_fits _ c.requires.prio in
    let waits = ap (λ (k : WorldOf _ _ _). k.threads.waits) c.add.ensures.same in
    let enters = rw (c.queues_mut.ensures.value, to_z-of_z, queues, waits) at c.insert.ensures in
    rw c.add.ensures.same (spawn_ranks c.args.self.now c.requires.whole c.add.new.self.threads.records c.set.new.self c.insert.new.self.queues c.insert.new.self.waits c.in_ok-t.slot.0 c.args.of c.requires.prio _ refl adds has c.set.ensures.long (ap queues_in enters) (ap waits_in enters))

pub insert-requires-clause-rank : goal.insert-requires-clause-rank
insert-requires-clause-rank g c =
    let prio : SFits w64 c.args.of.prio = prio_fits _ c.requires.prio in
    rw to_z-of_z (prio_enters queue.New _ c.requires.prio)
