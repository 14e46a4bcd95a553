use Rattle.std.proofs.Common.{refl, ◌∙◌, ap, arith}
use Rattle.pth_lock.specs.Mutexes.{MutexTable, mutexes_of}
use Rattle.pth_lock.specs.RwLocks.{tables_of as locks_of}
use Rattle.pth_store.specs.Cleanups.{stacks_of}
use Rattle.pth_store.specs.Keys.{tables_of}
use Rattle.pth_model.proofs.Nothing.{no_mutex_left}
use Rattle.pth_world.specs.Store.{store_of, stored_by}
use Rattle.pth_world.proofs.Locked.{had_each, mutexes_left_read}
use Rattle.pth_world.proofs.Stores.{alive_known, mutexes_set, nothing_in_mutexes, stored_keeps}
use Rattle.pth_world.proofs.world.World.release_mutexes.Goals as goal

pub slot-slot-requires : goal.slot-slot-requires
slot-slot-requires g c = alive_known c.args.self.now.threads c.args.t.0 c.requires.alive

pub returns-clause-had : goal.returns-clause-had
returns-clause-had g c m =
    let w = c.self.inside in
    let sound = rw (← c.self.view_is) at c.requires.sound in
    let e = rw (← c.self.view_is) at c.slot-slot.ensures.slot in
    rw (← c.self.view_is) (had_each w.threads (mutexes_of w.mutexes) c.args.t.0 c.slot-slot.result.0 sound.tied e c.release_all.result (omega arith) c.release_all.ensures.had m)

pub returns-clause-changes : goal.returns-clause-changes
returns-clause-changes g c =
    let w = c.self.inside in
    let sound = rw (← c.self.view_is) at c.requires.sound in
    let e = rw (← c.self.view_is) at c.slot-slot.ensures.slot in
    rw (← c.self.view_is) (ap (λ (z : MutexTable). store_of (stored_by w.threads (tables_of w.keys) (stacks_of w.cleanups) z (locks_of w.rw_locks) w.ports)) c.release_all.ensures.changes
    ∙ mutexes_set w.threads (tables_of w.keys) (stacks_of w.cleanups) (mutexes_of w.mutexes) (locks_of w.rw_locks) w.ports _ _ (mutexes_left_read w.threads (mutexes_of w.mutexes) c.args.t.0 c.slot-slot.result.0 sound.tied e))

pub returns-clause-keeps : goal.returns-clause-keeps
returns-clause-keeps g c =
    let changes = rw (← c.self.view_is) at (returns-clause-changes g c) in
    rw (← c.self.view_is) (stored_keeps _ _ refl (λ u dead h. rw changes (nothing_in_mutexes _ u _ h (no_mutex_left u c.args.t.0 _ h.mutexes))))
