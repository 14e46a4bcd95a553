use Rattle.std.proofs.Common.{refl, ◌<◌, ◌∙◌, ap, arith, rules}
use Rattle.pth_lock.specs.Mutexes.{mutexes_of}
use Rattle.pth_lock.specs.RwLocks.{LockTables, tables_of as locks_of}
use Rattle.pth_store.specs.Cleanups.{stacks_of}
use Rattle.pth_store.specs.Keys.{tables_of}
use Rattle.pth_model.proofs.Nothing.{no_lock_left}
use Rattle.pth_world.specs.Store.{name_limit, store_of, stored_by}
use Rattle.pth_world.proofs.Locked.{held_each, locks_left_read}
use Rattle.pth_world.proofs.Stores.{alive_known, locks_set, nothing_in_locks, stored_keeps}
use Rattle.pth_world.proofs.world.World.release_locks.Goals as goal

pub slot-slot-requires : goal.slot-slot-requires
slot-slot-requires g c = alive_known c.args.self.now.threads c.args.t.0 c.requires.alive

pub returns-clause-held : goal.returns-clause-held
returns-clause-held g c m =
    let w = c.self.inside in
    let sound = rw (← c.self.view_is) at c.requires.sound in
    let e = rw (← c.self.view_is) at c.slot-slot.ensures.slot in
    let few : c.args.t.0 < name_limit = search (arith, rules) in
    rw (← c.self.view_is) (held_each w.threads (locks_of w.rw_locks) c.args.t.0 c.slot-slot.result.0 sound.tied e few c.release_all.result (omega arith) c.release_all.ensures.held m)

pub returns-clause-changes : goal.returns-clause-changes
returns-clause-changes g c =
    let w = c.self.inside in
    let sound = rw (← c.self.view_is) at c.requires.sound in
    let e = rw (← c.self.view_is) at c.slot-slot.ensures.slot in
    let few : c.args.t.0 < name_limit = search (arith, rules) in
    rw (← c.self.view_is) (ap (λ (z : LockTables). store_of (stored_by w.threads (tables_of w.keys) (stacks_of w.cleanups) (mutexes_of w.mutexes) z w.ports)) c.release_all.ensures.changes
    ∙ locks_set w.threads (tables_of w.keys) (stacks_of w.cleanups) (mutexes_of w.mutexes) (locks_of w.rw_locks) w.ports _ _ (locks_left_read w.threads (locks_of w.rw_locks) c.args.t.0 c.slot-slot.result.0 sound.tied e few))

pub returns-clause-keeps : goal.returns-clause-keeps
returns-clause-keeps g c =
    let w = c.self.inside in
    let changes = rw (← c.self.view_is) at (returns-clause-changes g c) in
    rw (← c.self.view_is) (stored_keeps _ _ refl (λ u dead h. rw changes (nothing_in_locks _ u _ h (no_lock_left u (store_of (stored_by w.threads (tables_of w.keys) (stacks_of w.cleanups) (mutexes_of w.mutexes) (locks_of w.rw_locks) w.ports)).rw_locks c.args.t.0 h.locks))))
