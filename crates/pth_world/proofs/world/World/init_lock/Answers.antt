use Rattle.std.proofs.Common.{refl, ◌≡◌, ◌<◌, ◌∙◌, ap, sym, subst, arith}
use Rattle.std.proofs.lemmas.Int.{ints}
use mir.Syntax.{w64}
use mir.Val.{to_z, of_z}
use Rattle.pth_lock.specs.Objects.{object_named}
use Rattle.pth_lock.specs.Mutexes.{mutexes_of}
use Rattle.pth_lock.specs.RwLocks.{LockTables, LocksOf, tables_of as locks_of}
use Rattle.pth_store.specs.Cleanups.{stacks_of}
use Rattle.pth_store.specs.Keys.{tables_of}
use Rattle.pth_model.specs.Store.{Store}
use Rattle.pth_model.proofs.Nothing.{no_lock_initialised}
use Rattle.pth_world.specs.Store.{name_limit, store_of, stored_by, HasNothing}
use Rattle.pth_world.proofs.Events.{on_ok}
use Rattle.pth_world.proofs.Locked.{object_low, lock_init_is, lock_initialised_read}
use Rattle.pth_world.proofs.Stores.{either, locks_set, nothing_in_locks, stored_keeps}
use Rattle.pth_world.proofs.world.World.init_lock.Goals as goal

pub returns-clause-answer : goal.returns-clause-answer
returns-clause-answer g c =
    let w = c.self.inside in
    let is_number : to_z w64 (of_z w64 c.args.l) ≡ c.args.l = omega (arith, ints) in
    let low : object_named c.args.l < name_limit = object_low c.args.l (omega (arith, ints)) in
    rw (← c.self.view_is) ((rw is_number at c.init.ensures.answer) ∙ sym (lock_init_is w.threads (locks_of w.rw_locks) c.args.l low))

pub returns-clause-changes : goal.returns-clause-changes
returns-clause-changes g c =
    let w = c.self.inside in
    let is_number : to_z w64 (of_z w64 c.args.l) ≡ c.args.l = omega (arith, ints) in
    let low : object_named c.args.l < name_limit = object_low c.args.l (omega (arith, ints)) in
    rw (← c.self.view_is) (on_ok c.init.result (rw is_number at c.init.ensures.changes) (λ is. ap (λ (z : LockTables). store_of (stored_by w.threads (tables_of w.keys) (stacks_of w.cleanups) (mutexes_of w.mutexes) z w.ports)) is ∙ locks_set w.threads (tables_of w.keys) (stacks_of w.cleanups) (mutexes_of w.mutexes) (locks_of w.rw_locks) w.ports _ _ (lock_initialised_read w.threads (locks_of w.rw_locks) (object_named c.args.l) low)))

pub returns-clause-keeps : goal.returns-clause-keeps
returns-clause-keeps g c =
    let w = c.self.inside in
    let changes = rw (← c.self.view_is) at (returns-clause-changes g c) in
    rw (← c.self.view_is) (stored_keeps _ _ refl (λ u dead h. either c.init.result changes c.init.ensures.refused
    (λ is. subst (λ (s : Store). HasNothing s u) (sym is) (nothing_in_locks _ u _ h (no_lock_initialised u (store_of (stored_by w.threads (tables_of w.keys) (stacks_of w.cleanups) (mutexes_of w.mutexes) (locks_of w.rw_locks) w.ports)).rw_locks (object_named c.args.l) h.locks)))
    (λ is. subst (λ (y : LocksOf). HasNothing (store_of (stored_by w.threads (tables_of w.keys) (stacks_of w.cleanups) (mutexes_of w.mutexes) (locks_of y) w.ports)) u) (sym is) h)))
