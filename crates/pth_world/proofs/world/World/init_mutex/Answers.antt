use Rattle.std.proofs.Common.{refl, ◌≡◌, ◌<◌, ◌∙◌, List, Option, ap, sym, subst, arith}
use Rattle.std.proofs.lemmas.Int.{ints}
use mir.Syntax.{w64}
use mir.Val.{to_z, of_z}
use Rattle.pth_lock.specs.declared.mutexes.Owner.{Owner}
use Rattle.pth_lock.specs.Objects.{object_named}
use Rattle.pth_lock.specs.Mutexes.{MutexTable, mutexes_of}
use Rattle.pth_lock.specs.RwLocks.{tables_of as locks_of}
use Rattle.pth_store.specs.Cleanups.{stacks_of}
use Rattle.pth_store.specs.Keys.{tables_of}
use Rattle.pth_model.specs.Store.{Store}
use Rattle.pth_model.proofs.Nothing.{no_mutex_initialised}
use Rattle.pth_world.specs.Store.{name_limit, store_of, stored_by, HasNothing}
use Rattle.pth_world.proofs.Events.{on_ok}
use Rattle.pth_world.proofs.Locked.{object_low, mutex_init_is, initialised_read}
use Rattle.pth_world.proofs.Stores.{either, mutexes_set, nothing_in_mutexes, stored_keeps}
use Rattle.pth_world.proofs.world.World.init_mutex.Goals as goal

pub returns-clause-answer : goal.returns-clause-answer
returns-clause-answer g c =
    let w = c.self.inside in
    let is_number : to_z w64 (of_z w64 c.args.m) ≡ c.args.m = omega (arith, ints) in
    let low : object_named c.args.m < name_limit = object_low c.args.m (omega (arith, ints)) in
    rw (← c.self.view_is) ((rw is_number at c.init.ensures.answer) ∙ sym (mutex_init_is w.threads (mutexes_of w.mutexes) c.args.m low))

pub returns-clause-changes : goal.returns-clause-changes
returns-clause-changes g c =
    let w = c.self.inside in
    let is_number : to_z w64 (of_z w64 c.args.m) ≡ c.args.m = omega (arith, ints) in
    let low : object_named c.args.m < name_limit = object_low c.args.m (omega (arith, ints)) in
    rw (← c.self.view_is) (on_ok c.init.result (rw is_number at c.init.ensures.changes) (λ is. ap (λ (z : MutexTable). store_of (stored_by w.threads (tables_of w.keys) (stacks_of w.cleanups) z (locks_of w.rw_locks) w.ports)) is ∙ mutexes_set w.threads (tables_of w.keys) (stacks_of w.cleanups) (mutexes_of w.mutexes) (locks_of w.rw_locks) w.ports _ _ (initialised_read w.threads (mutexes_of w.mutexes) (object_named c.args.m) low)))

pub returns-clause-keeps : goal.returns-clause-keeps
returns-clause-keeps g c =
    let w = c.self.inside in
    let changes = rw (← c.self.view_is) at (returns-clause-changes g c) in
    rw (← c.self.view_is) (stored_keeps _ _ refl (λ u dead h. either c.init.result changes c.init.ensures.refused
    (λ is. subst (λ (s : Store). HasNothing s u) (sym is) (nothing_in_mutexes _ u _ h (no_mutex_initialised u (object_named c.args.m) _ h.mutexes)))
    (λ is. subst (λ (y : List (Option (Option Owner))). HasNothing (store_of (stored_by w.threads (tables_of w.keys) (stacks_of w.cleanups) (mutexes_of y) (locks_of w.rw_locks) w.ports)) u) (sym is) h)))
