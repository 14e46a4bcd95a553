use Rattle.std.proofs.Common.{refl, ◌≡◌, ◌<◌, ◌∙◌, List, Option, ap, sym, subst, arith, rules}
use Rattle.std.proofs.lemmas.Int.{ints}
use mir.Syntax.{w64}
use mir.Val.{to_z, of_z}
use Rattle.pth_lock.specs.declared.mutexes.Owner.{Owner}
use Rattle.pth_lock.specs.Objects.{object_named}
use Rattle.pth_lock.specs.Mutexes.{MutexTable, mutexes_of}
use Rattle.pth_lock.specs.RwLocks.{tables_of as locks_of}
use Rattle.pth_store.specs.Cleanups.{stacks_of}
use Rattle.pth_store.specs.Keys.{tables_of}
use Rattle.pth_model.specs.Store.{Store}
use Rattle.pth_model.proofs.Nothing.{no_mutex_taken}
use Rattle.pth_world.specs.Store.{name_limit, store_of, stored_by, HasNothing}
use Rattle.pth_world.proofs.Events.{on_ok}
use Rattle.pth_world.proofs.Locked.{object_low, mutex_take_is, taken_read}
use Rattle.pth_world.proofs.Stores.{alive_apart, alive_known, either, mutexes_set, nothing_in_mutexes, stored_keeps}
use Rattle.pth_world.proofs.world.World.take_mutex.Goals as goal

pub slot-slot-requires : goal.slot-slot-requires
slot-slot-requires g c = alive_known c.args.self.now.threads c.args.t.0 c.requires.alive

pub returns-clause-answer : goal.returns-clause-answer
returns-clause-answer g c =
    let w = c.self.inside in
    let sound = rw (← c.self.view_is) at c.requires.sound in
    let e = rw (← c.self.view_is) at c.slot-slot.ensures.slot in
    let few : c.args.t.0 < name_limit = search (arith, rules) in
    let is_number : to_z w64 (of_z w64 c.args.m) ≡ c.args.m = omega (arith, ints) in
    let low : object_named c.args.m < name_limit = object_low c.args.m (omega (arith, ints)) in
    rw (← c.self.view_is) ((rw is_number at c.try_take.ensures.answer) ∙ sym (mutex_take_is w.threads (mutexes_of w.mutexes) c.args.t.0 c.slot-slot.result.0 sound.tied e c.args.m low))

pub returns-clause-changes : goal.returns-clause-changes
returns-clause-changes g c =
    let w = c.self.inside in
    let sound = rw (← c.self.view_is) at c.requires.sound in
    let e = rw (← c.self.view_is) at c.slot-slot.ensures.slot in
    let few : c.args.t.0 < name_limit = search (arith, rules) in
    let is_number : to_z w64 (of_z w64 c.args.m) ≡ c.args.m = omega (arith, ints) in
    let low : object_named c.args.m < name_limit = object_low c.args.m (omega (arith, ints)) in
    rw (← c.self.view_is) (on_ok c.try_take.result (rw is_number at c.try_take.ensures.changes) (λ is. ap (λ (z : MutexTable). store_of (stored_by w.threads (tables_of w.keys) (stacks_of w.cleanups) z (locks_of w.rw_locks) w.ports)) is ∙ mutexes_set w.threads (tables_of w.keys) (stacks_of w.cleanups) (mutexes_of w.mutexes) (locks_of w.rw_locks) w.ports _ _ (taken_read w.threads (mutexes_of w.mutexes) c.args.t.0 c.slot-slot.result.0 sound.tied e (object_named c.args.m) low)))

pub returns-clause-keeps : goal.returns-clause-keeps
returns-clause-keeps g c =
    let w = c.self.inside in
    let changes = rw (← c.self.view_is) at (returns-clause-changes g c) in
    let alive = rw (← c.self.view_is) at c.requires.alive in
    rw (← c.self.view_is) (stored_keeps _ _ refl (λ u dead h. either c.try_take.result changes c.try_take.ensures.refused
    (λ is. subst (λ (s : Store). HasNothing s u) (sym is) (nothing_in_mutexes _ u _ h (no_mutex_taken u c.args.t.0 (object_named c.args.m) _ (alive_apart w.threads c.args.t.0 u alive dead) h.mutexes)))
    (λ is. subst (λ (y : List (Option (Option Owner))). HasNothing (store_of (stored_by w.threads (tables_of w.keys) (stacks_of w.cleanups) (mutexes_of y) (locks_of w.rw_locks) w.ports)) u) (sym is) h)))
