use Rattle.std.proofs.Common.{refl, ◌≡◌, ◌<◌, ◌∙◌, None, sym, ap, subst, arith}
use Rattle.std.proofs.lemmas.Int.{ints}
use mir.Syntax.{w64}
use mir.Val.{to_z, of_z}
use Rattle.pth_lock.specs.Mutexes.{mutexes_of}
use Rattle.pth_lock.specs.RwLocks.{tables_of as locks_of}
use Rattle.pth_store.specs.Cleanups.{stacks_of}
use Rattle.pth_store.specs.Keys.{KeysOf, Tables, tables_of, key_named}
use Rattle.pth_model.specs.Store.{Store}
use Rattle.pth_world.specs.Store.{name_limit, store_of, stored_by, HasNothing}
use Rattle.pth_world.proofs.Stores.{named_low, delete_answer_is, deleted_is, nothing_under, stored_keeps, either}
use Rattle.pth_world.proofs.Events.{on_ok}
use Rattle.pth_world.proofs.world.World.delete_key.Goals as goal

pub returns-clause-answer : goal.returns-clause-answer
returns-clause-answer g c =
    let w = c.self.inside in
    let is_key : to_z w64 (of_z w64 c.args.k) ≡ c.args.k = omega (arith, ints) in
    let low : key_named c.args.k < name_limit = named_low c.args.k (omega (arith, ints)) in
    rw (← c.self.view_is) ((rw is_key at c.delete.ensures.answer) ∙ sym (delete_answer_is w.threads (tables_of w.keys) (stacks_of w.cleanups) (mutexes_of w.mutexes) (locks_of w.rw_locks) w.ports c.args.k low))

pub returns-clause-changes : goal.returns-clause-changes
returns-clause-changes g c =
    let w = c.self.inside in
    let is_key : to_z w64 (of_z w64 c.args.k) ≡ c.args.k = omega (arith, ints) in
    let low : key_named c.args.k < name_limit = named_low c.args.k (omega (arith, ints)) in
    rw (← c.self.view_is) (on_ok c.delete.result (rw is_key at c.delete.ensures.changes) (λ is. ap (λ (y : Tables). store_of (stored_by w.threads y (stacks_of w.cleanups) (mutexes_of w.mutexes) (locks_of w.rw_locks) w.ports)) is ∙ deleted_is w.threads (tables_of w.keys) (stacks_of w.cleanups) (mutexes_of w.mutexes) (locks_of w.rw_locks) w.ports (key_named c.args.k) low))

pub returns-clause-keeps : goal.returns-clause-keeps
returns-clause-keeps g c =
    let w = c.self.inside in
    let changes = rw (← c.self.view_is) at (returns-clause-changes g c) in
    rw (← c.self.view_is) (stored_keeps _ _ refl (λ u dead h. either c.delete.result changes c.delete.ensures.refused
    (λ is. subst (λ (s : Store). HasNothing s u) (sym is) (nothing_under _ (key_named c.args.k) None u h))
    (λ is. subst (λ (y : KeysOf). HasNothing (store_of (stored_by w.threads (tables_of y) (stacks_of w.cleanups) (mutexes_of w.mutexes) (locks_of w.rw_locks) w.ports)) u) (sym is) h)))
