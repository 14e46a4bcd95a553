use Rattle.std.proofs.Common.{refl, ◌≡◌, ◌<◌, ◌∙◌, sym, ap, subst, arith, rules}
use Rattle.std.proofs.lemmas.Int.{ints}
use mir.Syntax.{w64}
use mir.Val.{to_z, of_z}
use Rattle.pth_lock.specs.Mutexes.{mutexes_of}
use Rattle.pth_lock.specs.RwLocks.{tables_of as locks_of}
use Rattle.pth_store.specs.Cleanups.{stacks_of}
use Rattle.pth_store.specs.Keys.{Tables, tables_of, key_named}
use Rattle.pth_model.specs.Store.{Store}
use Rattle.pth_world.specs.Store.{name_limit, store_of, stored_by, HasNothing}
use Rattle.pth_world.proofs.Stores.{alive_apart, alive_known, named_low, set_answer_is, value_put, nothing_set, stored_keeps, either}
use Rattle.pth_store.specs.Storing.{AnswersWithMemory}
use Rattle.pth_world.proofs.Events.{on_ok}
use Rattle.pth_world.proofs.world.World.set_key.Goals as goal

pub slot-slot-requires : goal.slot-slot-requires
slot-slot-requires g c = alive_known c.args.self.now.threads c.args.t.0 c.requires.alive

pub returns-clause-answer : goal.returns-clause-answer
returns-clause-answer g c =
    let w = c.self.inside in
    let is_key : to_z w64 (of_z w64 c.args.k) ≡ c.args.k = omega (arith, ints) in
    let low : key_named c.args.k < name_limit = named_low c.args.k (omega (arith, ints)) in
    rw (← c.self.view_is) (subst (λ a. AnswersWithMemory a c.set.result) (sym (set_answer_is w.threads (tables_of w.keys) (stacks_of w.cleanups) (mutexes_of w.mutexes) (locks_of w.rw_locks) w.ports c.args.k low)) (rw is_key at c.set.ensures.answer))

pub returns-clause-changes : goal.returns-clause-changes
returns-clause-changes g c =
    let w = c.self.inside in
    let sound = rw (← c.self.view_is) at c.requires.sound in
    let e = rw (← c.self.view_is) at c.slot-slot.ensures.slot in
    let few : c.args.t.0 < name_limit = search (arith, rules) in
    let is_key : to_z w64 (of_z w64 c.args.k) ≡ c.args.k = omega (arith, ints) in
    let low : key_named c.args.k < name_limit = named_low c.args.k (omega (arith, ints)) in
    let is_value : to_z w64 (of_z w64 c.args.v) ≡ c.args.v = omega (arith, ints) in
    rw (← c.self.view_is) (on_ok c.set.result (rw (is_key, is_value) at c.set.ensures.changes) (λ is. ap (λ (y : Tables). store_of (stored_by w.threads y (stacks_of w.cleanups) (mutexes_of w.mutexes) (locks_of w.rw_locks) w.ports)) is ∙ value_put w.threads (tables_of w.keys) (stacks_of w.cleanups) (mutexes_of w.mutexes) (locks_of w.rw_locks) w.ports c.args.t.0 c.slot-slot.result.0 sound.tied e few (key_named c.args.k) c.args.v low))

pub returns-clause-keeps : goal.returns-clause-keeps
returns-clause-keeps g c =
    let w = c.self.inside in
    let changes = rw (← c.self.view_is) at (returns-clause-changes g c) in
    let alive = rw (← c.self.view_is) at c.requires.alive in
    rw (← c.self.view_is) (stored_keeps _ _ refl (λ u dead h. either c.set.result changes c.set.ensures.same
    (λ is. subst (λ (s : Store). HasNothing s u) (sym is) (nothing_set _ c.args.t.0 u (key_named c.args.k) c.args.v (alive_apart w.threads c.args.t.0 u alive dead) h))
    (λ is. subst (λ (y : Tables). HasNothing (store_of (stored_by w.threads y (stacks_of w.cleanups) (mutexes_of w.mutexes) (locks_of w.rw_locks) w.ports)) u) (sym is) h)))
