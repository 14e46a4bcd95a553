use Rattle.std.proofs.Common.{refl, ◌≡◌, ◌<◌, ◌∙◌, List, ◌∷◌, ap, sym, subst, arith, rules}
use Rattle.std.proofs.lemmas.Int.{ints}
use mir.Syntax.{w64}
use mir.Val.{to_z, of_z}
use Rattle.pth_lock.specs.Mutexes.{mutexes_of}
use Rattle.pth_lock.specs.RwLocks.{tables_of as locks_of}
use Rattle.pth_store.specs.Cleanups.{PushedHandler, Stacks, stacks_of}
use Rattle.pth_store.specs.Keys.{tables_of}
use Rattle.pth_world.specs.Store.{name_limit, store_of, stored_by, HasNothing}
use Rattle.pth_world.proofs.Stores.{alive_apart, alive_known, push_answer_is, cleanups_put, nothing_pushed, stored_keeps, either}
use Rattle.pth_model.specs.Store.{Store}
use Rattle.pth_store.specs.Storing.{AnswersWithMemory}
use Rattle.pth_world.proofs.Events.{on_ok}
use Rattle.pth_world.proofs.world.World.push_cleanup.Goals as goal

pub slot-slot-requires : goal.slot-slot-requires
slot-slot-requires g c = alive_known c.args.self.now.threads c.args.t.0 c.requires.alive

pub returns-clause-answer : goal.returns-clause-answer
returns-clause-answer g c =
    let w = c.self.inside in
    let e = rw (← c.self.view_is) at c.slot-slot.ensures.slot in
    let few : c.args.t.0 < name_limit = search (arith, rules) in
    rw (← c.self.view_is) (subst (λ a. AnswersWithMemory a c.push.result) (sym (push_answer_is w.threads (tables_of w.keys) (stacks_of w.cleanups) (mutexes_of w.mutexes) (locks_of w.rw_locks) w.ports c.args.t.0 c.slot-slot.result.0 e few)) c.push.ensures.answer)

pub returns-clause-changes : goal.returns-clause-changes
returns-clause-changes g c =
    let w = c.self.inside in
    let sound = rw (← c.self.view_is) at c.requires.sound in
    let e = rw (← c.self.view_is) at c.slot-slot.ensures.slot in
    let few : c.args.t.0 < name_limit = search (arith, rules) in
    let is_arg : to_z w64 (of_z w64 c.args.arg) ≡ c.args.arg = omega (arith, ints) in
    let push : List PushedHandler → List PushedHandler = λ l. (c.args.h, c.args.arg) ∷ l in
    rw (← c.self.view_is) (on_ok c.push.result (rw is_arg at c.push.ensures.changes) (λ is. ap (λ (y : Stacks). store_of (stored_by w.threads (tables_of w.keys) y (mutexes_of w.mutexes) (locks_of w.rw_locks) w.ports)) is ∙ cleanups_put w.threads (tables_of w.keys) (stacks_of w.cleanups) (mutexes_of w.mutexes) (locks_of w.rw_locks) w.ports c.args.t.0 c.slot-slot.result.0 sound.tied e few push))

pub returns-clause-keeps : goal.returns-clause-keeps
returns-clause-keeps g c =
    let w = c.self.inside in
    let changes = rw (← c.self.view_is) at (returns-clause-changes g c) in
    let alive = rw (← c.self.view_is) at c.requires.alive in
    rw (← c.self.view_is) (stored_keeps _ _ refl (λ u dead h. either c.push.result changes c.push.ensures.refused
    (λ is. subst (λ (s : Store). HasNothing s u) (sym is) (nothing_pushed _ c.args.t.0 u _ (alive_apart w.threads c.args.t.0 u alive dead) h))
    (λ is. subst (λ (y : Stacks). HasNothing (store_of (stored_by w.threads (tables_of w.keys) y (mutexes_of w.mutexes) (locks_of w.rw_locks) w.ports)) u) (sym is) h)))
