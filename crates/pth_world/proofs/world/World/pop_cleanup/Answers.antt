use Rattle.std.proofs.Common.{refl, ◌<◌, ◌∙◌, sym, ap, arith, rules}
use Rattle.pth_lock.specs.Mutexes.{mutexes_of}
use Rattle.pth_lock.specs.RwLocks.{tables_of as locks_of}
use Rattle.pth_store.specs.Cleanups.{Stacks, stacks_of, without_top}
use Rattle.pth_store.specs.Keys.{tables_of}
use Rattle.pth_world.specs.Store.{name_limit, store_of, stored_by}
use Rattle.pth_world.proofs.Stores.{below_answer_is, cleanups_put, nothing_popped, stored_keeps}
use Rattle.pth_world.proofs.world.World.pop_cleanup.Goals as goal

pub returns-clause-answer : goal.returns-clause-answer
returns-clause-answer g c =
    let w = c.self.inside in
    let e = rw (← c.self.view_is) at c.slot-slot.ensures.slot in
    let few : c.args.t.0 < name_limit = search (arith, rules) in
    rw (← c.self.view_is) (c.pop.ensures.answer ∙ sym (below_answer_is w.threads (tables_of w.keys) (stacks_of w.cleanups) (mutexes_of w.mutexes) (locks_of w.rw_locks) w.ports c.args.t.0 c.slot-slot.result.0 e few 0))

pub returns-clause-changes : goal.returns-clause-changes
returns-clause-changes g c =
    let w = c.self.inside in
    let sound = rw (← c.self.view_is) at c.requires.sound in
    let e = rw (← c.self.view_is) at c.slot-slot.ensures.slot in
    let few : c.args.t.0 < name_limit = search (arith, rules) in
    rw (← c.self.view_is) (ap (λ (y : Stacks). store_of (stored_by w.threads (tables_of w.keys) y (mutexes_of w.mutexes) (locks_of w.rw_locks) w.ports)) c.pop.ensures.changes ∙ cleanups_put w.threads (tables_of w.keys) (stacks_of w.cleanups) (mutexes_of w.mutexes) (locks_of w.rw_locks) w.ports c.args.t.0 c.slot-slot.result.0 sound.tied e few without_top)

pub returns-clause-keeps : goal.returns-clause-keeps
returns-clause-keeps g c =
    let changes = rw (← c.self.view_is) at (returns-clause-changes g c) in
    rw (← c.self.view_is) (stored_keeps _ _ refl (λ u dead h. rw changes (nothing_popped _ c.args.t.0 u h)))
