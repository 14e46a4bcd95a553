use Rattle.std.proofs.Common.{refl, ◌<◌, ◌∙◌, arith, rules}
use Rattle.pth_lock.specs.Mutexes.{mutexes_of}
use Rattle.pth_lock.specs.RwLocks.{tables_of as locks_of}
use Rattle.pth_store.specs.Cleanups.{stacks_of}
use Rattle.pth_store.specs.Keys.{tables_of}
use Rattle.pth_world.specs.Store.{name_limit, store_of}
use Rattle.pth_world.proofs.Stores.{forgets, forgotten_is, nothing_left, nothing_without, stored_keeps}
use Rattle.pth_world.proofs.world.World.forget.Goals as goal

pub returns-clause-changes : goal.returns-clause-changes
returns-clause-changes g c =
    let w = c.self.inside in
    let sound = rw (← c.self.view_is) at c.requires.sound in
    let e = rw (← c.self.view_is) at c.slot-slot.ensures.slot in
    let few : c.args.t.0 < name_limit = search (arith, rules) in
    rw (← c.self.view_is) (forgets w.threads _ c.forget.ensures c.forget-2.ensures c.release_all.ensures.changes c.release_all-2.ensures.changes ∙ forgotten_is w.threads (tables_of w.keys) (stacks_of w.cleanups) (mutexes_of w.mutexes) (locks_of w.rw_locks) w.ports c.args.t.0 c.slot-slot.result.0 sound.tied e few)

pub returns-clause-nothing : goal.returns-clause-nothing
returns-clause-nothing g c = rw (returns-clause-changes g c) (nothing_left (store_of c.args.self.now.store) c.args.t.0)

pub returns-clause-keeps : goal.returns-clause-keeps
returns-clause-keeps g c =
    let changes = rw (← c.self.view_is) at (returns-clause-changes g c) in
    rw (← c.self.view_is) (stored_keeps _ _ refl (λ u dead h. rw changes (nothing_without _ c.args.t.0 u h)))
