use Rattle.std.proofs.Common.{◌<◌, ◌∙◌, refl, arith, rules}
use Rattle.pth_lock.specs.Mutexes.{mutexes_of}
use Rattle.pth_lock.specs.RwLocks.{tables_of as locks_of}
use Rattle.pth_store.specs.Cleanups.{stacks_of}
use Rattle.pth_store.specs.Keys.{tables_of}
use Rattle.pth_world.specs.Store.{name_limit}
use Rattle.pth_world.proofs.Stores.{forgets, keeps, removed_is, removed_still}
use Rattle.pth_world.proofs.Locked.{slot_low}
use Rattle.pth_world.proofs.world.World.remove_at.Goals as goal

pub release_all-requires : goal.release_all-requires
release_all-requires g c = slot_low c.args.self.now.threads.records c.args.t.0 c.args.s.0 c.requires.tied c.requires.at

pub release_all-requires-2 : goal.release_all-requires-2
release_all-requires-2 g c = slot_low c.args.self.now.threads.records c.args.t.0 c.args.s.0 c.requires.tied c.requires.at

pub returns-clause-store : goal.returns-clause-store
returns-clause-store g c =
    let w = c.self.inside in
    let tied = rw (← c.self.view_is) at c.requires.tied in
    let e = rw (← c.self.view_is) at c.requires.at in
    let few : c.args.t.0 < name_limit = search (arith, rules) in
    rw (← c.self.view_is) (forgets c.remove.new.self _ refl refl c.release_all.ensures.changes c.release_all-2.ensures.changes ∙ removed_is w.threads (tables_of w.keys) (stacks_of w.cleanups) (mutexes_of w.mutexes) (locks_of w.rw_locks) w.ports c.args.t.0 c.args.s.0 tied e few c.remove.new.self c.remove.ensures)

pub returns-clause-still : goal.returns-clause-still
returns-clause-still g c =
    let w = c.self.inside in
    let tied = rw (← c.self.view_is) at c.requires.tied in
    let e = rw (← c.self.view_is) at c.requires.at in
    let few : c.args.t.0 < name_limit = search (arith, rules) in
    rw (← c.self.view_is) (λ nothing. keeps c.remove.new.self (tables_of w.keys) (stacks_of w.cleanups) _ c.release_all.ensures.changes c.release_all-2.ensures.changes ∙ removed_still w.threads (tables_of w.keys) (stacks_of w.cleanups) (mutexes_of w.mutexes) (locks_of w.rw_locks) w.ports c.args.t.0 c.args.s.0 tied e few c.remove.new.self c.remove.ensures nothing)
