use Rattle.std.proofs.Common.{◌≡◌, ◌∙◌, ap₂, refl}
use Rattle.pth_lock.specs.Mutexes.{mutexes_of}
use Rattle.pth_lock.specs.RwLocks.{tables_of as locks_of}
use Rattle.pth_store.specs.Cleanups.{Stacks, stacks_of}
use Rattle.pth_store.specs.Keys.{Tables, tables_of}
use Rattle.pth_world.specs.Store.{stored_by}
use Rattle.pth_world.proofs.Stores.{added_is}
use Rattle.pth_world.proofs.world.World.add.Goals as goal

pub returns-clause-same : goal.returns-clause-same
returns-clause-same g c =
    let w = c.self.inside in
    let sound = rw (← c.self.view_is) at c.requires.sound in
    let same : stored_by c.add.new.self (tables_of c.forget.new.self) (stacks_of c.forget-2.new.self) (mutexes_of w.mutexes) (locks_of w.rw_locks) w.ports ≡ stored_by w.threads (tables_of w.keys) (stacks_of w.cleanups) (mutexes_of w.mutexes) (locks_of w.rw_locks) w.ports =
    ap₂ (λ (y : Tables) (z : Stacks). stored_by c.add.new.self y z (mutexes_of w.mutexes) (locks_of w.rw_locks) w.ports) c.forget.ensures c.forget-2.ensures ∙ added_is w.threads (tables_of w.keys) (stacks_of w.cleanups) (mutexes_of w.mutexes) (locks_of w.rw_locks) w.ports c.add.new.self c.in_ok-t.slot.0 _ sound.tied c.in_ok-t.ensures.ok (rw (← c.self.view_is) at c.requires.spare) in
    rw (← c.self.view_is) (rw same refl)
