use Rattle.std.proofs.Common.{◌<◌, arith, rules}
use Rattle.pth_lock.specs.RwLocks.{is_one, tables_of as locks_of}
use Rattle.pth_world.specs.Store.{name_limit}
use Rattle.pth_world.proofs.Alone.{readers_alone}
use Rattle.pth_world.proofs.Locked.{neither, read_locks}
use Rattle.pth_world.proofs.world.World.count_readers.Goals as goal

pub returns : goal.returns
returns g c alone nothing l =
    let w = c.self.inside in
    let sound = rw (← c.self.view_is) at c.requires.sound in
    let e = rw (← c.self.view_is) at c.slot-slot.ensures.slot in
    let few : c.args.t.0 < name_limit = search (arith, rules) in
    let spare = rw (← c.self.view_is) at nothing in
    let lone = rw (← c.self.view_is) at alone in
    rw (← c.self.view_is) (readers_alone w.threads (locks_of w.rw_locks) c.args.t.0 c.slot-slot.result.0 sound.tied e few lone c.is_free-counted.ensures.sound (λ k. (neither (is_one 0 ((read_locks w.threads (locks_of w.rw_locks)).writer k)) ((read_locks w.threads (locks_of w.rw_locks)).reads k 0) (spare.locks k)).1) l)
