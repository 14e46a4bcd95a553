use Rattle.std.proofs.Common.{◌<◌, length, arith}
use Rattle.pth_lock.proofs.Sweeps.{sets_flipped}
use Rattle.pth_lock.proofs.sets.SlotSets.insert.Goals as goal

pub returns-clause-objects : goal.returns-clause-objects
returns-clause-objects c =
    let many = c.self.invariant in
    let low : c.args.s.0 < length c.self.inside.sets.items = omega (arith, c.requires.slot) in
    rw (← c.self.view_is) (sets_flipped c.self.inside.sets.items c.args.s.0 c.index.result.now _ c.args.k _ low c.index.ensures c.with.ensures)
