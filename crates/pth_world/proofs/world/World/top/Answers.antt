use Rattle.std.proofs.Common.{rules, SFits, w64, to_z-of_z}
use Rattle.pth_queue.specs.declared.queue.Queue.TheVariants.{Ready}
use Rattle.pth_world.proofs.QueueReads.{top_bounds}
use Rattle.pth_world.proofs.world.World.top.Goals as goal

pub returns-clause-high : goal.returns-clause-high
returns-clause-high g c =
    let f : SFits w64 c.favour_top.result = search rules in
    rw (to_z-of_z, c.favour_top.ensures.value, c.counted.ensures) (top_bounds _ _ _ c.requires.sound.orderly.range.1 (c.requires.sound.orderly.each Ready)).1
