use Rattle.std.proofs.Common.{length}
use Rattle.pth_queue.specs.Queues.{rows_of}
use Rattle.pth_world.specs.Vanishing.{Vanishing}
use Rattle.pth_world.proofs.world.World.empty_queue.Given as goal

abbrev pub invariant-loop-t : goal.invariant-loop-t
invariant-loop-t g l = Vanishing l.fn.self l.self

abbrev pub decreases-loop-t : goal.decreases-loop-t
decreases-loop-t g l = length (rows_of l.q l.self.threads.queues)
