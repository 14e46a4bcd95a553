use Rattle.std.proofs.Common.{◌≡◌, Some, sym, subst, arith}
use Rattle.pth_queue.specs.declared.queue.Queue.TheVariants.{Ready}
use Rattle.pth_queue.specs.Queues.{queue_of}
use Rattle.pth_tables.specs.CountedOf.{KeptQueues}
use Rattle.pth_tables.proofs.Heights.{low_slot}
use Rattle.pth_tables.proofs.counted_queues.CountedQueues.waited.Goals as goal

pub waited-requires : goal.waited-requires
waited-requires c =
    let stands = subst (λ (k : KeptQueues). queue_of c.args.s.0 k.queues ≡ Some Ready) (sym c.self.view_is) c.requires in
    let slot = low_slot c.args.s.0 Ready c.self.inside.queues c.queue_of-home.ensures.orderly stands in
    let room = c.self.invariant.beside.room in
    omega arith
