use Rattle.std.proofs.Common.{◌≡◌, ◌<◌, Some, sym, subst, arith}
use Rattle.pth_queue.specs.declared.queue.Queue.TheVariants.{Ready}
use Rattle.pth_queue.specs.Queues.{queue_of}
use Rattle.pth_tables.specs.CountedOf.{KeptQueues}
use Rattle.pth_tables.specs.Waits.{waits_of}
use Rattle.pth_queue.proofs.Counts.{count-present}
use Rattle.pth_queue.proofs.Sets.{holds-queue_of}
use Rattle.pth_tables.proofs.Slots.{count-stands}
use Rattle.pth_tables.proofs.Heights.{low_slot}
use Rattle.pth_tables.proofs.counted_queues.CountedQueues.allowed.Goals as goal

pub allowed-requires : goal.allowed-requires
allowed-requires c =
    let stands = subst (λ (k : KeptQueues). queue_of c.args.s.0 k.queues ≡ Some Ready) (sym c.self.view_is) c.requires in
    let slot = low_slot c.args.s.0 Ready c.self.inside.queues c.queue_of-home.ensures.orderly stands in
    let room = c.self.invariant.beside.room in
    omega arith

pub returns-clause-brief : goal.returns-clause-brief
returns-clause-brief c =
    let stands = subst (λ (k : KeptQueues). queue_of c.args.s.0 k.queues ≡ Some Ready) (sym c.self.view_is) c.requires in
    subst (λ (k : KeptQueues). ((waits_of k.waits).waits c.args.s.0).grace < 64) c.self.view_is (c.self.invariant.beside.table.brief c.args.s.0 (count-stands c.args.s.0 c.self.inside.queues.ready (count-present c.args.s.0 c.self.inside.queues.ready (holds-queue_of Ready c.args.s.0 c.self.inside.queues stands))))
