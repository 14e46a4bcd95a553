use Rattle.std.proofs.Common.{◌≡◌, ◌<◌, ◌≤◌, length, Some, refl, sym, subst, arith}
use Rattle.pth_queue.specs.declared.queue.Queue.TheVariants.{Ready}
use Rattle.pth_queue.specs.Queues.{QueuesOf, queue_of}
use Rattle.pth_tables.specs.CountedOf.{KeptQueues}
use Rattle.pth_tables.specs.Waits.{waits_of}
use Rattle.pth_queue.proofs.Counts.{count-present}
use Rattle.pth_queue.proofs.Sets.{holds-queue_of}
use Rattle.pth_tables.proofs.Slots.{count-stands}
use Rattle.pth_tables.proofs.Counting.{one_less, counts_without}
use Rattle.pth_tables.proofs.Heights.{tells_without}
use Rattle.pth_tables.proofs.Keeping.{beside_taken}
use Rattle.pth_tables.proofs.Places.{marked_left}
use Rattle.pth_tables.proofs.counted_queues.CountedQueues.dispatch.Goals as goal

pub take-turn-requires-clause-counted : goal.take-turn-requires-clause-counted
take-turn-requires-clause-counted c = c.self.invariant.counts Ready

pub overflow_sub-self : goal.overflow_sub-self
overflow_sub-self c =
    let stands = subst (λ (k : KeptQueues). queue_of c.args.s.0 k.queues ≡ Some Ready) (sym c.self.view_is) c.requires.ready in
    omega (arith, one_less c.self.inside.queues c.self.inside.queues c.self.inside.lengths c.self.invariant.counts c.self.inside.lengths Ready c.self.inside.lengths.ready refl c.args.s.0 c.queue_of-home.ensures.orderly stands)

pub invariant_of-self : goal.invariant_of-self
invariant_of-self c =
    let stands = subst (λ (k : KeptQueues). queue_of c.args.s.0 k.queues ≡ Some Ready) (sym c.self.view_is) c.requires.ready in
    record {
      counts = counts_without _ c.self.inside.queues c.self.inside.lengths c.self.invariant.counts _ Ready c.self.inside.lengths.ready refl c.args.s.0 c.queue_of-home.ensures.orderly stands c.delete-queue.ensures.rows refl;
      room = subst (λ (k : QueuesOf). k.room ≤ length c.self.inside.heights.items) (sym c.delete-queue.ensures.rows) c.self.invariant.room;
      tells = tells_without _ c.self.inside.queues c.self.inside.raises c.self.inside.heights.items c.self.invariant.tells c.args.s.0 c.delete-queue.ensures.rows;
      beside = beside_taken c.self.inside.queues _ _ _ c.self.invariant.beside c.queue_of-home.ensures.orderly c.args.s.0 stands _ _ _ _ c.args.by_name c.delete-queue.ensures.rows c.take-turn.ensures.value c.take-turn.ensures.room c.take-turn.ensures.table;
      marked = marked_left c.self.inside.queues _ c.take-turn.new.mark c.take-turn.ensures.marked c.queue_of-home.ensures.orderly c.args.s.0 c.queue_of-home.result _ (sym c.queue_of-home.ensures.value) c.delete-queue.ensures.rows c.after_leaving-self-inside.ensures;
    }

pub returns-clause-brief : goal.returns-clause-brief
returns-clause-brief c =
    let stands = subst (λ (k : KeptQueues). queue_of c.args.s.0 k.queues ≡ Some Ready) (sym c.self.view_is) c.requires.ready in
    subst (λ (k : KeptQueues). ((waits_of k.waits).waits c.args.s.0).grace < 64) c.self.view_is (c.self.invariant.beside.table.brief c.args.s.0 (count-stands c.args.s.0 c.self.inside.queues.ready (count-present c.args.s.0 c.self.inside.queues.ready (holds-queue_of Ready c.args.s.0 c.self.inside.queues stands))))
