use Rattle.std.proofs.Common.{◌≤◌, length, sym, subst, arith}
use Rattle.pth_queue.specs.Queues.{QueuesOf}
use Rattle.pth_tables.proofs.Counting.{one_less, counts_without}
use Rattle.pth_tables.proofs.Heights.{low_slot, tells_without}
use Rattle.pth_tables.proofs.Keeping.{beside_left}
use Rattle.pth_tables.proofs.Places.{marked_left}
use Rattle.pth_tables.proofs.counted_queues.CountedQueues.delete.Goals as goal

pub overflow_sub-n : goal.overflow_sub-n
overflow_sub-n c = omega (arith, one_less c.self.inside.queues c.self.inside.queues c.self.inside.lengths c.self.invariant.counts c.self.inside.lengths c.delete-q.result c.of-n.result c.of-n.ensures c.args.s.0 c.queue_of-home.ensures.orderly (sym c.delete-q.ensures.queue))

pub leave-requires : goal.leave-requires
leave-requires c = let slot = low_slot c.args.s.0 c.delete-q.result c.self.inside.queues c.queue_of-home.ensures.orderly (sym c.delete-q.ensures.queue) in let room = c.self.invariant.beside.room in omega arith

pub invariant_of-self : goal.invariant_of-self
invariant_of-self c = record {
  counts = counts_without _ c.self.inside.queues c.self.inside.lengths c.self.invariant.counts _ c.delete-q.result c.of-n.result c.of-n.ensures c.args.s.0 c.queue_of-home.ensures.orderly (sym c.delete-q.ensures.queue) c.delete-q.ensures.rows c.set.ensures;
  room = subst (λ (k : QueuesOf). k.room ≤ length c.self.inside.heights.items) (sym c.delete-q.ensures.rows) c.self.invariant.room;
  tells = tells_without _ c.self.inside.queues c.self.inside.raises c.self.inside.heights.items c.self.invariant.tells c.args.s.0 c.delete-q.ensures.rows;
  beside = beside_left c.self.inside.queues _ _ _ c.self.invariant.beside c.queue_of-home.ensures.orderly c.args.s.0 _ _ _ _ c.delete-q.result (sym c.delete-q.ensures.queue) c.delete-q.ensures.rows c.leave.ensures.value c.leave.ensures.room c.leave.ensures.due;
  marked = marked_left c.self.inside.queues _ c.self.inside.mark c.self.invariant.marked c.queue_of-home.ensures.orderly c.args.s.0 c.queue_of-home.result _ (sym c.queue_of-home.ensures.value) c.delete-q.ensures.rows c.after_leaving-self-inside.ensures;
}
