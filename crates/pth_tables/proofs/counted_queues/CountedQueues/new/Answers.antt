use Rattle.std.proofs.Common.{◌≤◌, length, sym, subst, arith}
use Rattle.pth_queue.specs.Queues.{QueuesOf}
use Rattle.pth_tables.proofs.Counting.{counts_none}
use Rattle.pth_tables.proofs.Heights.{tells_none}
use Rattle.pth_tables.proofs.Keeping.{beside_none}
use Rattle.pth_tables.proofs.counted_queues.CountedQueues.new.Goals as goal

pub invariant_of-result : goal.invariant_of-result
invariant_of-result c = record {
  counts = counts_none c.args.top _ c.new.ensures;
  room = subst (λ (k : QueuesOf). k.room ≤ length c.new-2.result.items) (sym c.new.ensures) (omega arith);
  tells = tells_none c.args.top _ _ _ c.new.ensures;
  beside = beside_none c.args.top _ _ _ _ c.new.ensures c.new-3.ensures.value c.nobody.ensures;
  marked = tt;
}
