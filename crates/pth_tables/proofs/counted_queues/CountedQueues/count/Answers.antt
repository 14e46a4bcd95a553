use Rattle.std.proofs.Common.{◌∙◌, ap, length}
use Rattle.pth_queue.specs.Queues.{rows_of}
use Rattle.pth_tables.specs.CountedOf.{KeptQueues}
use Rattle.pth_tables.proofs.counted_queues.CountedQueues.count.Goals as goal

pub returns : goal.returns
returns c = c.of.ensures ∙ c.self.invariant.counts c.args.q ∙ ap (λ (x : KeptQueues). length (rows_of c.args.q x.queues)) c.self.view_is
