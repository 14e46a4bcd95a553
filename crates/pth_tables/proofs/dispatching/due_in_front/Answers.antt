use Rattle.std.proofs.Common.{arith}
use Rattle.pth_queue.specs.Arena.{slots_of}
use Rattle.pth_tables.specs.Waits.{waits_of}
use Rattle.pth_tables.proofs.Walks.{dues_next}
use Rattle.pth_tables.proofs.dispatching.due_in_front.Goals as goal

pub loop-last-preserved : goal.loop-last-preserved
loop-last-preserved c =
    let test = c.loop-last-test.true in
    let next = c.in-Some.ensures.next in (
      c.in-Some.ensures.at,
      dues_next (slots_of c.args.queues.now.ready) (waits_of c.args.waits.now) c.loop-last.last c.in-Some.next c.in-Some.ensures.at c.in-Some.ensures.due next c.loop-last.invariant.1,
      omega arith,
    )
