use Rattle.std.proofs.Common.{◌≡◌, ◌+◌, ◌-◌, ◌<◌}
use Rattle.pth_queue.specs.Arena.{slots_of}
use Rattle.pth_tables.specs.DueTable.{dues}
use Rattle.pth_tables.specs.Marks.{StandsAt, up_to}
use Rattle.pth_tables.specs.Waits.{waits_of}
use Rattle.pth_tables.proofs.dispatching.due_in_front.Given as goal

abbrev pub invariant-loop-last : goal.invariant-loop-last
invariant-loop-last l =
    StandsAt (slots_of l.queues.ready) l.last
    × (dues (waits_of l.waits) (up_to l.last.place (slots_of l.queues.ready)) ≡ l.last.place + 1)
    × (l.last.place < l.due)

abbrev pub decreases-loop-last : goal.decreases-loop-last
decreases-loop-last l = l.due - l.last.place
