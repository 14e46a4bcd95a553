-- What a change of a world does to the ranks of the ready queue.
use Rattle.std.specs.Prelude.{ℕ, ◌+◌, ◌≤◌, pos, ◌≤ℤ◌, List, All, length}
use Rattle.pth_queue.specs.declared.queue.Queue.{Queue}
use Rattle.pth_queue.specs.declared.queue.Queue.TheVariants as queue
use Rattle.pth_queue.specs.declared.ranked.Ranked.{Ranked}
use Rattle.pth_world.specs.World.{ThreadsBySlot}

-- no row has a rank above this
abbrev pub IsUnder : ℕ → List Ranked → Type 0
IsUnder bound rows = All (λ r. r.rank ≤ℤ pos bound) rows

-- the greatest rank at which a thread that is woken or put back enters the ready queue: base priorities go to 20
abbrev pub greatest_return : ℕ
greatest_return = 21

-- A change that lifts no ready thread above the others: what no rank of the ready queue was above, none is above now, from
-- the greatest rank of a return up; and at most so many threads more are new.
pub record KeepsRanks {S : Type 0} (more : ℕ) (x y : ThreadsBySlot S) : Type 0 where
  pub under : (bound : ℕ) → greatest_return ≤ bound → IsUnder bound x.queues.ready → IsUnder bound y.queues.ready
  pub fresh : length y.queues.new ≤ length x.queues.new + more

-- how many threads more are new where one enters this queue
abbrev pub more_new : Queue → ℕ
more_new queue.New = 1
more_new q = 0
