-- How far a walk over a queue has still to go.
use Rattle.std.specs.Prelude.{ℕ, List, [], ◌∷◌, length, map, if◌then◌else◌}
use Rattle.pth_queue.specs.declared.ranked.Ranked.{Ranked}
use Rattle.pth_queue.specs.declared.queue.Queue.{Queue}
use Rattle.pth_queue.specs.Ranking.{is_of, named_row}
use Rattle.pth_queue.specs.Queues.{rows_of}
use Rattle.pth_threads.specs.Threads.{tid_at}
use Rattle.pth_world.specs.World.{ThreadsBySlot}

-- how many rows stand behind the first row of this one
abbrev pub rows_behind : ℕ → List Ranked → ℕ
rows_behind holder [] = 0
rows_behind holder (x ∷ xs) = if is_of holder x then length xs else rows_behind holder xs

-- how many threads stand behind thread t in a queue
abbrev pub behind : {S : Type 0} → ThreadsBySlot S → Queue → ℕ → ℕ
behind x q t = rows_behind t (map (named_row (tid_at x.records)) (rows_of q x.queues))
