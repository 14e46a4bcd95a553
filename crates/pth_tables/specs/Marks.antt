-- Slots of the ready queue whose places are known, and what a walk from one of them makes of the waits.
use Rattle.std.specs.Prelude.{◌≡◌, ℕ, suc, ◌+◌, ◌<◌, List, length, take, drop, slice_index, Option, Some, IfSome}
use Rattle.pth_queue.specs.declared.queue.Queue.{Queue}
use Rattle.pth_queue.specs.declared.queue.Queue.TheVariants.{New, Ready, Waiting, Suspended, Dead}
use Rattle.pth_queue.specs.Queues.{QueuesOf}
use Rattle.pth_queue.specs.Ranking.{head_of, last_of}
use Rattle.pth_tables.specs.declared.mark.Mark.{Mark}
use Rattle.pth_tables.specs.Waits.{WaitsOf, reached_all}
use Rattle.pth_tables.specs.DueTable.{dues}

-- its slot stands at its place
pub record StandsAt (slots : List ℕ) (m : Mark) : Type 0 where
  pub low : m.place < length slots
  pub here : slice_index slots m.place ≡ m.slot.0

abbrev pub IsMarked : List ℕ → Option Mark → Type 0
IsMarked slots mark = IfSome mark (StandsAt slots)

-- a slot that is in a queue now is the last there, if that is the ready queue
abbrev pub EntersBehind : Queue → ℕ → QueuesOf → Type 0
EntersBehind Ready s qs = last_of qs.ready ≡ Some s
EntersBehind New s qs = Unit {0}
EntersBehind Waiting s qs = Unit {0}
EntersBehind Suspended s qs = Unit {0}
EntersBehind Dead s qs = Unit {0}

-- a slot that leaves the ready queue is its head, and a mark there comes one place further in front
abbrev pub LeavesInFront : Option Queue → ℕ → QueuesOf → (old : Option Mark) → Mark → Type 0
LeavesInFront (Some Ready) s qs old m = (head_of qs.ready ≡ Some s) × (old ≡ Some (record m { place = m.place + 1 }))
LeavesInFront q s qs old m = old ≡ Some m

-- the slots from the head up to a place
abbrev pub up_to : ℕ → List ℕ → List ℕ
up_to place slots = take (suc place) slots

-- from a place on, so many of these slots are due, and they have their numbers now
pub record Reaches (slots : List ℕ) (place due : ℕ) (old new : WaitsOf) : Type 0 where
  pub met : dues old (drop place slots) ≡ due
  pub now : new ≡ reached_all place (drop place slots) old
