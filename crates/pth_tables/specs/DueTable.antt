-- How many of the ready threads come to the point after their grace, by dispatch, for the next 64 dispatches.
use Rattle.std.specs.Prelude.{◌≡◌, ℕ, ◌+◌, ◌-◌, ◌%◌, ◌^◌, ◌<◌, ◌≤◌, ◌==◌, nat_le, Bool, List, length, count_by, slice_index, slice_set, if◌then◌else◌}
use Rattle.pth_base.specs.Chain.{StandsIn}
use Rattle.pth_queue.specs.declared.queue.Queue.{Queue}
use Rattle.pth_queue.specs.declared.queue.Queue.TheVariants.{New, Ready, Waiting, Suspended, Dead}
use Rattle.pth_tables.specs.declared.waits.Wait.{Wait}
use Rattle.pth_tables.specs.Waits.{WaitsOf, waited_by, is_due}

-- 1 if it holds, else 0
abbrev pub one_if : Bool → ℕ
one_if b = if b then 1 else 0

-- so many dispatches come before the one at which the thread of a slot comes to the point after its grace
abbrev pub due_of : (ℕ → Wait) → ℕ → ℕ
due_of waits s = (waits s).entered + (waits s).grace

-- how many of these slots come to it at the dispatch that follows
abbrev pub dues : WaitsOf → List ℕ → ℕ
dues x slots = count_by (is_due x) slots

-- what the table says of a dispatch
abbrev pub cell : List ℕ → ℕ → ℕ
cell due d = slice_index due (d % 64)

-- so many numbers a cell holds
abbrev pub cells_hold : ℕ
cells_hold = 2 ^ 32

-- one more, one less, none at a dispatch
abbrev pub more_at : ℕ → List ℕ → List ℕ
more_at d due = slice_set due (d % 64) ((cell due d + 1) % cells_hold)

abbrev pub less_at : ℕ → List ℕ → List ℕ
less_at d due = slice_set due (d % 64) (cell due d - 1)

abbrev pub none_at : ℕ → List ℕ → List ℕ
none_at d due = slice_set due (d % 64) 0

-- the thread of a slot is waited for no more, if it was still to come
abbrev pub left_due : ℕ → WaitsOf → List ℕ → List ℕ
left_due s x due = if nat_le (waited_by s x) (x.waits s).grace then less_at (due_of x.waits s) due else due

-- only the threads of the ready queue are told
abbrev pub due_with : Queue → ℕ → WaitsOf → List ℕ → List ℕ
due_with Ready s x due = more_at (due_of x.waits s) due
due_with New s x due = due
due_with Waiting s x due = due
due_with Suspended s x due = due
due_with Dead s x due = due

abbrev pub due_without : Queue → ℕ → WaitsOf → List ℕ → List ℕ
due_without Ready s x due = left_due s x due
due_without New s x due = due
due_without Waiting s x due = due
due_without Suspended s x due = due
due_without Dead s x due = due

-- the table, told by the slots of the ready queue and what is kept of their waits
pub record IsTable (slots : List ℕ) (dispatches : ℕ) (waits : ℕ → Wait) (due : List ℕ) : Type 0 where
  pub long : length due ≡ 64
  -- no grace goes round the table
  pub brief : (s : ℕ) → StandsIn s slots → (waits s).grace < 64
  pub begun : (s : ℕ) → StandsIn s slots → (waits s).entered ≤ dispatches
  -- for each of the next 64 dispatches, how many come at it to the point after their grace
  pub cells : (d : ℕ) → dispatches ≤ d → d < dispatches + 64 → cell due d ≡ count_by (λ s. due_of waits s == d) slots
