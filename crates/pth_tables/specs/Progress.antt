-- What is kept beside what threads go on with.
use Rattle.std.specs.Prelude.{◌≡◌, ℕ, List, Option, None, length}
use Rattle.pth_base.specs.Limits.{thread_limit}
use Rattle.pth_base.specs.Table.{table}
use Rattle.pth_model.specs.declared.awaits.Awaited.{Awaited}
use Rattle.pth_model.specs.declared.progress.Progress.{Progress}
use Rattle.pth_model.specs.RingWaits.{awaited_in}
use Rattle.pth_model.specs.Changes.{blocked_in}

-- what a thread waits for, if there is one
abbrev pub awaited_at : {S : Type 0} → Option (Progress S) → Awaited
awaited_at o = awaited_in (blocked_in o)

abbrev pub nothing_awaited : Awaited
nothing_awaited = awaited_in None

-- There is a place for each slot, and beside it stands what the thread there waits for.
pub record IsAwaitedBeside {S : Type 0} (items : List (Option (Progress S))) (awaited : List Awaited) : Type 0 where
  pub long : length items ≡ thread_limit
  pub beside : length awaited ≡ thread_limit
  pub same : (u : ℕ) → table nothing_awaited awaited u ≡ awaited_at (table None items u)
