-- How it is told what a thread gives up as it ends: its mutexes, and the read-write locks that it holds.
use Rattle.std.specs.Prelude.{ℕ, Bool, List, map, filter}
use Rattle.std.specs.List.{range_with_len}
use Rattle.pth_base.specs.declared.ids.Tid.{Tid}
use Rattle.pth_base.specs.declared.mark.Mark.{Mark}
use Rattle.pth_base.specs.declared.mark.Mark.TheVariants.{GaveMutex, GaveLock}
use Rattle.pth_lock.specs.Objects.{object_limit}
use Rattle.pth_end.specs.declared.giving.Held.{Held}
use Rattle.pth_end.specs.declared.giving.Held.TheVariants as held

-- a thread gives one up
abbrev pub given : Held → Tid → ℕ → Mark
given held.Mutex t k = GaveMutex t k
given held.RwLock t k = GaveLock t k

-- it gives up all that it has, the least first
unfoldable pub all_given : Held → Tid → (ℕ → Bool) → List Mark
all_given h t has = map (given h t) (filter has (range_with_len 0 object_limit))
