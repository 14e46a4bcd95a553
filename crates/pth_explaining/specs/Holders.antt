-- Who holds a mutex or a read-write lock, by the folds of the laws.
use Rattle.std.specs.Prelude.{ℕ, nat_lt, Bool, List}
use Rattle.std.specs.List.{filter}
use Rattle.pth_base.specs.declared.mark.Mark.{Mark}
use Rattle.pth_laws.specs.Exclusive.{levels, writes, reads}
use Rattle.pth_explaining.specs.declared.holders.Hold.{Hold}
use Rattle.pth_explaining.specs.declared.holders.Hold.TheVariants as hold

-- t has a level of the mutex, or writes or reads under the lock
abbrev pub holds : List Mark → Hold → ℕ → Bool
holds marks (hold.Owns m) t = nat_lt 0 (levels t m marks)
holds marks (hold.Writes l) t = writes t l marks
holds marks (hold.Reads l) t = reads t l marks

-- the threads of these that hold it
unfoldable pub holders : List Mark → List ℕ → Hold → List ℕ
holders marks threads h = filter (holds marks h) threads
