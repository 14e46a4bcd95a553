-- What the judge of an ending keeps of a list of marks.
use Rattle.std.specs.Prelude.{◌≡◌, ◌==◌, ℕ, ℤ, pos, negsuc, Bool, false, List}
use Rattle.std.specs.BTreeSet.{BTreeSet, contains}
use Rattle.std.specs.Ordering.{nat_cmp}
use Rattle.pth_base.specs.declared.mark.Mark.{Mark}
use Rattle.pth_checker.specs.Fitting.{has_ended, is_alive, last_mark}
use Rattle.pth_checker.specs.declared.living.Living.{Living}

-- a set has t
abbrev pub has : BTreeSet ℕ → ℕ → Bool
has set t = contains nat_cmp set t

-- an answer is the number of t
abbrev pub is_number_of : ℕ → ℤ → Bool
is_number_of t (pos n) = n == t
is_number_of t (negsuc n) = false

-- it keeps who is alive, who has ended, and the last mark
pub record FollowsLiving (l : Living) (marks : List Mark) : Type 0 where
  pub alive : (t : ℕ) → has l.alive t ≡ is_alive marks t
  pub ended : (t : ℕ) → has l.ended t ≡ has_ended marks t
  pub last : l.last ≡ last_mark marks
