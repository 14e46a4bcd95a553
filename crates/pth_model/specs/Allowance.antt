-- How long a ready thread waits for its dispatch, and how long it may wait at most, by the trail of all dispatches.
--
-- A point lists the latest entry first and names the thread taken; the queue's order follows from ranks and entries.
use Rattle.std.specs.Prelude.{◌≡◌, ℕ, ◌+◌, ◌==◌, nat_lt, drop, ℤ, pos, negsuc, ◌-ℤ◌, int_lt, Bool, true, false, ◌&&◌, not, List, [], ◌∷◌, ◌++◌, filter, count_by, All, Option, Some, None, is_some, if◌then◌else◌}
use Rattle.std.specs.List.{list_any, find}
use Rattle.pth_model.specs.Standing.{Standing, height}

-- a dispatch: who was ready, the latest entry first, which of them was taken, and whether a yield named it
pub record Point : Type 0 where
  pub ready : List Standing
  pub taken : ℕ
  pub by_name : Bool

-- an entry is among these
abbrev pub has_entry : ℕ → List Standing → Bool
has_entry e all = list_any (λ x. x.entry == e) all

-- where thread t stands among these
abbrev pub standing_of : ℕ → List Standing → Option Standing
standing_of t all = find (λ x. x.tid == t) all

-- the points of a wait: the dispatches at which its entry stood in the ready queue, the earliest first
unfoldable pub points : ℕ → List Point → List Point
points e trail = filter (λ p. has_entry e p.ready) trail

-- another thread was taken; and a yield named it
abbrev pub takes_another : Standing → Point → Bool
takes_another s p = not (p.taken == s.tid)

abbrev pub names_another : Standing → Point → Bool
names_another s p = p.by_name && takes_another s p

-- waited: the points of its wait at which another thread was taken
unfoldable pub waited : List Point → Standing → ℕ
waited trail s = count_by (takes_another s) (points s.entry trail)

-- So many dispatches come first, until its rank is above those at which threads come back or wake, which are N + 1 at most; none
-- if it is there from the start.
abbrev pub or_none : ℤ → ℕ
or_none (pos n) = n
or_none (negsuc n) = 0

unfoldable pub grace : (top : ℕ) → ℤ → ℕ
grace top rank = or_none (pos (top + 1) -ℤ rank)

-- x stands before y: its rank is greater, or the ranks are equal and it entered earlier
unfoldable pub is_before : Standing → Standing → Bool
is_before x y = if int_lt (height y) (height x) then true else (if int_lt (height x) (height y) then false else nat_lt x.entry y.entry)

-- how many of these stand before it
abbrev pub number_before : Standing → List Standing → ℕ
number_before s all = count_by (λ x. is_before x s) all

-- how many of these entered at Top, and are not among those that were seen
abbrev pub new_at_top : (seen all : List Standing) → ℕ
new_at_top seen all = count_by (λ x. x.top && not (has_entry x.entry seen)) all

-- How many entries at Top stand in these points, and are not among those that were seen. Each counts once, at the first point in which
-- it stands, since no two entries have one number.
unfoldable pub newcomers : List Standing → List Point → ℕ
newcomers seen [] = 0
newcomers seen (p ∷ ps) = new_at_top seen p.ready + newcomers (seen ++ p.ready) ps

-- what may come before it at these points: who stands before it at the first of them, each thread that a yield names, and each newcomer
-- at Top
unfoldable pub beyond : Standing → List Point → ℕ
beyond s [] = 0
beyond s (p ∷ ps) = number_before s p.ready + count_by (names_another s) (p ∷ ps) + newcomers p.ready ps

-- allowed: its grace, and what may come before it at the points after that many
unfoldable pub allowed : (top : ℕ) → List Point → Standing → ℕ
allowed top trail s = let c = grace top s.rank in c + beyond s (drop c (points s.entry trail))

-- the numbers of one that is ready, and 0 of nobody
abbrev pub number_by : (Standing → ℕ) → Option Standing → ℕ
number_by f None = 0
number_by f (Some s) = f s

-- each thread that was taken was ready
abbrev pub AreTakenReady : List Point → Type 0
AreTakenReady trail = All (λ p. is_some (standing_of p.taken p.ready) ≡ true) trail
