-- Rings as lists: a ring is the list of its events, read from one of them on.
use Rattle.std.specs.Prelude.{◌≡◌, ◌==◌, ℕ, Bool, if◌then◌else◌, List, [], ◌∷◌, ◌++◌, Option, Some, None}
use Rattle.std.specs.List.{list_any}
use Rattle.pth_base.specs.Chain.{StandsIn, last_or}

-- whether e stands in the list
abbrev pub ring_holds : ℕ → List ℕ → Bool
ring_holds e xs = list_any (λ x. x == e) xs

-- the list from e on, and what stands before e
abbrev pub from : ℕ → List ℕ → List ℕ
from e [] = []
from e (x ∷ xs) = if x == e then x ∷ xs else from e xs

abbrev pub before : ℕ → List ℕ → List ℕ
before e [] = []
before e (x ∷ xs) = if x == e then [] else x ∷ before e xs

-- a ring read from e on
unfoldable pub turned : ℕ → List ℕ → List ℕ
turned e xs = from e xs ++ before e xs

-- the rings with these events as one ring, read from each of them
unfoldable pub circle : List ℕ → (ℕ → List ℕ) → ℕ → List ℕ
circle xs f e = if ring_holds e xs then turned e xs else f e

-- a table changed at each of these
unfoldable pub each : {A : Type 0} → List ℕ → (A → A) → (ℕ → A) → ℕ → A
each xs g f e = if ring_holds e xs then g (f e) else f e

-- a ring without its first
abbrev pub rest_of : List ℕ → List ℕ
rest_of [] = []
rest_of (x ∷ xs) = xs

abbrev pub head_event : List ℕ → Option ℕ
head_event [] = None
head_event (x ∷ xs) = Some x

abbrev pub last_event : List ℕ → Option ℕ
last_event [] = None
last_event (x ∷ xs) = Some (last_or x xs)

-- a ring read from behind its first on, which comes last
abbrev pub turned_once : List ℕ → List ℕ
turned_once [] = []
turned_once (x ∷ xs) = xs ++ x ∷ []

-- the ring begins with e
abbrev pub Begins : List ℕ → ℕ → Type 0
Begins ring e = ring ≡ e ∷ rest_of ring

-- the ring of e goes on from n with m; it is over where m is e
pub record RingGoesOn (ring : List ℕ) (e n m : ℕ) : Type 0 where
  pub within : StandsIn m ring
  pub rest : from n ring ≡ n ∷ (if m == e then [] else from m ring)
