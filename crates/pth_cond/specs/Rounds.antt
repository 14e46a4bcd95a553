-- A law of rounds: that a thread was the first of a round is told once.
use Rattle.std.specs.Prelude.{◌≡◌, ◌≢◌, ℕ, true, false, List, [], ◌∷◌, ◌++◌, All}
use Rattle.pth_cond.specs.Barriers.{Arrived, is_headlight, answered, without_thread}

-- an answer was given in a round before each of its arrivals that wait
abbrev pub AreLate : ℕ → List Arrived → Type 0
AreLate round xs = All (λ a. a.round ≡ round → a.late ≡ true) xs

-- after the first of a round was told so, nobody else of the round is, whatever comes
pub record FirstIsToldOnce : Type 0 where
  pub given : (t round : ℕ) (xs : List Arrived) → is_headlight t round xs ≡ true → AreLate round (answered t round xs)
  pub none : (t round : ℕ) (xs : List Arrived) → AreLate round xs → is_headlight t round xs ≡ false
  pub answers : (t round other : ℕ) (xs : List Arrived) → AreLate round xs → AreLate round (answered t other xs)
  pub withdrawals : (t round : ℕ) (xs : List Arrived) → AreLate round xs → AreLate round (without_thread t xs)
  pub arrivals : (round : ℕ) (xs : List Arrived) (a : Arrived) → a.round ≢ round → AreLate round xs → AreLate round (xs ++ (a ∷ []))
