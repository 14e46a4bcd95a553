-- What turns are to the marks that tell them.
use Rattle.std.specs.Prelude.{◌≡◌, ◌↔◌, ℕ, Bool, true, false, List, [], ◌∷◌, ◌++◌, Some, is_some}
use Rattle.std.specs.List.{count_by, list_any}
use Rattle.pth_base.specs.declared.mark.Mark.{Mark}
use Rattle.pth_drawing.specs.States.{Turn, dispatched, state_in, Running}

-- t runs in a turn, and no other thread does
abbrev pub RunsAlone : ℕ → Turn → Type 0
RunsAlone t turn = (u : ℕ) → (state_in u turn ≡ Running) ↔ (u ≡ t)

abbrev pub RunsOne : Turn → Type 0
RunsOne turn = (t : ℕ) × RunsAlone t turn

abbrev pub is_dispatch : Mark → Bool
is_dispatch m = is_some (dispatched m)

-- marks begin with a Dispatch, or there are none
abbrev pub BeginsTurn : List Mark → Type 0
BeginsTurn [] = Unit {0}
BeginsTurn (m ∷ ms) = is_dispatch m ≡ true

-- a turn comes after k others: the marks are those before it, its Dispatch, those in it, and the rest, with the next Dispatch
pub record IsTurn (marks : List Mark) (k : ℕ) (turn : Turn) : Type 0 where
  pub dispatch : Mark
  pub rest : List Mark
  pub whole : marks ≡ turn.before ++ dispatch ∷ (turn.during ++ rest)
  pub others : count_by is_dispatch turn.before ≡ k
  pub thread : dispatched dispatch ≡ Some turn.thread
  pub alone : list_any is_dispatch turn.during ≡ false
  pub next : BeginsTurn rest
