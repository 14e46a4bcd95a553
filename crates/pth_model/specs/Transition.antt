-- A state, and what was told on the way to it. A change touches the control alone, and only a mark touches the resources.
--
-- A definition gives only its own marks, and `and_then` joins them, so no definition speaks of earlier marks.
use Rattle.std.specs.Prelude.{ℕ, Bool, true, false, List, [], ◌∷◌, ◌++◌}
use Rattle.pth_base.specs.declared.ids.Tid.{Tid}
use Rattle.pth_base.specs.declared.mark.Mark.{Mark}
use Rattle.pth_model.specs.declared.next.Next.{Next}
use Rattle.pth_model.specs.Resources.{told}
use Rattle.pth_model.specs.State.{State, Control}

pub record Transition (P S H : Type 0) : Type 0 where
  pub state : State P S H
  pub marks : List Mark

-- a piece of the machine: from a state to the next one, with what it tells
abbrev pub Piece : Type 0 → Type 0 → Type 0 → Type 0
Piece P S H = State P S H → Transition P S H

-- a change of the control, which is not told
abbrev pub Change : Type 0 → Type 0 → Type 0 → Type 0
Change P S H = Control P S H → Control P S H

-- what a call does, and what comes next for its thread
pub record Went (P S H : Type 0) : Type 0 where
  pub told : Transition P S H
  pub next : Next

-- the last piece of a call
abbrev pub Last : Type 0 → Type 0 → Type 0 → Type 0
Last P S H = State P S H → Went P S H

abbrev pub tid : ℕ → Tid
tid t = record { 0 = t }

module _ {P S H : Type 0} where
  -- nothing changes, and nothing is told
  abbrev pub silent : Piece P S H
  silent s = record { state = s; marks = [] }

  abbrev pub nothing : Change P S H
  nothing k = k

  -- one change, and then another
  infixr 7 ◌and◌
  abbrev pub ◌and◌ : Change P S H → Change P S H → Change P S H
  (first and second) k = second (first k)

  abbrev pub controlled : Change P S H → State P S H → State P S H
  controlled g s = record s { control = g s.control }

  abbrev pub changes : Change P S H → Piece P S H
  changes g s = record { state = controlled g s; marks = [] }

  -- a mark is told, and the resources become what it says
  abbrev pub tells : Mark → Piece P S H
  tells m s = record { state = record s { resources = told s.resources m }; marks = m ∷ [] }

  -- one piece after another: the second goes on from the state of the first
  infixr 6 ◌and_then◌
  abbrev pub ◌and_then◌ : Piece P S H → Piece P S H → Piece P S H
  (first and_then second) s =
      let a = first s in
      let b = second a.state in
      record { state = b.state; marks = a.marks ++ b.marks }

  -- these marks are told, one after another
  unfoldable pub tells_each : List Mark → Piece P S H
  tells_each [] s = silent s
  tells_each (m ∷ ms) s = (tells m and_then tells_each ms) s

  -- a piece, where so
  abbrev pub where_so : Bool → Piece P S H → Piece P S H
  where_so true a = a
  where_so false a = silent

  -- a piece, and what comes next
  infix 5 ◌and_next◌
  abbrev pub ◌and_next◌ : Piece P S H → Next → Last P S H
  (a and_next n) s = record { told = a s; next = n }

  infixr 4 ◌and_finally◌
  abbrev pub ◌and_finally◌ : Piece P S H → Last P S H → Last P S H
  (a and_finally last) s =
      let x = a s in
      let y = last x.state in
      record { told = record { state = y.told.state; marks = x.marks ++ y.told.marks }; next = y.next }
