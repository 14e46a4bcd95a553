-- The turns that marks tell, and as what a thread stands in each. All is told by the marks alone, of every list of marks.
use Rattle.std.specs.Prelude.{ℕ, ◌==◌, not, Bool, true, false, if◌then◌else◌, List, [], ◌∷◌, ◌++◌, fold, Option, Some, None, is_some}
use Rattle.std.specs.List.{list_any}
use Rattle.pth_base.specs.declared.mark.Mark.{Mark}
use Rattle.pth_base.specs.declared.mark.Mark.TheVariants as mark
use Rattle.pth_laws.specs.Marks.{is_end_of}
use Rattle.pth_transcript.specs.Threads.{is_there}
use Rattle.pth_drawing.specs.declared.chart.Shown.{Shown}
use Rattle.pth_drawing.specs.declared.chart.Shown.TheVariants as shown

-- ---- turns

-- a turn: all marks before its Dispatch, the thread that is dispatched, and the marks in it
pub record Turn : Type 0 where
  pub before : List Mark
  pub thread : ℕ
  pub during : List Mark

-- the thread that a mark dispatches
abbrev pub dispatched : Mark → Option ℕ
dispatched (mark.Dispatch turn at t rank waited allowed) = Some t.0
dispatched m = None

-- the marks up to the next Dispatch
unfoldable pub up_to_dispatch : List Mark → List Mark
up_to_dispatch [] = []
up_to_dispatch (m ∷ ms) = if is_some (dispatched m) then [] else m ∷ up_to_dispatch ms

-- the turn that a Dispatch begins, with the marks before and after it
abbrev pub turn_begun : List Mark → Option ℕ → List Mark → List Turn
turn_begun before None after = []
turn_begun before (Some t) after = record { before = before; thread = t; during = up_to_dispatch after } ∷ []

-- the turns that marks tell, if others came before them
unfoldable pub turns_after : List Mark → List Mark → List Turn
turns_after before [] = []
turns_after before (m ∷ ms) = turn_begun before (dispatched m) ms ++ turns_after (before ++ m ∷ []) ms

-- the turns that marks tell, the first of them first
abbrev pub turns_of : List Mark → List Turn
turns_of marks = turns_after [] marks

-- ---- threads

-- whether t waits after a mark: from its Waits or Retakes on, up to its Woke
abbrev pub waits_after : ℕ → Bool → Mark → Bool
waits_after t waits (mark.Waits u c) = if u.0 == t then true else waits
waits_after t waits (mark.Retakes u c) = if u.0 == t then true else waits
waits_after t waits (mark.Woke u rank) = if u.0 == t then false else waits
waits_after t waits m = waits

-- t has ended
abbrev pub has_ended : ℕ → List Mark → Bool
has_ended t marks = list_any (is_end_of t) marks

-- t waits
abbrev pub is_waiting : ℕ → List Mark → Bool
is_waiting t marks = fold (waits_after t) false marks

-- ---- states

pub data State : Type 0 where
  Running : State
  Over : State
  Absent : State
  Waiting : State
  Ready : State

-- as what t stands after marks, while it does not run
abbrev pub state_after : ℕ → List Mark → State
state_after t marks =
    if has_ended t marks then Over else (
    if not (is_there t marks) then Absent else (
    if is_waiting t marks then Waiting else
    Ready))

-- as what t stands in a turn
abbrev pub state_in : ℕ → Turn → State
state_in t turn = if turn.thread == t then Running else state_after t turn.before

-- as what a state is drawn: not at all if the thread is over or absent
abbrev pub shown_as : State → Option Shown
shown_as Running = Some shown.Running
shown_as Over = None
shown_as Absent = None
shown_as Waiting = Some shown.Waiting
shown_as Ready = Some shown.Ready

-- as what t is drawn in a turn
abbrev pub shown_in : ℕ → Turn → Option Shown
shown_in t turn = shown_as (state_in t turn)

-- as what t is drawn after the last of these marks
abbrev pub shown_after : ℕ → List Mark → Option Shown
shown_after t marks = shown_as (state_after t marks)
