-- How far a run is.
--
-- The turn is kept apart from the state, so no row needs a proof that it leaves turns, steps and outcome alone.
use Rattle.std.specs.Prelude.{◌≡◌, List, ◌++◌, length}
use Rattle.pth_base.specs.declared.mark.Mark.{Mark}
use Rattle.pth_model.specs.Allowance.{AreTakenReady}
use Rattle.pth_model.specs.State.{State, Turn}
use Rattle.pth_model.specs.Transition.{Transition}

-- a state with the turn that it is in, and what was told on the way to it
pub record Course (P S H : Type 0) : Type 0 where
  pub state : State P S H
  pub turn : Turn
  pub marks : List Mark

module _ {P S H : Type 0} where
  -- what a piece of the machine told, within a turn
  abbrev pub within : Turn → Transition P S H → Course P S H
  within x told = record { state = told.state; turn = x; marks = told.marks }

  -- one part after another
  abbrev pub followed : Course P S H → Course P S H → Course P S H
  followed first second = record second { marks = first.marks ++ second.marks }

  -- its trail is that of its turns: each has one dispatch, of a thread that was ready
  pub record HasHistory (c : Course P S H) : Type 0 where
    pub taken : AreTakenReady c.state.control.threads.trail
    pub turns : length c.state.control.threads.trail ≡ c.turn.turns
