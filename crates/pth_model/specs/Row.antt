-- The row of a call: all that is said of it, in one place.
--
-- `again` is given what is awaited. `exit` also needs its value and `nap` its answer, so these rules are in the row.
use Rattle.std.specs.Prelude.{Bool, true, false}
use Rattle.pth_base.specs.declared.answer.Answer.TheVariants.{Fail}
use Rattle.pth_model.specs.declared.awaits.Awaits.{Awaits}
use Rattle.pth_model.specs.declared.awaits.Awaits.TheVariants.{Nothing}
use Rattle.pth_model.specs.declared.verdict.Verdict.{Verdict}
use Rattle.pth_model.specs.declared.verdict.Verdict.TheVariants.{Says, Yields, Blocks, Ends, Kills}
use Rattle.pth_model.specs.Transition.{Piece, Change, silent, changes}

-- what an attempt at a call comes to, and what it does unless it is refused
pub record Attempt (P S H : Type 0) : Type 0 where
  pub verdict : Verdict
  pub effect : Piece P S H

pub record Row (P S H : Type 0) : Type 0 where
  -- as the call begins: its refusals in order, and its effect
  pub begin : Attempt P S H
  -- tried again, once its thread waits: while it blocks, it is not yet
  pub again : Awaits → Attempt P S H

-- whether a verdict refuses the call
abbrev pub refuses : Verdict → Bool
refuses (Says (Fail e)) = true
refuses (Says a) = false
refuses (Yields a) = false
refuses (Blocks p) = false
refuses (Ends v) = false
refuses Kills = false

module _ {P S H : Type 0} where
  -- a refused call changes nothing
  abbrev pub unless_refused : Bool → Piece P S H → Piece P S H
  unless_refused true a = silent
  unless_refused false a = a

  -- what an attempt does
  abbrev pub effect_of : Attempt P S H → Piece P S H
  effect_of a = unless_refused (refuses a.verdict) a.effect

  -- an attempt, as its clauses and its effect say
  infix 3 ◌trying◌
  abbrev pub ◌trying◌ : Verdict → Piece P S H → Attempt P S H
  v trying a = record { verdict = v; effect = a }

  -- a call that never blocks its thread, and changes the control or nothing: so it is never tried again
  infix 3 ◌changing◌
  abbrev pub ◌changing◌ : Verdict → Change P S H → Row P S H
  v changing g = record { begin = v trying changes g; again = λ a. Blocks Nothing trying silent }

  -- a call that never blocks its thread, and tells what it does before its answer
  infix 3 ◌doing◌
  abbrev pub ◌doing◌ : Verdict → Piece P S H → Row P S H
  v doing a = record { begin = v trying a; again = λ a. Blocks Nothing trying silent }
