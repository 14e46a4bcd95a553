-- Barriers: pth_barrier_init, pth_barrier_reach. That the arrival of a thread that ends is taken back is told.
use Rattle.std.specs.Prelude.{ℕ, ℤ, if◌then◌else◌}
use Rattle.pth_base.specs.declared.answer.Answer.TheVariants.{Int}
use Rattle.pth_base.specs.declared.mark.Mark.TheVariants.{Withdrew}
use Rattle.pth_lock.specs.Objects.{object_named}
use Rattle.pth_cond.specs.declared.barriers.Arrival.{Arrival}
use Rattle.pth_cond.specs.declared.barriers.Arrival.TheVariants.{Incomplete, Tail}
use Rattle.pth_cond.specs.Barriers.{taillight, barrier_init_answer, arrival_answer, round_answer, has_passed, waits_at, barrier_initialised, barrier_reached, round_answered, withdrawn}
use Rattle.pth_model.specs.declared.awaits.Awaits.{Awaits}
use Rattle.pth_model.specs.declared.awaits.Awaits.TheVariants.{Round}
use Rattle.pth_model.specs.declared.verdict.Verdict.{Verdict}
use Rattle.pth_model.specs.declared.verdict.Verdict.TheVariants.{Says, Blocks}
use Rattle.pth_model.specs.Verdict.{done, by_result}
use Rattle.pth_model.specs.State.{State}
use Rattle.pth_model.specs.Transition.{Piece, silent, changes, tells, tid, where_so, ◌and_then◌}
use Rattle.pth_model.specs.Changes.{with_barriers}
use Rattle.pth_model.specs.Awaits.{round_in}
use Rattle.pth_model.specs.Row.{Row, Attempt, ◌changing◌, ◌trying◌}

-- what an arrival at a barrier comes to
abbrev pub arrived_as : ℤ → Arrival → Verdict
arrived_as b (Incomplete round) = Blocks (Round b round)
arrived_as b Tail = Says (Int taillight)

module _ {P S H : Type 0} (s : State P S H) where
  -- pth_barrier_init
  abbrev pub barrier_init : (b n : ℤ) → Row P S H
  barrier_init b n = by_result done (barrier_init_answer s.control.barriers b n) changing with_barriers (barrier_initialised b n)

module _ {P S H : Type 0} (s : State P S H) (t : ℕ) where
  -- t's round is tried again: it has passed, and t is answered; or t waits on
  abbrev pub tries_round : ℤ → ℕ → Attempt P S H
  tries_round b round =
      if has_passed s.control.barriers b round
      then (Says (Int (round_answer s.control.barriers b round t)) trying changes (with_barriers (round_answered b round t)))
      else (Blocks (Round b round) trying silent)

  -- pth_barrier_reach: the last of a round lets it pass, and any other waits until it has passed
  abbrev pub barrier_reach : ℤ → Row P S H
  barrier_reach b = record {
    begin = by_result (arrived_as b) (arrival_answer s.control.barriers b) trying changes (with_barriers (barrier_reached b t));
    again = λ a. tries_round b (round_in a);
  }

module _ {P S H : Type 0} where
  -- t's arrival at a barrier is taken back, if it waits there
  unfoldable pub withdraws : ℕ → ℤ → Piece P S H
  withdraws t b s =
      where_so (waits_at s.control.barriers b t)
      (changes (with_barriers (withdrawn b t)) and_then tells (Withdrew (tid t) (object_named b))) s

  -- t ends while it waits so
  unfoldable pub withdraws_from : ℕ → Awaits → Piece P S H
  withdraws_from t (Round b round) = withdraws t b
  withdraws_from t a = silent
