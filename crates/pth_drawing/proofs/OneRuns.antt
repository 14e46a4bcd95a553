-- The thread that is dispatched runs, and no other one.
use Rattle.std.proofs.Common.{◌≡◌, ◌∙◌, ℕ, ◌==◌, not, Bool, true, false, if◌then◌else◌, refl, sym, ap}
use Rattle.pth_base.proofs.Tables.{same_self, same_means}
use Rattle.pth_drawing.specs.States.{Turn, State, has_ended, is_waiting, Running, Over, Absent, Waiting, Ready}
use Rattle.pth_transcript.specs.Threads.{is_there}
use Rattle.pth_drawing.specs.Turning.{RunsAlone}

idle : Bool → Bool → Bool → State
idle ended there waiting = if ended then Over else (if not there then Absent else (if waiting then Waiting else Ready))

idle_runs_not : (ended there waiting : Bool) → idle ended there waiting ≡ Running → ⊥
unfolding idle
idle_runs_not true there waiting is = absurd (cc)
idle_runs_not false false waiting is = absurd (cc)
idle_runs_not false true true is = absurd (cc)
idle_runs_not false true false is = absurd (cc)

pub runs_alone : (turn : Turn) → RunsAlone turn.thread turn
unfolding idle
runs_alone turn u = (by (turn.thread == u) refl, λ is. ap (λ b. if b then Running else idle (has_ended u turn.before) (is_there u turn.before) (is_waiting u turn.before)) (ap (λ (t : ℕ). turn.thread == t) is ∙ same_self turn.thread))
  where
    by : (b : Bool) → (turn.thread == u) ≡ b → (if b then Running else idle (has_ended u turn.before) (is_there u turn.before) (is_waiting u turn.before)) ≡ Running → u ≡ turn.thread
    by true is runs = sym (same_means turn.thread u is)
    by false is runs = absurd (idle_runs_not (has_ended u turn.before) (is_there u turn.before) (is_waiting u turn.before) runs)
