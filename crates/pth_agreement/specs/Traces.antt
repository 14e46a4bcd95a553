-- Traces that differ only in what is later than a moment, and runs that come to no later one.
use Rattle.std.specs.Prelude.{◌≡◌, ◌≢◌, ◌≤◌, ℕ, nat_le, List, filter}
use Rattle.pth_base.specs.Program.{Functions}
use Rattle.pth_base.specs.declared.outcome.Outcome.TheVariants.{Stalled}
use Rattle.pth_kernel.specs.declared.trace.Stamp.{Stamp}
use Rattle.pth_model.specs.Course.{Course}
use Rattle.pth_model.specs.Run.{run}
use Rattle.pth_model.specs.State.{Given, now_of}

-- what comes up to a moment
abbrev pub up_to : ℕ → List Stamp → List Stamp
up_to m trace = filter (λ (s : Stamp). nat_le s.at m) trace

-- what is given, with another trace
abbrev pub given_trace : {P : Type 0} → List Stamp → Given P → Given P
given_trace trace g = record g { kernel = record g.kernel { trace = trace } }

module _ {P S H : Type 0} where
  -- a run that came so far is not past a moment, and not stalled for want of what comes later
  pub record IsNotPast (m : ℕ) (c : Course P S H) : Type 0 where
    pub now : now_of c.state.control ≤ m
    pub not_stalled : c.turn.outcome ≢ Stalled

  -- a trace differs from the run's own only in what is later than the run at part i
  pub record DiffersLater (f : P → Functions S H) (g : Given P) (trace : List Stamp) (i : ℕ) : Type 0 where
    -- up to this moment both are the same, and the run is not past it at any part up to part i
    pub moment : ℕ
    pub same : up_to moment trace ≡ up_to moment g.kernel.trace
    pub not_past : (j : ℕ) → j ≤ i → IsNotPast moment (run f g j)

  -- a run that came so far, with another trace in its state
  abbrev pub with_trace : List Stamp → Course P S H → Course P S H
  with_trace trace c = record c { state = record c.state { control = record c.state.control { kernel = record c.state.control.kernel { trace = trace } } } }

  -- after i parts the run with this trace differs from the run only in its trace
  abbrev pub AgreesWithTrace : (P → Functions S H) → Given P → List Stamp → ℕ → Type 0
  AgreesWithTrace f g trace i = run f (given_trace trace g) i ≡ with_trace trace (run f g i)
