-- The calls of thread control that end threads: pth_exit.
use Rattle.std.specs.Prelude.{ℕ, ◌==◌, ◌&&◌, not, ℤ, Bool, true, List, [], ◌∷◌}
use Rattle.pth_queue.specs.declared.queue.Queue.TheVariants as queue
use Rattle.pth_model.specs.declared.awaits.Awaits.TheVariants.{Alone}
use Rattle.pth_model.specs.declared.verdict.Verdict.TheVariants.{Blocks, Ends}
use Rattle.pth_numbered.specs.Clauses.{◌when◌otherwise◌}
use Rattle.pth_model.specs.State.{Control, State, queue, main}
use Rattle.pth_model.specs.Transition.{silent}
use Rattle.pth_model.specs.Changes.{holders}
use Rattle.pth_model.specs.Row.{Row, Attempt, ◌trying◌}

-- no other number than t is listed
abbrev pub only : ℕ → List ℕ → Bool
only t [] = true
only t (u ∷ us) = (u == t) && only t us

module _ {P S H : Type 0} where
  -- no other thread than t is new, ready, waiting or suspended: then main may end the process
  unfoldable pub is_alone : Control P S H → ℕ → Bool
  is_alone k t =
      only t (holders (queue k queue.New)) && (only t (holders (queue k queue.Ready))
      && (only t (holders (queue k queue.Waiting)) && only t (holders (queue k queue.Suspended))))

  -- pth_exit: main waits until it is alone, and every other thread ends
  abbrev pub must_wait : Control P S H → ℕ → Bool
  must_wait k t = (t == main) && not (is_alone k t)

module _ {P S H : Type 0} (s : State P S H) (t : ℕ) where
  abbrev pub exit_attempt : ℤ → Attempt P S H
  exit_attempt v =
      Blocks Alone when must_wait s.control t otherwise
      Ends v
      trying silent

  abbrev pub exit : ℤ → Row P S H
  exit v = record {
    begin = exit_attempt v;
    again = λ a. exit_attempt v;
  }
