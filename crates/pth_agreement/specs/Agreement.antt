-- What it takes for the runs of two programs to agree, and what it says that they do.
use Rattle.std.specs.Prelude.{◌≡◌, ◌<◌, ℕ, Some, None}
use Rattle.pth_base.specs.Program.{Functions, Stepped}
use Rattle.pth_model.specs.declared.progress.Progress.{Progress}
use Rattle.pth_model.specs.Course.{Course}
use Rattle.pth_model.specs.Part.{Step, next_part}
use Rattle.pth_model.specs.Run.{run}
use Rattle.pth_model.specs.State.{Given}

module _ {P S H : Type 0} where
  -- in the next part thread t asks its program for a call: it makes a step, and no call blocks it; p is how far it is
  pub record AsksForCall (c : Course P S H) (t : ℕ) (p : Progress S) : Type 0 where
    pub steps : next_part c.state c.turn ≡ Step t
    pub is_so_far : c.state.control.threads.progress t ≡ Some p
    pub unblocked : p.blocked ≡ None

  -- what a program gives to a thread that asks so: its call, its next state and the shared value
  abbrev pub given_to : Functions S H → Progress S → Course P S H → Stepped S H
  given_to a p c = a.step p.state c.state.control.shared p.owed

  -- program q has all that the run's own has, except for what its steps give; and it gives the same whenever a thread asks for a call
  -- before part i
  pub record IsAlikeUpTo (f : P → Functions S H) (g : Given P) (q : P) (i : ℕ) : Type 0 where
    pub others : f q ≡ record (f g.program) { step = (f q).step }
    pub steps :
        (j t : ℕ) (p : Progress S) → j < i → AsksForCall (run f g j) t p → given_to (f q) p (run f g j) ≡ given_to (f g.program) p (run f g j)

  -- a run that came so far, with another program in its state
  abbrev pub with_program : P → Course P S H → Course P S H
  with_program q c = record c { state = record c.state { control = record c.state.control { program = q } } }

  -- after i parts the run of program q differs from the run only in its program
  abbrev pub AgreesWithProgram : (P → Functions S H) → Given P → P → ℕ → Type 0
  AgreesWithProgram f g q i = run f (record g { program = q }) i ≡ with_program q (run f g i)
