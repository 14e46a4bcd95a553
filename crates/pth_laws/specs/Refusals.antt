-- What a call does that is refused as it begins.
use Rattle.std.specs.Prelude.{◌≡◌, ℕ, [], ◌∷◌}
use Rattle.pth_base.specs.declared.answer.Answer.TheVariants.{Fail}
use Rattle.pth_base.specs.declared.call.Call.{Call}
use Rattle.pth_base.specs.declared.errno.Errno.{Errno}
use Rattle.pth_base.specs.declared.mark.Mark.TheVariants.{Answered}
use Rattle.pth_model.specs.declared.next.Next.TheVariants.{Done}
use Rattle.pth_model.specs.State.{State}
use Rattle.pth_model.specs.Transition.{Went, tid}

-- from a state on, call c of thread t came to its refusal with an error, and to nothing else
pub record IsRefusal {P S H : Type 0} (t : ℕ) (c : Call) (e : Errno) (s : State P S H) (went : Went P S H) : Type 0 where
  -- the state is as it was
  pub state : went.told.state ≡ s
  -- that the call was answered with the error is all that was told
  pub marks : went.told.marks ≡ Answered (tid t) c (Fail e) ∷ []
  -- the thread goes on, and is handed the error over
  pub next : went.next ≡ Done (Fail e)
