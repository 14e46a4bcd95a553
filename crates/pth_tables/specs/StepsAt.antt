-- A step of a program where the thread at a slot stands in it.
use Rattle.std.specs.Prelude.{◌≡◌, ℕ, Option, Some}
use Rattle.pth_base.specs.Program.{Functions}
use Rattle.pth_base.specs.Table.{put}
use Rattle.pth_base.specs.declared.answer.Answer.{Answer}
use Rattle.pth_base.specs.declared.call.Call.{Call}
use Rattle.pth_model.specs.declared.progress.Progress.{Progress}

-- The call and the shared value are those of the step at the state that stood at this slot, and the step's state stands there.
pub record StepsAt {S H : Type 0} (f : Functions S H) (s : ℕ) (old new : ℕ → Option (Progress S)) (before after : H) (a : Answer) (call : Call) : Type 0 where
  pub step : (c : Progress S) → old s ≡ Some c → record { call = call; state = (f.step c.state before a).state; shared = after } ≡ f.step c.state before a
  pub set : (c : Progress S) → old s ≡ Some c → new ≡ put old s (Some (record c { state = (f.step c.state before a).state }))
