-- A kill begins as its row says.
use Rattle.std.proofs.Common.{◌≡◌, ℕ, ◌==◌, pos, true, false, refl}
use Rattle.pth_base.specs.Program.{Functions}
use Rattle.pth_base.specs.declared.answer.Answer.TheVariants.{Int, Fail}
use Rattle.pth_base.specs.declared.call.Call.TheVariants as call
use Rattle.pth_base.specs.declared.errno.Errno.TheVariants.{EPERM}
use Rattle.pth_base.specs.declared.mark.Mark.TheVariants.{Answered}
use Rattle.pth_model.specs.declared.next.Next.TheVariants as next
use Rattle.pth_model.specs.Calls.{begun}
use Rattle.pth_model.specs.LibraryControl.{vanish_all_but}
use Rattle.pth_model.specs.Resources.{told, answer_told}
use Rattle.pth_model.specs.Kill.{store_of_only}
use Rattle.pth_model.specs.Store.{Resources}
use Rattle.pth_model.specs.Rows.{row_of}
use Rattle.pth_model.specs.State.{State, main}
use Rattle.pth_model.specs.Transition.{tid, changes, tells, ◌and_then◌, ◌and_next◌}

-- only what the one thread stored is left
pub kill-told : (k : Resources) (t n : ℕ) → (told k (Answered (tid t) call.Kill (Int (pos n)))).store ≡ store_of_only t k.store
unfolding told answer_told
kill-told k t n = refl

module _ {P S H : Type 0} (f : P → Functions S H) (s : State P S H) (t : ℕ) where
  pub kill_refused : (t == main) ≡ false → begun f t call.Kill s ≡ (tells (Answered (tid t) call.Kill (Fail EPERM)) and_next next.Done (Fail EPERM)) s
  unfolding begun row_of
  kill_refused other = rw other refl

  pub kill_ends : (t == main) ≡ true → begun f t call.Kill s ≡ (changes (vanish_all_but t) and_then tells (Answered (tid t) call.Kill (Int (pos 1))) and_next next.Killed) s
  unfolding begun row_of
  kill_ends is = rw is refl
