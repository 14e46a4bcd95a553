-- How a yield begins.
use Rattle.std.proofs.Common.{◌≡◌, ℕ, ℤ, pos, ap, refl}
use Rattle.pth_base.specs.Program.{Functions}
use Rattle.pth_base.specs.declared.answer.Answer.{Answer}
use Rattle.pth_base.specs.declared.answer.Answer.TheVariants.{Int}
use Rattle.pth_base.specs.declared.call.Call.TheVariants as call
use Rattle.pth_base.specs.declared.mark.Mark.TheVariants.{Answered}
use Rattle.pth_model.specs.declared.next.Next.TheVariants as next
use Rattle.pth_model.specs.Calls.{begun, begun_by}
use Rattle.pth_model.specs.Resources.{told, answer_told}
use Rattle.pth_model.specs.Row.{effect_of}
use Rattle.pth_model.specs.Rows.{row_of}
use Rattle.pth_model.specs.State.{State}
use Rattle.pth_model.specs.ThreadControl.{yield}
use Rattle.pth_model.specs.Transition.{Went, tid, tells, ◌and_then◌, ◌and_next◌, ◌and_finally◌}
use Rattle.pth_model.specs.declared.verdict.Verdict.{Verdict}
use Rattle.pth_model.specs.declared.verdict.Verdict.TheVariants.{Says, Yields}
use Rattle.pth_world.specs.Leading.{IsQuiet}

module _ {P S H : Type 0} (f : P → Functions S H) (s : State P S H) (t : ℕ) (n : ℤ) (a : Answer) where
  abbrev yielded : Went P S H
  yielded = (effect_of (yield s t n).begin and_then tells (Answered (tid t) (call.Yield n) a) and_next next.Yields a) s

  abbrev refused_yield : Went P S H
  refused_yield = (effect_of (yield s t n).begin and_then tells (Answered (tid t) (call.Yield n) a) and_next next.Done a) s

  pub yield_begun : (yield s t n).begin.verdict ≡ Yields a → begun f t (call.Yield n) s ≡ yielded
  unfolding begun row_of
  yield_begun is = ap (λ (v : Verdict). (effect_of (yield s t n).begin and_finally begun_by f t (call.Yield n) v) s) is

  pub yield_refused : (yield s t n).begin.verdict ≡ Says a → begun f t (call.Yield n) s ≡ refused_yield
  unfolding begun row_of
  yield_refused is = ap (λ (v : Verdict). (effect_of (yield s t n).begin and_finally begun_by f t (call.Yield n) v) s) is

pub quiet-yield : (t : ℕ) (n : ℤ) → IsQuiet (Answered (tid t) (call.Yield n) (Int (pos 1)))
unfolding told answer_told
quiet-yield t n = λ x. refl
