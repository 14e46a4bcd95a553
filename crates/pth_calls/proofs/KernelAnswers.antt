-- Calls that the kernel decides.
use Rattle.std.proofs.Common.{◌≡◌, ◌∙◌, ℕ, ℤ, pos, not, Bool, true, false, Some, None, Result, Ok, Err, OnOk, OnErr, if◌then◌else◌, refl, sym, ap, subst}
use Rattle.std.specs.Result.{result_err, result_map_both}
use Rattle.pth_base.specs.declared.answer.Answer.{Answer}
use Rattle.pth_base.specs.declared.answer.Answer.TheVariants.{Int, Fail}
use Rattle.pth_base.specs.declared.errno.Errno.{Errno}
use Rattle.pth_base.specs.declared.errno.Errno.TheVariants.{EBADF}
use Rattle.pth_kernel.specs.Kernel.{Kernel, KernelOf, kernel_of, is_fd_live, fd_closed}
use Rattle.pth_kernel.specs.Modes.{close_refusal}
use Rattle.pth_model.specs.Changes.{with_kernel}
use Rattle.pth_model.specs.Row.{Attempt, refuses, ◌trying◌}
use Rattle.pth_model.specs.State.{State}
use Rattle.pth_model.specs.Transition.{changes}
use Rattle.pth_model.specs.declared.verdict.Verdict.{Verdict}
use Rattle.pth_model.specs.declared.verdict.Verdict.TheVariants.{Says}
use Rattle.pth_model.specs.Verdict.{refused, says, done, by_result}
use Rattle.pth_numbered.specs.Clauses.{◌when◌otherwise◌}
use Rattle.pth_world.specs.Leading.{IsAnswered}
use Rattle.pth_world.specs.World.{WorldOf}
use Rattle.pth_world.proofs.Kernels.{turned_shows}
use Rattle.pth_end.proofs.Answers.{refused_answered, passed_answered}

-- a verdict by the kernel alone, and a change of it alone
module _ {P S H : Type 0} (w : WorldOf P S H) (x : KernelOf) (v : Kernel → Verdict) (h : Kernel → Kernel) where
  abbrev attempt : State P S H → Attempt P S H
  attempt s = v s.control.kernel trying changes (with_kernel h)

  pub kernel_passes : (a : Answer) → refuses (Says a) ≡ false → v (kernel_of w.kernel) ≡ Says a → kernel_of x ≡ h (kernel_of w.kernel) → IsAnswered w (record w { kernel = x }) a attempt
  kernel_passes a passes is changed = passed_answered w (record w { kernel = x }) a attempt (λ s. with_kernel h) passes (λ s st. ap v st.control.kernel ∙ is) (λ s. refl) (λ s st. turned_shows w x h s.control st.control changed) refl

  pub kernel_refuses : (e : Errno) → v (kernel_of w.kernel) ≡ refused e → x ≡ w.kernel → IsAnswered w (record w { kernel = x }) (Fail e) attempt
  kernel_refuses e is same =
      subst (λ (y : KernelOf). IsAnswered w (record w { kernel = y }) (Fail e) attempt) (sym same) (refused_answered w e attempt (λ s st. ap v st.control.kernel ∙ is))

-- ---- a part that answers with an integer, where the definitions have a natural number

abbrev as_integer : Result ℕ Errno → Result ℤ Errno
as_integer = result_map_both (λ n. pos n) (λ e. e)

pub number_said : (q : Result ℕ Errno) (n : ℤ) → Ok n ≡ as_integer q → by_result says q ≡ Says (Int n)
number_said (Ok m) n is = let same : pos m ≡ n = cc is in ap (λ (x : ℤ). Says (Int x)) same
number_said (Err e) n is = absurd (cc is)

pub error_said : (q : Result ℕ Errno) (e : Errno) → Err e ≡ as_integer q → by_result says q ≡ refused e
error_said (Ok n) e is = absurd (cc is)
error_said (Err d) e is = let same : d ≡ e = cc is in ap (λ (x : Errno). refused x) same

-- ---- close

-- what the row says, by whether the descriptor is live
abbrev closing : Bool → Verdict
closing live = refused EBADF when not live otherwise says 1

-- the kernel's result says as much
closed_said : (r : Result (Unit {0}) Errno) (k : Kernel) (f : ℕ) → result_err r ≡ close_refusal k f → closing (is_fd_live k f) ≡ by_result done r
closed_said r k f is = by_life r (is_fd_live k f) is
  where
    by_life : (x : Result (Unit {0}) Errno) (b : Bool) → result_err x ≡ (if b then None else Some EBADF) → closing b ≡ by_result done x
    by_life (Ok u) true is = refl
    by_life (Ok u) false is = absurd (cc is)
    by_life (Err e) true is = absurd (cc is)
    by_life (Err e) false is = let same : EBADF ≡ e = cc is in ap (λ (x : Errno). refused x) same

module _ {P S H : Type 0} (w : WorldOf P S H) (x : KernelOf) (f : ℕ) where
  abbrev is_closing : Answer → Type 0
  is_closing a = IsAnswered w (record w { kernel = x }) a (λ s. closing (is_fd_live s.control.kernel f) trying changes (with_kernel (fd_closed f)))

  pub close_answered : (r : Result (Unit {0}) Errno) (a : Answer) → by_result done r ≡ Says a → result_err r ≡ close_refusal (kernel_of w.kernel) f → OnOk r (kernel_of x ≡ fd_closed f (kernel_of w.kernel)) → OnErr r (x ≡ w.kernel) → is_closing a
  close_answered (Ok u) a says is closed same =
      let e : Int (pos 1) ≡ a = cc says in
      subst is_closing e (kernel_passes w x (λ k. closing (is_fd_live k f)) (fd_closed f) (Int (pos 1)) refl (closed_said (Ok u) (kernel_of w.kernel) f is) closed)
  close_answered (Err d) a says is closed same =
      let e : Fail d ≡ a = cc says in
      subst is_closing e (kernel_refuses w x (λ k. closing (is_fd_live k f)) (fd_closed f) d (closed_said (Err d) (kernel_of w.kernel) f is) same)
