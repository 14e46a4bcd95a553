-- Cancellation: what its rows say, and that its answers touch no resource.
use Rattle.std.proofs.Common.{◌≡◌, ◌==◌, ◌∙◌, sym, subst, ℕ, ℤ, pos, negsuc, Bool, true, false, not, if◌then◌else◌, Some, None, refl, ap}
use Rattle.pth_base.proofs.Tables.{not_same}
use Rattle.pth_base.specs.Facilities.{facility_of}
use Rattle.pth_base.specs.Program.{Functions}
use Rattle.pth_base.specs.declared.answer.Answer.{Answer}
use Rattle.pth_base.specs.declared.answer.Answer.TheVariants.{Fail, Int}
use Rattle.pth_base.specs.declared.call.Call.{Call}
use Rattle.pth_base.specs.declared.call.Call.TheVariants as call
use Rattle.pth_base.specs.declared.errno.Errno.{Errno}
use Rattle.pth_base.specs.declared.errno.Errno.TheVariants.{EINVAL}
use Rattle.pth_base.specs.declared.facility.Facility.TheVariants as facility
use Rattle.pth_base.specs.declared.ids.Tid.{Tid}
use Rattle.pth_base.specs.declared.mark.Mark.TheVariants.{Answered}
use Rattle.pth_numbered.specs.Operands.{number, is_zero, ◌is_from◌to◌}
use Rattle.pth_model.specs.declared.next.Next.TheVariants as next
use Rattle.pth_model.specs.Calls.{begun, begun_by, begun_as}
use Rattle.pth_model.specs.Cancellation.{abort, cancel, cancel_state}
use Rattle.pth_model.specs.Changes.{entry_of, or_nobody, sets}
use Rattle.pth_model.specs.Resources.{told, answer_told}
use Rattle.pth_model.specs.Row.{Attempt, refuses, unless_refused, ◌trying◌}
use Rattle.pth_model.specs.Rows.{row_of}
use Rattle.pth_model.specs.State.{State, Control}
use Rattle.pth_model.specs.Transition.{Piece, Went, nothing, silent, tells, tid, ◌and_then◌, ◌and_next◌, ◌and_finally◌}
use Rattle.pth_model.specs.declared.verdict.Verdict.{Verdict}
use Rattle.pth_model.specs.declared.verdict.Verdict.TheVariants.{Says}
use Rattle.pth_model.specs.Verdict.{refused, says}
use Rattle.pth_numbered.specs.Clauses.{◌when◌otherwise◌}
use Rattle.pth_threads.specs.declared.entry.Change.TheVariants as change
use Rattle.pth_threads.specs.declared.entry.Entry.{Entry}
use Rattle.pth_world.specs.Leading.{IsAnswered, IsQuiet}
use Rattle.pth_world.specs.Shows.{Shows}
use Rattle.pth_world.specs.World.{WorldOf}
use Rattle.pth_end.proofs.Answers.{passed_answered, refused_answered}

pub quiet_cancellation : (t : Tid) (c : Call) (a : Answer) → facility_of c ≡ Some facility.Cancellation → IsQuiet (Answered t c a)
unfolding told answer_told
quiet_cancellation t (call.CancelState n) a cancellation = λ x. refl
quiet_cancellation t call.CancelPoint a cancellation = λ x. refl
quiet_cancellation t c a cancellation = absurd (cc cancellation)

state_named : (m x : ℕ) (b : Bool) → (if b then Some m else None) ≡ Some x → (b ≡ true) × (m ≡ x)
state_named m x true h = (refl, cc h)
state_named m x false h = absurd (cc h)

-- a number that names a cancel state, or is 0
pub named_state : (n : ℤ) (x : ℕ) → (if n is_from pos 0 to pos 4 then Some (number n) else None) ≡ Some x → ((n is_from pos 0 to pos 4) ≡ true) × (n ≡ pos x)
named_state (pos m) x h = let named = state_named m x ((pos m) is_from pos 0 to pos 4) h in (named.0, ap pos named.1)
named_state (negsuc m) x h = absurd (cc h)

module _ {P S H : Type 0} (s : State P S H) (t : ℕ) (n : ℤ) where
  otherwise_by : (b : Bool) (v : Verdict) → b ≡ true → (refused EINVAL when not b otherwise v) ≡ v
  otherwise_by true v h = refl
  otherwise_by false v h = absurd (cc h)

  -- what it says of a number that names a state, or is 0
  pub cancel_state_said : (n is_from pos 0 to pos 4) ≡ true → (cancel_state s t n).begin.verdict ≡ says (or_nobody (entry_of s.control t)).cancel
  cancel_state_said h = otherwise_by (n is_from pos 0 to pos 4) (says (or_nobody (entry_of s.control t)).cancel) h

-- a state is set, or for 0 it stays
module _ {P S H : Type 0} (w : WorldOf P S H) (t : ℕ) (n a : ℤ) (x : ℕ) (e : Entry) where
  abbrev IsTheState : Type 0
  IsTheState = ((if n is_from pos 0 to pos 4 then Some (number n) else None) ≡ Some x) × (a ≡ pos e.cancel) × ((k : Control P S H) → Shows w k → Some e ≡ k.threads.known t)

  state_answered : (v : WorldOf P S H) → IsTheState → ((k : Control P S H) → Shows w k → Shows v ((if x == 0 then nothing else sets t (change.Cancel x)) k)) → v.store ≡ w.store → IsAnswered w v (Int a) (λ s. (cancel_state s t n).begin)
  state_answered v is shows stored =
      let at = named_state n x is.0 in
      passed_answered w v (Int a) (λ s. (cancel_state s t n).begin) (λ s. if is_zero n then nothing else sets t (change.Cancel (number n))) refl
      (λ s st. cancel_state_said s t n at.0 ∙ ap (λ o. says (or_nobody o).cancel) (sym (is.2 s.control st.control)) ∙ ap (λ z. Says (Int z)) (sym is.1))
      (λ s. refl)
      (λ s st. subst (λ (m : ℤ). Shows v ((if is_zero m then nothing else sets t (change.Cancel (number m))) s.control)) (sym at.1) (shows s.control st.control))
      stored

  pub sets_answered : (v : WorldOf P S H) → IsTheState → (x ≡ 0 → ⊥) → ((k : Control P S H) → Shows w k → Shows v (sets t (change.Cancel x) k)) → v.store ≡ w.store → IsAnswered w v (Int a) (λ s. (cancel_state s t n).begin)
  sets_answered v is some shows stored = state_answered v is (λ k sh. rw (not_same x 0 some) (shows k sh)) stored

  pub stays_answered : IsTheState → x ≡ 0 → IsAnswered w w (Int a) (λ s. (cancel_state s t n).begin)
  stays_answered is none = state_answered w is (λ k sh. rw none sh) refl

-- a number that is no state is refused
out_of_range : (b : Bool) (x : ℕ) → None ≡ (if b then Some x else None) → b ≡ false
out_of_range true x h = absurd (cc h)
out_of_range false x h = refl

pub unset_answered : {P S H : Type 0} (w : WorldOf P S H) (t : ℕ) (n : ℤ) (x : ℕ) → None ≡ (if n is_from pos 0 to pos 4 then Some x else None) → IsAnswered w w (Fail EINVAL) (λ s. (cancel_state s t n).begin)
unset_answered w t n x none = refused_answered w EINVAL (λ s. (cancel_state s t n).begin) (λ s st. rw (out_of_range (n is_from pos 0 to pos 4) x none) refl)

-- ---- another thread is canceled, or aborted

-- the rows' attempts, by what was found of the thread that is named
module _ {P S H : Type 0} (f : P → Functions S H) (s : State P S H) (t : ℕ) where
  -- a call that is answered 1 once a piece was made
  abbrev pub asked : Call → Piece P S H → Went P S H
  asked c a = (a and_then tells (Answered (tid t) c (Int (pos 1))) and_next next.Done (Int (pos 1))) s

  abbrev pub not_asked : Call → Errno → Went P S H
  not_asked c e = (silent and_then tells (Answered (tid t) c (Fail e)) and_next next.Done (Fail e)) s

  asked_as : (c : Call) (a : Piece P S H) (x : Attempt P S H) → x ≡ (says 1 trying a) → begun_as f t c x s ≡ asked c a
  asked_as c a x is = ap (λ (y : Attempt P S H). begun_as f t c y s) is

  refused_as : (c : Call) (e : Errno) (x : Attempt P S H) → x.verdict ≡ refused e → begun_as f t c x s ≡ not_asked c e
  refused_as c e x is = ap (λ (v : Verdict). (unless_refused (refuses v) x.effect and_finally begun_by f t c v) s) is

  pub cancel_begun : (n : ℤ) (a : Piece P S H) → (cancel f s t n).begin ≡ (says 1 trying a) → begun f t (call.Cancel n) s ≡ asked (call.Cancel n) a
  unfolding begun row_of
  cancel_begun n a is = asked_as (call.Cancel n) a (cancel f s t n).begin is

  pub cancel_refused : (n : ℤ) (e : Errno) → (cancel f s t n).begin.verdict ≡ refused e → begun f t (call.Cancel n) s ≡ not_asked (call.Cancel n) e
  unfolding begun row_of
  cancel_refused n e is = refused_as (call.Cancel n) e (cancel f s t n).begin is

  pub abort_begun : (n : ℤ) (a : Piece P S H) → (abort f s t n).begin ≡ (says 1 trying a) → begun f t (call.Abort n) s ≡ asked (call.Abort n) a
  unfolding begun row_of
  abort_begun n a is = asked_as (call.Abort n) a (abort f s t n).begin is

  pub abort_refused : (n : ℤ) (e : Errno) → (abort f s t n).begin.verdict ≡ refused e → begun f t (call.Abort n) s ≡ not_asked (call.Abort n) e
  unfolding begun row_of
  abort_refused n e is = refused_as (call.Abort n) e (abort f s t n).begin is

pub quiet_cancel : (t : Tid) (n : ℤ) (a : Answer) → IsQuiet (Answered t (call.Cancel n) a)
unfolding told answer_told
quiet_cancel t n a = λ x. refl

pub quiet_abort : (t : Tid) (n : ℤ) (a : Answer) → IsQuiet (Answered t (call.Abort n) a)
unfolding told answer_told
quiet_abort t n a = λ x. refl
