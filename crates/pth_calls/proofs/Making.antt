-- Events are made, or the rings refuse it.
use Rattle.std.proofs.Common.{◌≡◌, ◌∙◌, ℕ, pos, Option, Some, Result, Ok, Err, IfOk, refl, sym, ap, subst}
use Rattle.pth_base.specs.Program.{Functions}
use Rattle.pth_base.specs.declared.answer.Answer.{Answer}
use Rattle.pth_base.specs.declared.answer.Answer.TheVariants.{Int}
use Rattle.pth_base.specs.declared.call.Call.{Call}
use Rattle.pth_base.specs.declared.call.Call.TheVariants as call
use Rattle.pth_base.specs.declared.errno.Errno.{Errno}
use Rattle.pth_base.specs.declared.event.EventSpec.{EventSpec}
use Rattle.pth_base.specs.declared.event.EvLine.{EvLine}
use Rattle.pth_base.specs.declared.event.EvLine.TheVariants as line
use Rattle.pth_base.specs.declared.ids.EventId.{EventId}
use Rattle.pth_base.specs.declared.memory.OutOfMemory.{OutOfMemory}
use Rattle.pth_base.specs.declared.refusal.Refusal.{Refusal}
use Rattle.pth_base.specs.declared.refusal.Refusal.TheVariants as refusal
use Rattle.pth_ring.specs.Arena.{RingsOf, events_of}
use Rattle.pth_ring.specs.Rings.{Events, AnswersEvent}
use Rattle.pth_model.specs.Changes.{with_events}
use Rattle.pth_model.specs.EventHandling.{made_as, make_event}
use Rattle.pth_model.specs.Row.{Row, Attempt}
use Rattle.pth_model.specs.Rows.{row_of}
use Rattle.pth_model.specs.State.{State}
use Rattle.pth_model.specs.declared.verdict.Verdict.TheVariants.{Says}
use Rattle.pth_model.specs.Verdict.{says, by_result}
use Rattle.pth_world.specs.Leading.{IsAnswered}
use Rattle.pth_world.specs.World.{WorldOf}
use Rattle.pth_world.proofs.Events.{kept_shows}
use Rattle.pth_calls.specs.Lines.{unchained_event_line}
use Rattle.pth_end.specs.Saying.{SaysRefusal}
use Rattle.pth_end.proofs.Deciding.{decided}

number_answered : (q : Result ℕ Errno) (e : EventId) → AnswersEvent q (Ok e) → Ok e.0 ≡ q
number_answered (Ok n) e is = ap (λ (m : ℕ). Ok m) is
number_answered (Err d) e is = absurd (cc is)

error_answered : (q : Result ℕ Errno) (e : Errno) → AnswersEvent q (Err (refusal.Fail e)) → Err e ≡ q
error_answered (Ok n) e is = absurd (cc is)
error_answered (Err d) e is = let same : e ≡ d = cc is in ap (λ (x : Errno). Err x) same

-- An event is made of what a line asks for, as the rings answer and change.
module _ {P S H : Type 0} (w : WorldOf P S H) (x : RingsOf) (spec : EventSpec) (r : Events → Result ℕ Errno) (g : EventSpec → Events → Events) where
  abbrev attempt : Option EventSpec → State P S H → Attempt P S H
  attempt o s = (made_as o (λ y. by_result says (r s.control.events)) (λ y. with_events (g y))).begin

  abbrev making : Option EventSpec → Answer → Type 0
  making o a = IsAnswered w (record w { events = x }) a (attempt o)

  pub event_made : (o : Option EventSpec) (e : EventId) → o ≡ Some spec → AnswersEvent (r (events_of w.events)) (Ok e) → events_of x ≡ g spec (events_of w.events) → making o (Int (pos e.0))
  event_made o e is answers changed =
      subst (λ (y : Option EventSpec). making y (Int (pos e.0))) (sym is)
      (decided w (record w { events = x }) (λ n. Int (pos n)) (λ s. r s.control.events) (λ s. with_events (g spec))
      (λ n. refl) (Ok e.0) (Int (pos e.0)) refl
      (λ s st. number_answered (r (events_of w.events)) e answers ∙ sym (ap r st.control.events))
      (λ s st. kept_shows w x (g spec) s.control st.control changed)
      tt refl)

  pub event_refused : (o : Option EventSpec) (e : Refusal) (a : Answer) → o ≡ Some spec → AnswersEvent (r (events_of w.events)) (Err e) → x ≡ w.events → SaysRefusal e a → making o a
  event_refused o (refusal.Fail e) a is answers same says =
      subst (λ (y : Option EventSpec). making y a) (sym is)
      (decided w (record w { events = x }) (λ n. Int (pos n)) (λ s. r s.control.events) (λ s. with_events (g spec))
      (λ n. refl) (Err e) a (ap (λ (b : Answer). Says b) (sym says))
      (λ s st. error_answered (r (events_of w.events)) e answers ∙ sym (ap r st.control.events))
      tt
      (ap (λ (y : RingsOf). record w { events = y }) same) tt)
  event_refused o refusal.OutOfMemory a is answers same says = absurd says

module _ {P S H : Type 0} (f : P → Functions S H) where
  abbrev row_at : ℕ → Call → State P S H → Row P S H
  row_at t c s = row_of f s t c

  abbrev line_row : EvLine → State P S H → Row P S H
  line_row l s = make_event s l

  -- a call that makes an event has the row of its line
  made_row : (t : ℕ) (c : Call) (l : EvLine) → unchained_event_line c ≡ Some l → row_at t c ≡ line_row l
  unfolding row_of
  made_row t (call.EvFd goals fd) l is = let e : line.Fd goals fd ≡ l = cc is in ap line_row e
  made_row t (call.EvSelect r w x) l is = let e : line.Select r w x ≡ l = cc is in ap line_row e
  made_row t (call.EvTime m) l is = let e : line.Time m ≡ l = cc is in ap line_row e
  made_row t (call.EvMsg p) l is = let e : line.Msg p ≡ l = cc is in ap line_row e
  made_row t (call.EvCond c) l is = let e : line.Cond c ≡ l = cc is in ap line_row e
  made_row t (call.EvTid state n) l is = let e : line.Tid state n ≡ l = cc is in ap line_row e
  made_row t (call.EvFunc c v d) l is = let e : line.Func c v d ≡ l = cc is in ap line_row e
  made_row t c l is = absurd (cc is)

  pub line_answered : (w v : WorldOf P S H) (q : Result Answer OutOfMemory) (t : ℕ) (c : Call) (l : EvLine) → unchained_event_line c ≡ Some l → IfOk q (λ a. IsAnswered w v a (λ s. (make_event s l).begin)) → IfOk q (λ a. IsAnswered w v a (λ s. (row_of f s t c).begin))
  line_answered w v q t c l is answered = subst (λ (r : State P S H → Row P S H). IfOk q (λ a. IsAnswered w v a (λ s. (r s).begin))) (sym (made_row t c l is)) answered
