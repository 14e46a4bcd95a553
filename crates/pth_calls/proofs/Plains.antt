-- How a plain call begins, and what the answers of plain calls tell.
use Rattle.std.proofs.Common.{◌≡◌, ◌∙◌, ℕ, ℤ, ap, sym, true, List, [], ◌∷◌, ◌++◌, Some, refl}
use Rattle.pth_base.specs.Program.{Functions}
use Rattle.pth_base.specs.Facilities.{facility_of}
use Rattle.pth_base.specs.declared.answer.Answer.{Answer}
use Rattle.pth_base.specs.declared.call.Call.{Call}
use Rattle.pth_base.specs.declared.call.Call.TheVariants as call
use Rattle.pth_base.specs.declared.facility.Facility.TheVariants as facility
use Rattle.pth_base.specs.declared.ids.Tid.{Tid}
use Rattle.pth_base.specs.declared.mark.Mark.{Mark}
use Rattle.pth_base.specs.declared.mark.Mark.TheVariants.{Answered}
use Rattle.pth_calls.specs.Plain.{is_plain}
use Rattle.pth_model.specs.declared.next.Next.TheVariants as next
use Rattle.pth_model.specs.Calls.{begun, begun_by, begun_as}
use Rattle.pth_model.specs.Resources.{told, answer_told}
use Rattle.pth_model.specs.Row.{effect_of}
use Rattle.pth_model.specs.Rows.{row_of}
use Rattle.pth_model.specs.State.{State}
use Rattle.pth_model.specs.Transition.{Went, tid, tells, ◌and_then◌, ◌and_next◌, ◌and_finally◌}
use Rattle.pth_model.specs.declared.verdict.Verdict.{Verdict}
use Rattle.pth_model.specs.declared.verdict.Verdict.TheVariants.{Says}
use Rattle.pth_world.specs.World.{WorldOf}
use Rattle.pth_world.specs.Shows.{StandsFor}
use Rattle.pth_world.specs.Leading.{Leads, IsTold, IsQuiet}

-- the one call of library control that ends nothing
pub quiet_library_call : (t : Tid) (c : Call) (a : Answer) → is_plain c ≡ true → facility_of c ≡ Some facility.Library → IsQuiet (Answered t c a)
unfolding told answer_told
quiet_library_call t (call.Ctrl q) a plain library = λ x. refl
quiet_library_call t call.Kill a plain library = absurd (cc plain)
quiet_library_call t c a plain library = absurd (cc library)

-- calls on attribute objects touch no resource by their answers
pub quiet_attribute_call : (t : Tid) (c : Call) (a : Answer) → facility_of c ≡ Some facility.Attributes → IsQuiet (Answered t c a)
unfolding told answer_told
quiet_attribute_call t call.AttrNew a attributes = λ x. refl
quiet_attribute_call t (call.AttrOf n) a attributes = λ x. refl
quiet_attribute_call t (call.AttrInit x) a attributes = λ x. refl
quiet_attribute_call t (call.AttrSet x v) a attributes = λ x. refl
quiet_attribute_call t (call.AttrGet x field) a attributes = λ x. refl
quiet_attribute_call t (call.AttrDestroy x) a attributes = λ x. refl
quiet_attribute_call t c a attributes = absurd (cc attributes)

-- and neither do calls of thread control
pub quiet_thread_call : (t : Tid) (c : Call) (a : Answer) → facility_of c ≡ Some facility.Threads → IsQuiet (Answered t c a)
unfolding told answer_told
quiet_thread_call t (call.Spawn b v x) a threads = λ x. refl
quiet_thread_call t (call.Once o h v) a threads = λ x. refl
quiet_thread_call t call.SelfTid a threads = λ x. refl
quiet_thread_call t (call.Suspend n) a threads = λ x. refl
quiet_thread_call t (call.Resume n) a threads = λ x. refl
quiet_thread_call t (call.Yield n) a threads = λ x. refl
quiet_thread_call t (call.Nap l) a threads = λ x. refl
quiet_thread_call t (call.Wait e) a threads = λ x. refl
quiet_thread_call t (call.Cancel n) a threads = λ x. refl
quiet_thread_call t (call.Abort n) a threads = λ x. refl
quiet_thread_call t (call.Join n) a threads = λ x. refl
quiet_thread_call t (call.Exit v) a threads = λ x. refl
quiet_thread_call t c a threads = absurd (cc threads)

-- nor do utilities
pub quiet_utility_call : (t : Tid) (c : Call) (a : Answer) → facility_of c ≡ Some facility.Utilities → IsQuiet (Answered t c a)
unfolding told answer_told
quiet_utility_call t (call.Fdmode d m) a utilities = λ x. refl
quiet_utility_call t (call.Timeout n) a utilities = λ x. refl
quiet_utility_call t c a utilities = absurd (cc utilities)

-- nor do calls on events
pub quiet_event_call : (t : Tid) (c : Call) (a : Answer) → facility_of c ≡ Some facility.Events → IsQuiet (Answered t c a)
unfolding told answer_told
quiet_event_call t (call.EvFd goals fd) a events = λ x. refl
quiet_event_call t (call.EvSelect r w x) a events = λ x. refl
quiet_event_call t (call.EvTime m) a events = λ x. refl
quiet_event_call t (call.EvMsg p) a events = λ x. refl
quiet_event_call t (call.EvCond c) a events = λ x. refl
quiet_event_call t (call.EvTid state n) a events = λ x. refl
quiet_event_call t (call.EvFunc c v l) a events = λ x. refl
quiet_event_call t (call.Chain e l) a events = λ x. refl
quiet_event_call t (call.EvConcat e g) a events = λ x. refl
quiet_event_call t (call.EvIsolate e) a events = λ x. refl
quiet_event_call t (call.EvWalk e forward until_occurred) a events = λ x. refl
quiet_event_call t (call.EvStatus e) a events = λ x. refl
quiet_event_call t (call.EvKind e) a events = λ x. refl
quiet_event_call t (call.EvFree e all) a events = λ x. refl
quiet_event_call t c a events = absurd (cc events)

-- nor do calls on conditions that await none
pub quiet_cond_init : (t : Tid) (c : ℤ) (a : Answer) → IsQuiet (Answered t (call.CondInit c) a)
unfolding told answer_told
quiet_cond_init t c a = λ x. refl

pub quiet_cond_notify : (t : Tid) (c v : ℤ) (a : Answer) → IsQuiet (Answered t (call.CondNotify c v) a)
unfolding told answer_told
quiet_cond_notify t c v a = λ x. refl

-- nor does one that initialises a barrier
pub quiet_barrier_init : (t : Tid) (b n : ℤ) (a : Answer) → IsQuiet (Answered t (call.BarrierInit b n) a)
unfolding told answer_told
quiet_barrier_init t b n a = λ x. refl

-- nor does close
pub quiet_close : (t : Tid) (d : ℤ) (a : Answer) → IsQuiet (Answered t (call.Close d) a)
unfolding told answer_told
quiet_close t d a = λ x. refl

-- ---- plain calls

module _ {P S H : Type 0} (f : P → Functions S H) (s : State P S H) (t : ℕ) where
  -- a plain call begins as its row says
  begun_plain : (c : Call) → is_plain c ≡ true → begun f t c s ≡ begun_as f t c (row_of f s t c).begin s
  unfolding begun
  begun_plain call.Plain plain = absurd (cc plain)
  begun_plain (call.Note v) plain = absurd (cc plain)
  begun_plain c plain = refl

  abbrev answered : Call → Answer → Went P S H
  answered c a = (effect_of (row_of f s t c).begin and_then tells (Answered (tid t) c a) and_next next.Done a) s

  pub begun_answered : (c : Call) (a : Answer) → is_plain c ≡ true → (row_of f s t c).begin.verdict ≡ Says a → begun f t c s ≡ answered c a
  begun_answered c a plain is = begun_plain c plain ∙ ap (λ (v : Verdict). (effect_of (row_of f s t c).begin and_finally begun_by f t c v) s) is

  pub answered_leads : (w v : WorldOf P S H) (c : Call) (a : Answer) (old new : List Mark) → StandsFor w s → IsTold w v (Answered (tid t) c a) a (λ u. (row_of f u t c).begin) → new ≡ old ++ Answered (tid t) c a ∷ [] → Leads v old new (answered c a).told
  answered_leads w v c a old new st is appended = record {
    stands = is.stands s st;
    tells = appended ∙ ap (λ (ms : List Mark). old ++ (ms ++ Answered (tid t) c a ∷ [])) (sym (is.silent s st));
  }
