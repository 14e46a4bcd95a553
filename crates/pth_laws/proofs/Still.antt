-- A call that blocks its thread as it begins changes nothing of threads.
use Rattle.std.proofs.Common.{◌≡◌, ℕ, ◌||◌, not, Bool, true, false, ℤ, Option, Some, None, refl, sym, ◌∙◌, Result, Ok, Err}
use Rattle.std.proofs.lemmas.Bool.{true≢false}
use Rattle.pth_base.specs.Program.{Functions}
use Rattle.pth_base.specs.declared.call.Call.{Call}
use Rattle.pth_base.specs.declared.call.Call.TheVariants as call
use Rattle.pth_base.specs.declared.errno.Errno.{Errno}
use Rattle.pth_base.specs.declared.errno.Errno.TheVariants.{EAGAIN, EDEADLK, EINVAL, EPERM, ESRCH}
use Rattle.pth_base.specs.declared.event.EventSpec.{EventSpec}
use Rattle.pth_base.specs.declared.event.EvLine.{EvLine}
use Rattle.pth_base.specs.declared.event.EvLine.TheVariants as line
use Rattle.pth_base.specs.declared.query.Query.{Query}
use Rattle.pth_base.specs.declared.query.Query.TheVariants as query
use Rattle.pth_numbered.specs.Operands.{number, ◌is◌}
use Rattle.pth_ring.specs.Rings.{make_answer, chain_answer, alone, chained}
use Rattle.pth_threads.specs.Attributes.{set_answer}
use Rattle.pth_model.specs.declared.verdict.Verdict.{Verdict}
use Rattle.pth_model.specs.declared.verdict.Verdict.TheVariants.{Yields, Ends, Kills}
use Rattle.pth_model.specs.AttributeHandling.{object}
use Rattle.pth_model.specs.Cancellation.{canceled_value, is_to_cancel}
use Rattle.pth_model.specs.Changes.{entry_of, or_nobody, with_events}
use Rattle.pth_model.specs.EventHandling.{spec_of, made_as, make_event}
use Rattle.pth_model.specs.LibraryControl.{ctrl}
use Rattle.pth_model.specs.Row.{unless_refused, refuses, effect_of}
use Rattle.pth_model.specs.Rows.{row_of}
use Rattle.pth_model.specs.State.{State}
use Rattle.pth_model.specs.Living.{is_dead}
use Rattle.pth_model.specs.ThreadControl.{is_known, joined, takes_joined, thread, to_join, values_for}
use Rattle.pth_model.specs.Transition.{Change, Piece, changes}
use Rattle.pth_model.specs.Verdict.{refused, says, done, by_result, refused_as◌otherwise◌}
use Rattle.pth_numbered.specs.Clauses.{◌when◌otherwise◌}
use Rattle.pth_laws.proofs.Allowed.{is_blocking, when_answers, asking_answers}

-- verdicts that do not block
result_answers : {A : Type 0} (r : Result A Errno) (v : A → Verdict) → ((x : A) → is_blocking (v x) ≡ false) → is_blocking (by_result v r) ≡ false
result_answers (Ok x) v all = all x
result_answers (Err e) v all = refl

refusal_answers : {A : Type 0} (r : Result A Errno) (v : Verdict) → is_blocking v ≡ false → is_blocking (refused_as r otherwise v) ≡ false
refusal_answers (Ok x) v h = h
refusal_answers (Err e) v h = refl

two_answers : (unknown barred : Bool) → is_blocking (refused ESRCH when unknown otherwise refused EPERM when barred otherwise says 1) ≡ false
two_answers unknown barred = when_answers ESRCH unknown (refused EPERM when barred otherwise says 1) (when_answers EPERM barred (says 1) refl)

point_answers : (asked : Bool) → is_blocking (Ends canceled_value when asked otherwise says 1) ≡ false
point_answers true = refl
point_answers false = refl

module _ {P S H : Type 0} (s : State P S H) where
  abbrev IsStill : State P S H → Type 0
  IsStill u = u.control.threads ≡ s.control.threads

  unless_still : (b : Bool) (a : Piece P S H) → IsStill (a s).state → IsStill (unless_refused b a s).state
  unless_still true a h = refl
  unless_still false a h = h

  -- the verdict does not block
  still_at_once : (v : Verdict) (u : State P S H) → is_blocking v ≡ false → is_blocking v ≡ true → IsStill u
  still_at_once v u at_once blocks = absurd (true≢false (sym blocks ∙ at_once))

  ctrl_still : (x : Query) → IsStill ((ctrl s x).begin.effect s).state
  ctrl_still query.Threads = refl
  ctrl_still (query.Favournew n) = refl
  ctrl_still x = refl

  made_still : (spec : Option EventSpec) (v : EventSpec → Verdict) (g : EventSpec → Change P S H) → ((x : EventSpec) → IsStill (changes (g x) s).state) → IsStill ((made_as spec v g).begin.effect s).state
  made_still None v g all = refl
  made_still (Some x) v g all = all x

  make_still : (l : EvLine) → IsStill ((make_event s l).begin.effect s).state
  make_still l = made_still (spec_of l) (λ x. by_result says (make_answer s.control.events)) (λ x. with_events (alone x)) (λ x. refl)

  joins_still : (n : ℤ) (own unknown bound : Bool) (o : Option ℕ) → let v = refused EDEADLK when own otherwise refused ESRCH when unknown otherwise refused EINVAL when bound otherwise joined s.control n o in is_blocking v ≡ true → IsStill (unless_refused (refuses v) (changes (takes_joined o)) s).state
  joins_still n true unknown bound o h = refl
  joins_still n false true bound o h = refl
  joins_still n false false true o h = refl
  joins_still n false false false None h = refl
  joins_still n false false false (Some u) h = absurd (true≢false (sym h))

module _ {P S H : Type 0} (f : P → Functions S H) (t : ℕ) (s : State P S H) where
  abbrev IsStillBy : Call → Type 0
  IsStillBy c = IsStill s (effect_of (row_of f s t c).begin s).state

  -- its effect, if it is not refused
  does_still : (c : Call) → IsStill s ((row_of f s t c).begin.effect s).state → IsStillBy c
  does_still c h = unless_still s (refuses (row_of f s t c).begin.verdict) (row_of f s t c).begin.effect h

  not_blocking : (c : Call) → is_blocking (row_of f s t c).begin.verdict ≡ false → is_blocking (row_of f s t c).begin.verdict ≡ true → IsStillBy c
  not_blocking c = still_at_once s (row_of f s t c).begin.verdict (effect_of (row_of f s t c).begin s).state

  pub begins_still : (c : Call) → is_blocking (row_of f s t c).begin.verdict ≡ true → (effect_of (row_of f s t c).begin s).state.control.threads ≡ s.control.threads
  unfolding row_of
  begins_still call.Kill = not_blocking call.Kill (when_answers EPERM _ Kills refl)
  begins_still (call.Yield n) = not_blocking (call.Yield n) (when_answers EINVAL _ (Yields _) refl)
  begins_still (call.Cancel n) = not_blocking (call.Cancel n) (asking_answers _ _ _)
  begins_still (call.Abort n) = not_blocking (call.Abort n) (asking_answers _ _ _)
  begins_still call.CancelPoint = not_blocking call.CancelPoint (point_answers (is_to_cancel (or_nobody (entry_of s.control t))))
  begins_still (call.CancelState n) = not_blocking (call.CancelState n) (when_answers EINVAL _ (says _) refl)
  begins_still (call.AttrSet a v) = not_blocking (call.AttrSet a v) (result_answers (set_answer s.control.top s.control.threads.known (object s.control a) v) done (λ x. refl))
  begins_still (call.Spawn b v a) = not_blocking (call.Spawn b v a) (when_answers EINVAL _ _ (refusal_answers (values_for s.control t a) _ (when_answers EAGAIN _ (says _) refl)))
  begins_still (call.Suspend n) =
      let it = or_nobody (thread s.control n) in
      not_blocking (call.Suspend n) (two_answers (not (is_known s.control n)) (n is t || is_dead it.state || it.suspended))
  begins_still (call.Resume n) = not_blocking (call.Resume n) (two_answers (not (is_known s.control n)) (n is t || not (or_nobody (thread s.control n)).suspended))
  begins_still (call.CleanupPop v) = not_blocking (call.CleanupPop v) (when_answers EINVAL _ (says 1) refl)
  begins_still (call.Once o h v) = not_blocking (call.Once o h v) (when_answers EINVAL _ (says 1) refl)
  begins_still (call.Join n) = joins_still s n _ _ _ (to_join s.control n)
  begins_still (call.Ctrl x) = λ blocks. does_still (call.Ctrl x) (ctrl_still s x)
  begins_still (call.EvFd goals fd) = λ blocks. does_still (call.EvFd goals fd) (make_still s (line.Fd goals fd))
  begins_still (call.EvSelect a b c) = λ blocks. does_still (call.EvSelect a b c) (make_still s (line.Select a b c))
  begins_still (call.EvTime m) = λ blocks. does_still (call.EvTime m) (make_still s (line.Time m))
  begins_still (call.EvMsg p) = λ blocks. does_still (call.EvMsg p) (make_still s (line.Msg p))
  begins_still (call.EvCond c) = λ blocks. does_still (call.EvCond c) (make_still s (line.Cond c))
  begins_still (call.EvTid at n) = λ blocks. does_still (call.EvTid at n) (make_still s (line.Tid at n))
  begins_still (call.EvFunc c v l) = λ blocks. does_still (call.EvFunc c v l) (make_still s (line.Func c v l))
  begins_still (call.Chain i l) = λ blocks. does_still (call.Chain i l) (made_still s (spec_of l) (λ x. by_result says (chain_answer s.control.events (number i))) (λ x. with_events (chained x (number i))) (λ x. refl))
  begins_still c = λ blocks. does_still c refl
