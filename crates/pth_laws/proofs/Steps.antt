-- A step of a thread, walked: a call begins, or the one that blocks the thread is tried again.
use Rattle.std.proofs.Common.{◌≡◌, ◌≢◌, ℕ, ◌==◌, ◌&&◌, ◌||◌, not, Bool, true, false, if◌then◌else◌, ℤ, pos, negsuc, List, [], ◌∷◌, Option, Some, None, option_map, is_none, is_some, refl, sym, ◌∙◌, ap, subst}
use Rattle.std.specs.List.{slice_get}
use Rattle.std.proofs.lemmas.Bool.{not-false, true≢false}
use Rattle.std.proofs.lemmas.Option.{same_Some}
use Rattle.pth_base.specs.Table.{put}
use Rattle.pth_base.specs.Program.{Functions, Stepped}
use Rattle.pth_base.specs.declared.answer.Answer.{Answer}
use Rattle.pth_base.specs.declared.answer.Answer.TheVariants as answer
use Rattle.pth_base.specs.declared.call.Call.{Call}
use Rattle.pth_base.specs.declared.call.Call.TheVariants as call
use Rattle.pth_base.specs.declared.errno.Errno.{Errno}
use Rattle.pth_base.specs.declared.errno.Errno.TheVariants.{EINVAL, ESRCH, EPERM, EINTR}
use Rattle.pth_base.specs.declared.event.EventSpec.{EventSpec}
use Rattle.pth_base.specs.declared.event.EvLine.TheVariants as line
use Rattle.pth_base.specs.declared.mark.Mark.{Mark}
use Rattle.pth_base.specs.declared.mark.Mark.TheVariants as mark
use Rattle.pth_base.specs.declared.query.Query.{Query}
use Rattle.pth_base.specs.declared.query.Query.TheVariants as query
use Rattle.pth_base.specs.declared.ids.HandlerId.{HandlerId}
use Rattle.pth_base.specs.declared.thread.ThreadState.{ThreadState}
use Rattle.pth_base.specs.declared.thread.ThreadState.TheVariants as state
use Rattle.pth_base.proofs.Tables.{same_self, not_same, same_means, same_fails, put_here, put_other}
use Rattle.pth_cond.specs.Barriers.{has_passed, round_answer, round_answered}
use Rattle.pth_lock.specs.Objects.{object_named}
use Rattle.pth_numbered.specs.Operands.{number, is_zero, is_below, ◌is◌}
use Rattle.pth_store.specs.Cleanups.{PushedHandler, pop_answer}
use Rattle.pth_threads.specs.declared.entry.Entry.{Entry}
use Rattle.pth_model.specs.declared.blocked.Blocked.{Blocked}
use Rattle.pth_model.specs.declared.awaits.Awaits.{Awaits}
use Rattle.pth_model.specs.declared.awaits.Awaits.TheVariants as awaits
use Rattle.pth_model.specs.declared.awaits.Retake.{Retake}
use Rattle.pth_model.specs.declared.awaits.Retake.TheVariants as retake
use Rattle.pth_model.specs.declared.next.Next.{Next}
use Rattle.pth_model.specs.declared.next.Next.TheVariants as next
use Rattle.pth_model.specs.Resources.{told, answer_told, wait_told, handler}
use Rattle.pth_model.specs.Store.{Resources}
use Rattle.pth_model.specs.declared.verdict.Verdict.{Verdict}
use Rattle.pth_model.specs.declared.verdict.Verdict.TheVariants.{Says, Yields, Blocks, Ends, Kills}
use Rattle.pth_model.specs.Verdict.{refused, says}
use Rattle.pth_numbered.specs.Clauses.{◌when◌otherwise◌}
use Rattle.pth_model.specs.Awaits.{round_in, is_await, is_awaiting, is_retaking, awaits_in, is_canceled}
use Rattle.pth_model.specs.Barriers.{tries_round}
use Rattle.pth_model.specs.Conditions.{can_take, is_noticed, leaves_seat, hands_on_seat, hands_on_seats}
use Rattle.pth_model.specs.State.{State, Control, Threads, main, once_limit}
use Rattle.pth_model.specs.Transition.{Piece, Change, changes, tells, tid, controlled, silent, nothing, where_so, ◌and◌, ◌and_then◌}
use Rattle.pth_model.specs.Changes.{goes_on, sets, removes, blocking, is_blocked_by, or_nobody, entry_of, prefers, uses, with_barriers, blocked_in, blocked_of}
use Rattle.pth_model.specs.Living.{is_dead, lives, is_made}
use Rattle.pth_model.specs.Row.{unless_refused, refuses, effect_of, ◌trying◌}
use Rattle.pth_model.specs.RingWaits.{claims, extra_ring, ring_given, stops_waiting, has_settled}
use Rattle.pth_model.specs.LibraryControl.{ctrl, vanish_all_but}
use Rattle.pth_model.specs.EventHandling.{spec_of, made_as}
use Rattle.pth_model.specs.ThreadControl.{thread, is_known, may_run}
use Rattle.pth_model.specs.Cancellation.{canceled_value, is_asynchronous, is_to_cancel, may_be_canceled, takes_request, canceled_in, canceled_by_other, aborted}
use Rattle.pth_threads.specs.Threads.{changed}
use Rattle.pth_threads.specs.declared.entry.Change.TheVariants as change
use Rattle.pth_model.specs.Acts.{runs_handler}
use Rattle.pth_model.specs.Cleanups.{runs_pushed, last_pushed}
use Rattle.pth_model.specs.Ending.{ending, other_than}
use Rattle.pth_model.specs.Rows.{row_of}
use Rattle.pth_model.specs.Calls.{begun, begun_by, begun_as, blocks, answers, gone_on, gone_on_where, canceled_by, tried_again, tried_again_by, tried_by, unless_settled, interrupted, retaken_as, retakes_where, retakes, awaits_on_where, awaits_on, gone_on_in, gone_on_by}
use Rattle.pth_model.specs.Part.{steps_on, steps_by, stepping}
use Rattle.pth_model.specs.declared.progress.Progress.{Progress}
use Rattle.pth_model.proofs.Placed.{seats}
use Rattle.pth_model.proofs.Walks.{is_common, effect_keeps, come_keeps, named_other, named_lives, named_dead}
use Rattle.pth_laws.proofs.Book.{Book, Block, Closed, BlockRun, ran_by, ran_nothing, with_handler, after, ended_after, book_of}
use Rattle.pth_laws.proofs.Laws.{EachMark, IsPopOrderly, IsAnswerExclusive, MayTake}
use Rattle.pth_laws.specs.Orderly.{RanLast}
use Rattle.pth_laws.specs.Clean.{event_held}
use Rattle.pth_model.proofs.NoRounds.{begins_plainly, again_plainly}
use Rattle.pth_laws.proofs.Living.{Living, run_queue, IsToRun, request_state, living-up, living-made}
use Rattle.pth_laws.proofs.Going.{IsGoing, Going, going_alive, going_set, going_removed, known_lives, set_lives}
use Rattle.pth_laws.proofs.Awaits.{HasAwaits, Tells, AreSameBut, flags, flags_past, others_await, canceled_retakes, tells_plain, tells_uncanceled, kills, awaits_own, awaits_past, awaits_as, awaits_none, awaits_set, awaits_removed, awaits_go, awaits_begun, awaits_block, awaits_stop, answer_awaits, wait_awaits, refusal_awaits}
use Rattle.pth_laws.proofs.Locking.{IsVerdictExclusive, IsWaitExclusive, wait_exclusive, begins_exclusive, again_exclusive, may_take}
use Rattle.pth_laws.proofs.Claims.{HasClaims, Holding, holding_kept, claims_go, claims_set, claims_removed, claims_block, claims_still, claims_wait_on, claims_stop, stopped_progress}
use Rattle.pth_laws.proofs.Walk.{Walk, IsMarkedWithin, walk_tells, walk_then, walk_to, walk_finally}
use Rattle.pth_laws.proofs.Handlers.{IsRunning, handler_walk}
use Rattle.pth_laws.proofs.Endings.{HasEnded, ending_walk, stops_seats}

-- ---- what a step leaves

-- who runs afterwards, and who is named
abbrev pub IsLeft : {P S H : Type 0} → ℕ → Next → Control P S H → Type 0
IsLeft t (next.Yields a) k = (k.scheduler.running ≡ Some t) × ((or_nobody (k.threads.known t)).state ≡ state.Running) × ((u : ℕ) → k.scheduler.preferred ≡ Some u → IsToRun (k.threads.known u))
IsLeft t (next.Ended v) k = (k.scheduler.running ≡ None) × (k.scheduler.preferred ≡ None)
IsLeft t x k = (k.scheduler.running ≡ Some t) × ((or_nobody (k.threads.known t)).state ≡ state.Running) × (k.scheduler.preferred ≡ None)

-- where no block is open, t has run nothing in one
fresh_by : (t : ℕ) (x : Block) → x ≡ Closed → ran_by x t ≡ ran_nothing
unfolding ran_by
fresh_by t x closed = rw closed refl

-- a yield that names a thread and is not refused names one that waits to run
yields_to : (zero : Bool) (o : Option Entry) → zero ≡ false → (not zero && ((or_nobody o).suspended || not (may_run (or_nobody o).state))) ≡ false → IsToRun o
yields_to true o other h = absurd (true≢false other)
yields_to false None other h = absurd (true≢false h)
yields_to false (Some e) other h = by_state e.state e.suspended h
  where
    by_state : (at : ThreadState) (b : Bool) → (b || not (may_run at)) ≡ false → is_some (run_queue at b) ≡ true
    by_state at true h = absurd (true≢false h)
    by_state state.New false h = refl
    by_state state.Ready false h = refl
    by_state at false h = absurd (true≢false h)

ran_one : (c : PushedHandler) → (with_handler c ran_nothing).handlers ≡ c ∷ []
unfolding with_handler
ran_one c = refl

ran_last : (ran cs : List PushedHandler) (c : PushedHandler) → ran ≡ c ∷ [] → slice_get cs 0 ≡ Some c → RanLast ran cs
ran_last ran [] c h last = absurd (cc last)
ran_last ran (d ∷ cs) c h last = let same : d ≡ c = cc in h ∙ ap (λ (x : PushedHandler). x ∷ []) (sym same)

-- who ended has ended by the marks
abbrev pub IsGone : ℕ → Next → Book → Type 0
IsGone t (next.Ended v) c = c.ended t ≡ true
IsGone t x c = Unit {0}

-- after a step of t
pub record HasStepped {P S H : Type 0} (n t : ℕ) (x : Next) (c : Book) (u : State P S H) : Type 0 where
  pub resources : c.resources ≡ u.resources
  pub closed : c.block ≡ Closed
  pub living : Living n c.ended u.control
  pub claims : HasClaims u.control
  pub awaits : HasAwaits (flags c u.resources.awaits) u.control
  pub left : IsLeft t x u.control
  pub gone : IsGone t x c

-- one that kills the run leaves nothing to say
abbrev pub AfterStep : {P S H : Type 0} → (n t : ℕ) → Next → Book → State P S H → Type 0
AfterStep n t next.Killed c u = Unit {0}
AfterStep n t x c u = HasStepped n t x c u

-- within a step: t runs, and these await
pub record IsWithin {P S H : Type 0} (n t : ℕ) (c : Book) (awaits : ℕ → Bool) (u : State P S H) : Type 0 where
  pub resources : c.resources ≡ u.resources
  pub going : Going n c.ended t u.control
  pub claims : HasClaims u.control
  pub fits : HasAwaits (flags c awaits) u.control

-- the same, but for whether t was canceled
pub record IsLeaving {P S H : Type 0} (n t : ℕ) (c : Book) (awaits : ℕ → Bool) (u : State P S H) : Type 0 where
  pub resources : c.resources ≡ u.resources
  pub going : Going n c.ended t u.control
  pub claims : HasClaims u.control
  pub fits : HasAwaits (flags_past t c awaits) u.control

-- ---- which calls tell nothing but their answers

abbrev is_quiet : Call → Bool
is_quiet (call.CleanupPop v) = false
is_quiet (call.Once o h v) = false
is_quiet (call.Cancel n) = false
is_quiet (call.Abort n) = false
is_quiet call.CancelPoint = false
is_quiet c = true

no_pop : (b : Book) (t : ℕ) (c : Call) (a : Answer) → is_quiet c ≡ true → IsPopOrderly b t c a
no_pop b t (call.CleanupPop v) a quiet = absurd (true≢false (sym quiet))
no_pop b t c a quiet = tt

-- calls on another thread
abbrev is_asking : Call → Bool
is_asking (call.Cancel n) = true
is_asking (call.Abort n) = true
is_asking c = false

asking_pops : (t : ℕ) (b : Book) (c : Call) → is_asking c ≡ true → IsPopOrderly b t c (answer.Int (pos 1))
asking_pops t b (call.CleanupPop v) asking = absurd (true≢false (sym asking))
asking_pops t b c asking = tt

asking_exclusive : (t : ℕ) (b : Book) (c : Call) (a : Answer) → is_asking c ≡ true → IsAnswerExclusive b.resources t c a
asking_exclusive t b (call.Cancel n) a asking = tt
asking_exclusive t b (call.Abort n) a asking = tt
asking_exclusive t b c a asking = absurd (true≢false (sym asking))

asking_on : (c : Call) → is_asking c ≡ true → kills c ≡ false
asking_on call.Kill asking = absurd (true≢false (sym asking))
asking_on c asking = refl

asking_fails : (t : ℕ) (b : Book) (c : Call) (e : Errno) → is_asking c ≡ true → IsPopOrderly b t c (answer.Fail e)
asking_fails t b (call.CleanupPop v) e asking = absurd (true≢false (sym asking))
asking_fails t b c e asking = tt

joinable_state : (e : Entry) → (changed (change.Joinable false) e).state ≡ e.state
unfolding changed
joinable_state e = refl

cancel_state_same : (e : Entry) → (changed (change.Cancel 3) e).state ≡ e.state
unfolding changed
cancel_state_same e = refl

-- one of two holds neither
or_none : (a b : Bool) → (a || b) ≡ false → b ≡ false
or_none false b h = h
or_none true b h = absurd (true≢false h)

dead_lives : (o : Option Entry) → is_dead (or_nobody o).state ≡ true → lives o ≡ false
dead_lives None h = refl
dead_lives (Some e) h = ap not h

module _ {P S H : Type 0} where
  abbrev IsSilent : Piece P S H → State P S H → Type 0
  IsSilent a s = ((a s).marks ≡ []) × ((a s).state.resources ≡ s.resources)

  unless_silent : (b : Bool) (a : Piece P S H) (s : State P S H) → IsSilent a s → IsSilent (unless_refused b a) s
  unless_silent true a s h = (refl, refl)
  unless_silent false a s h = h

  ctrl_silent : (s u : State P S H) (x : Query) → IsSilent (ctrl s x).begin.effect u
  ctrl_silent s u query.Threads = (refl, refl)
  ctrl_silent s u x = (refl, refl)

  ctrl_silent_again : (s u : State P S H) (x : Query) (b : Awaits) → IsSilent ((ctrl s x).again b).effect u
  ctrl_silent_again s u query.Threads b = (refl, refl)
  ctrl_silent_again s u x b = (refl, refl)

  made_silent : (spec : Option EventSpec) (v : EventSpec → Verdict) (g : EventSpec → Change P S H) (u : State P S H) → IsSilent (made_as spec v g).begin.effect u
  made_silent None v g u = (refl, refl)
  made_silent (Some spec) v g u = (refl, refl)

  made_silent_again : (spec : Option EventSpec) (v : EventSpec → Verdict) (g : EventSpec → Change P S H) (b : Awaits) (u : State P S H) → IsSilent ((made_as spec v g).again b).effect u
  made_silent_again None v g b u = (refl, refl)
  made_silent_again (Some spec) v g b u = (refl, refl)

  module _ (f : P → Functions S H) (t : ℕ) (s : State P S H) where
    effect_silent : (c : Call) → is_quiet c ≡ true → IsSilent (row_of f s t c).begin.effect s
    unfolding row_of
    effect_silent (call.CleanupPop v) quiet = absurd (true≢false (sym quiet))
    effect_silent (call.Once o h v) quiet = absurd (true≢false (sym quiet))
    effect_silent (call.Cancel n) quiet = absurd (true≢false (sym quiet))
    effect_silent (call.Abort n) quiet = absurd (true≢false (sym quiet))
    effect_silent call.CancelPoint quiet = absurd (true≢false (sym quiet))
    effect_silent (call.Ctrl x) quiet = ctrl_silent s s x
    effect_silent (call.EvFd goals fd) quiet = made_silent (spec_of (line.Fd goals fd)) _ _ s
    effect_silent (call.EvTime m) quiet = made_silent (spec_of (line.Time m)) _ _ s
    effect_silent (call.EvFunc c v l) quiet = made_silent (spec_of (line.Func c v l)) _ _ s
    effect_silent (call.Chain e l) quiet = made_silent (spec_of l) _ _ s
    effect_silent c quiet = (refl, refl)

    round_silent : (x : ℤ) (round : ℕ) → IsSilent (tries_round s t x round).effect s
    round_silent x round = by_test (has_passed s.control.barriers x round)
      where
        by_test : (passed : Bool) → IsSilent (if passed then (Says (answer.Int (round_answer s.control.barriers x round t)) trying changes (with_barriers (round_answered x round t))) else (Blocks (awaits.Round x round) trying silent)).effect s
        by_test true = (refl, refl)
        by_test false = (refl, refl)

    again_silent : (c : Call) (b : Awaits) → IsSilent ((row_of f s t c).again b).effect s
    unfolding row_of
    again_silent (call.Ctrl x) b = ctrl_silent_again s s x b
    again_silent (call.EvFd goals fd) b = made_silent_again (spec_of (line.Fd goals fd)) _ _ b s
    again_silent (call.EvTime m) b = made_silent_again (spec_of (line.Time m)) _ _ b s
    again_silent (call.EvFunc c v l) b = made_silent_again (spec_of (line.Func c v l)) _ _ b s
    again_silent (call.Chain e l) b = made_silent_again (spec_of l) _ _ b s
    again_silent (call.BarrierReach x) b = round_silent x (round_in b)
    again_silent c b = (refl, refl)

-- ---- marks of a step

module _ {P S H : Type 0} (f : P → Functions S H) (n t : ℕ) (made : is_made n t ≡ true) where
  abbrev Within : Book → State P S H → Type 0
  Within c u = IsWithin n t c u.resources.awaits u

  -- once this is told
  abbrev Telling : Mark → Book → State P S H → Type 0
  Telling m c u = IsWithin n t c (told u.resources m).awaits u

  abbrev After : Next → Book → State P S H → Type 0
  After = AfterStep n t

  within_up : (o : ℕ → Bool) (c : Book) (u : State P S H) → IsWithin n t c o u → c.ended t ≡ false
  within_up o c u w = living-up n c.ended u.control.threads.made u.control.threads.known u.control.threads.standing w.going.living t (going_alive n c.ended t u.control w.going)

  -- who awaits nothing was not canceled
  within_uncanceled : (o : ℕ → Bool) (c : Book) (u : State P S H) → o t ≡ false → IsWithin n t c o u → c.canceled t ≡ false
  within_uncanceled o c u idle w = tells_uncanceled (flags c o) t (blocked_of u.control t) idle (within_up o c u w) (w.fits t).0

  leaving : (o : ℕ → Bool) (c : Book) (u : State P S H) → IsWithin n t c o u → IsLeaving n t c o u
  leaving o c u w = record {
    resources = w.resources;
    going = w.going;
    claims = w.claims;
    fits = awaits_past t (flags c o) (flags_past t c o) u.control (refl, put_here c.ended t true) (λ v apart. record { awaits = refl; ended = put_other c.ended t true v apart; canceled = refl }) w.fits;
  }

  -- where t goes on running, or gives up control
  within_stepped : (x : Next) (c : Book) (u : State P S H) → c.block ≡ Closed → IsLeft t x u.control → IsGone t x c → Within c u → HasStepped n t x c u
  within_stepped x c u closed left gone w = record { resources = w.resources; closed = closed; living = w.going.living; claims = w.claims; awaits = w.fits; left = left; gone = gone }

  left_running : (c : Book) (u : State P S H) → Within c u → (u.control.scheduler.running ≡ Some t) × ((or_nobody (u.control.threads.known t)).state ≡ state.Running) × (u.control.scheduler.preferred ≡ None)
  left_running c u w = (w.going.running, w.going.runs, w.going.preferred)

  none_named : (o : Option ℕ) (u : ℕ) → o ≡ None → o ≡ Some u → ⊥
  none_named o u none some = cc

  left_yielding : (c : Book) (u : State P S H) (a : Answer) → Within c u → IsLeft t (next.Yields a) u.control
  left_yielding c u a w = (w.going.running, w.going.runs, λ v named. absurd (none_named u.control.scheduler.preferred v w.going.preferred named))

  -- a mark that closes the block of t, and says nothing of threads
  told_within : (m : Mark) (c : Book) (u : State P S H) → (after c m).ended ≡ c.ended → (after c m).canceled ≡ c.canceled → Telling m c u → Within (after c m) (tells m u).state
  told_within m c u ended canceled w = record {
    resources = ap (λ (k : Resources). told k m) w.resources;
    going = subst (λ (e : ℕ → Bool). Going n e t u.control) (sym ended) w.going;
    claims = w.claims;
    fits = awaits_as (flags c (told u.resources m).awaits) (flags (after c m) (told u.resources m).awaits) u.control (λ v. record { awaits = refl; ended = ap (λ (e : ℕ → Bool). e v) ended; canceled = ap (λ (e : ℕ → Bool). e v) canceled }) w.fits;
  }

  -- a call that is not pth_kill ends nobody by its answer
  on_goes : (e : ℕ → Bool) (k : Call) (a : Answer) → kills k ≡ false → ended_after e (mark.Answered (tid t) k a) ≡ e
  on_goes e call.Kill a on = absurd (true≢false on)
  on_goes e k a on = refl

  answer_walk : (x : Next) (k : Call) (a : Answer) (c : Book) (u : State P S H) → ended_after c.ended (mark.Answered (tid t) k a) ≡ c.ended → IsPopOrderly c t k a → IsAnswerExclusive c.resources t k a → ((d : Book) (v : State P S H) → d.block ≡ Closed → Within d v → After x d v) → c.canceled t ≡ false → Telling (mark.Answered (tid t) k a) c u
      → Walk n c (After x) (tells (mark.Answered (tid t) k a) u)
  answer_walk x k a c u goes pop exclusive leaves uncanceled w =
      let m = mark.Answered (tid t) k a in
      let o = (told u.resources m).awaits in
      walk_tells n (After x) c m u (λ locked. (((within_up o c u w, (uncanceled, pop)), exclusive), made)) (leaves (after c m) (tells m u).state refl (told_within m c u goes refl w))

  wait_walk : (k : Call) (c : Book) (u : State P S H) → IsWaitExclusive c.resources t k → c.canceled t ≡ false → Telling (mark.Waits (tid t) k) c u → Walk n c (After next.Blocks) (tells (mark.Waits (tid t) k) u)
  wait_walk k c u exclusive uncanceled w =
      let m = mark.Waits (tid t) k in
      let o = (told u.resources m).awaits in
      let v = told_within m c u refl refl w in
      walk_tells n (After next.Blocks) c m u (λ locked. (((within_up o c u w, uncanceled), wait_exclusive c t k exclusive), made)) (within_stepped next.Blocks (after c m) (tells m u).state refl (left_running (after c m) (tells m u).state v) tt v)

  -- a change that keeps t going
  change_within : (g : Change P S H) (o : ℕ → Bool) (c : Book) (u : State P S H) → Going n c.ended t (g u.control) → HasClaims (g u.control) → HasAwaits (flags c o) (g u.control) → Within c u → IsWithin n t c o (controlled g u)
  change_within g o c u going claims fits w = record { resources = w.resources; going = going; claims = claims; fits = fits }

  -- an answer that says nothing of who awaits, where t awaits nothing
  fits_told : (o : ℕ → Bool) (c : Book) (u : State P S H) → ((v : ℕ) → o v ≡ u.resources.awaits v) → Within c u → IsWithin n t c o u
  fits_told o c u same w = record { resources = w.resources; going = w.going; claims = w.claims; fits = awaits_as (flags c u.resources.awaits) (flags c o) u.control (λ v. record { awaits = same v; ended = refl; canceled = refl }) w.fits }

  answering : (k : Call) (a : Answer) (c : Book) (u : State P S H) → kills k ≡ false → u.resources.awaits t ≡ false → Within c u → Telling (mark.Answered (tid t) k a) c u
  unfolding told
  answering k a c u on idle w =
      let tells = answer_awaits u.resources t k a on (λ awaits. absurd (true≢false (sym awaits ∙ idle))) in
      let o = (answer_told u.resources t k a).awaits in
      fits_told o c u (λ v. by_same v (v == t) refl tells.0 tells.1) w
    where
      by_same : (v : ℕ) (x : Bool) → (v == t) ≡ x → (answer_told u.resources t k a).awaits t ≡ false → ((v : ℕ) → v ≢ t → (answer_told u.resources t k a).awaits v ≡ u.resources.awaits v) → (answer_told u.resources t k a).awaits v ≡ u.resources.awaits v
      by_same v true same here others = let own = same_means v t same in ap (answer_told u.resources t k a).awaits own ∙ here ∙ sym (ap u.resources.awaits own ∙ idle)
      by_same v false apart here others = others v (same_fails v t apart)

  refusing : (e : Errno) (c : Book) (u : State P S H) → Within c u → Telling (mark.Answered (tid t) call.Kill (answer.Fail e)) c u
  unfolding told
  refusing e c u w = fits_told (answer_told u.resources t call.Kill (answer.Fail e)).awaits c u (λ v. ap (λ (o : ℕ → Bool). o v) (refusal_awaits u.resources t e)) w

  -- where no call blocks t, it awaits nothing
  idle_in : (c : Book) (u : State P S H) (p : Progress S) → u.control.threads.progress t ≡ Some p → p.blocked ≡ None → Within c u → u.resources.awaits t ≡ false
  idle_in c u p on free w = (w.fits t).0.fits ∙ ap (λ z. is_awaiting (blocked_in z)) on ∙ ap is_awaiting free

  done_stepped : (a : Answer) (c : Book) (u : State P S H) → c.block ≡ Closed → Within c u → After (next.Done a) c u
  done_stepped a c u closed w = within_stepped (next.Done a) c u closed (left_running c u w) tt w

  yields_stepped : (a : Answer) (c : Book) (u : State P S H) → c.block ≡ Closed → Within c u → After (next.Yields a) c u
  yields_stepped a c u closed w = within_stepped (next.Yields a) c u closed (left_yielding c u a w) tt w

  -- ---- ends: of t, with a cancellation before it or not, and of another

  other_none : (o : Option ℕ) → o ≡ Some t → other_than t o ≡ None
  other_none None h = absurd (cc h)
  other_none (Some u) h = let same : u ≡ t = cc in rw (same, same_self t) refl

  other_stays : (u : ℕ) (o : Option ℕ) → t ≢ u → o ≡ Some t → other_than u o ≡ Some t
  other_stays u None apart h = absurd (cc h)
  other_stays u (Some w) apart h = let same : w ≡ t = cc in rw (same, not_same t u apart) refl

  -- what its ending leaves of who awaits
  ended_awaits : (u : ℕ) (c : Book) (a : State P S H) (d : Book) (s : State P S H) → HasEnded n u c a d s → HasAwaits (flags d s.resources.awaits) s.control
  ended_awaits u c a d s e = awaits_as (flags_past u c s.resources.awaits) (flags d s.resources.awaits) s.control (λ v. record { awaits = refl; ended = ap (λ (o : ℕ → Bool). o v) e.ended; canceled = ap (λ (o : ℕ → Bool). o v) e.canceled }) e.awaits

  -- t's ending, whether it was canceled or not
  last_walk : (v : ℤ) (c : Book) (u : State P S H) → ran_by c.block t ≡ ran_nothing → (c.canceled t ≡ true → v ≡ negsuc 0) → IsLeaving n t c u.resources.awaits u → Walk n c (After (next.Ended v)) (ending f t v u)
  last_walk v c u fresh value w =
      walk_to n (HasEnded n t c u) (After (next.Ended v)) c (ending f t v u)
      (λ d s e. record {
        resources = e.resources;
        closed = e.closed;
        living = subst (λ (o : ℕ → Bool). Living n o s.control) (sym e.ended) e.living;
        claims = e.claims;
        awaits = ended_awaits t c u d s e;
        left = (e.running ∙ other_none u.control.scheduler.running w.going.running, e.preferred ∙ w.going.preferred);
        gone = ap (λ (o : ℕ → Bool). o t) e.ended ∙ put_here c.ended t true;
      })
      (ending_walk n t f v c u (going_alive n c.ended t u.control w.going) w.going.living w.claims w.fits made value w.resources fresh)

  end_walk : (v : ℤ) (c : Book) (u : State P S H) → ran_by c.block t ≡ ran_nothing → u.resources.awaits t ≡ false → Within c u → Walk n c (After (next.Ended v)) (ending f t v u)
  end_walk v c u fresh idle w = last_walk v c u fresh (λ h. absurd (true≢false (sym h ∙ within_uncanceled u.resources.awaits c u idle w))) (leaving u.resources.awaits c u w)

  -- t takes a request up in a call
  requested : (c : Book) (u : State P S H) (k : Option Call) → Within c u → IsLeaving n t (after c (mark.Canceled (tid t) k)) u.resources.awaits (controlled (sets t (change.Request false)) u)
  unfolding told
  requested c u k w =
      let m = mark.Canceled (tid t) k in
      let o = u.resources.awaits in
      record {
        resources = ap (λ (r : Resources). told r m) w.resources;
        going = going_set n c.ended t t (change.Request false) u.control (request_state false) w.going;
        claims = claims_set t (change.Request false) u.control (λ e h. ap is_dead (request_state false e)) w.claims;
        fits = awaits_set (flags_past t (after c m) o) t (change.Request false) u.control (λ e h. ap is_dead (request_state false e))
            (awaits_past t (flags c o) (flags_past t (after c m) o) u.control (refl, put_here c.ended t true) (λ v apart. record { awaits = refl; ended = put_other c.ended t true v apart; canceled = put_other c.canceled t true v apart }) w.fits);
      }

  -- t takes a request up in a call, and ends
  canceled_walk : (k : Call) (c : Book) (u : State P S H) → Within c u → Walk n c (After (next.Ended canceled_value)) (canceled_in f t k u)
  unfolding told
  canceled_walk k c u w =
      let m = mark.Canceled (tid t) (Some k) in
      let g : Change P S H = sets t (change.Request false) in
      let d = after c m in
      let x = last_walk canceled_value d (controlled g u) (fresh_by t d.block refl) (λ h. refl) (requested c u (Some k) w) in
      record { law = ((λ locked. (((within_up u.resources.awaits c u w, tt), tt), made)), x.law); post = x.post }

  -- t goes on, and awaits nothing
  abbrev GoesOn : Book → State P S H → Type 0
  GoesOn d x = (d.block ≡ Closed) × Within d x × (x.resources.awaits t ≡ false)

  -- another thread, which lives, is canceled in t's turn: t goes on
  other_walk : (u : ℕ) (c : Book) (s : State P S H) → t ≢ u → lives (s.control.threads.known u) ≡ true → is_made n u ≡ true → s.resources.awaits t ≡ false → Within c s → Walk n c GoesOn (canceled_by_other f u s)
  unfolding told
  other_walk u c s apart alive there idle w =
      let m = mark.Canceled (tid u) None in
      let d = after c m in
      let up = living-up n c.ended s.control.threads.made s.control.threads.known s.control.threads.standing w.going.living u alive in
      let a = (tells m s).state in
      let x = walk_to n (HasEnded n u d a) GoesOn d (ending f u canceled_value a)
      (λ e y h. (
        h.closed,
        record {
          resources = h.resources;
          going = subst (λ (o : ℕ → Bool). Going n o t y.control) (sym h.ended) (record {
            living = h.living;
            runs = ap (λ (o : Option Entry). (or_nobody o).state) (h.others t apart) ∙ w.going.runs;
            running = h.running ∙ other_stays u s.control.scheduler.running apart w.going.running;
            preferred = h.preferred ∙ w.going.preferred;
          });
          claims = h.claims;
          fits = ended_awaits u d a e y h;
        },
        h.stays t apart ∙ idle,
      ))
      (ending_walk n u f canceled_value d a alive w.going.living w.claims (awaits_past u (flags c s.resources.awaits) (flags_past u d s.resources.awaits) s.control (refl, put_here c.ended u true) (λ v other. record { awaits = refl; ended = put_other c.ended u true v other; canceled = put_other c.canceled u true v other }) w.fits) there (λ h. refl) (ap (λ (r : Resources). told r m) w.resources) (fresh_by u d.block refl)) in
      record { law = ((λ locked. (((up, tt), tt), there)), x.law); post = x.post }

  -- ---- a call begins

  -- t is this far in its program, and nothing was told
  abbrev Quiet : Option (Progress S) → Book → Book → State P S H → Type 0
  Quiet q c d u = (d ≡ c) × Within c u × (u.control.threads.progress t ≡ q)

  quiet_within : (q : Option (Progress S)) (a : Piece P S H) (c : Book) (s : State P S H) → IsSilent a s → Holding n c.ended (flags c s.resources.awaits) t q (a s).state.control → Within c s → Walk n c (Quiet q c) (a s)
  quiet_within q a c s silent holding w =
      let none = silent.0 in
      record {
        law = subst (EachMark (IsMarkedWithin n) c) (sym none) tt;
        post = (ap (book_of c) none, record { resources = w.resources ∙ sym silent.1; going = holding.0; claims = holding.1; fits = awaits_as (flags c s.resources.awaits) (flags c (a s).state.resources.awaits) (a s).state.control (λ v. record { awaits = ap (λ (k : Resources). k.awaits v) silent.1; ended = refl; canceled = refl }) holding.3 }, holding.2);
      }

  claims_seats : (e : Option ℤ) (k : Control P S H) → seats (claims t e k) ≡ seats k
  unfolding claims
  claims_seats None k = refl
  claims_seats (Some e) k = refl

  going_blocks : (ended : ℕ → Bool) (k : Call) (y : Awaits) (u : State P S H) → Going n ended t u.control → Going n ended t (blocks t k y (claims t (ring_given k) u.control))
  unfolding goes_on
  going_blocks ended k y u going = subst (IsGoing n ended t) (sym (claims_seats (ring_given k) u.control)) going

  blocks_telling : (k : Call) (y : Awaits) (p : Progress S) (c : Book) (u : State P S H) → u.control.threads.progress t ≡ Some p → p.blocked ≡ None → is_retaking y ≡ false → Within c u → Telling (mark.Waits (tid t) k) c (controlled (λ j. blocks t k y (claims t (ring_given k) j)) u)
  unfolding told
  blocks_telling k y p c u on free plain w =
      let alive = going_alive n c.ended t u.control w.going in
      let idle = idle_in c u p on free w in
      let tells = wait_awaits u.resources t k (λ awaits. absurd (true≢false (sym awaits ∙ idle))) in
      let o = (wait_told u.resources t k).awaits in
      let own : Tells (flags c o) t (Some (record { call = k; awaits = y })) = record { fits = tells.0; uncanceled = λ up. within_uncanceled u.resources.awaits c u idle w ∙ sym (canceled_retakes y plain); retakes = λ e. absurd (true≢false (sym e ∙ plain)) } in
      change_within (λ j. blocks t k y (claims t (ring_given k) j)) o c u (going_blocks c.ended k y u w.going) (claims_block t k y u.control p on free alive plain w.claims)
      (awaits_begun t (flags c u.resources.awaits) (flags c o) k y (ring_given k) u.control p on own alive (others_await t (flags c u.resources.awaits) o tells.1) w.fits) w

  -- as the verdict says, of a quiet call
  verdict_walk : (k : Call) (v : Verdict) (p : Progress S) (c : Book) (s : State P S H) → is_quiet k ≡ true → kills k ≡ false → IsVerdictExclusive c.resources t k v → ((y : Awaits) → v ≡ Blocks y → is_retaking y ≡ false) → c.block ≡ Closed → s.control.threads.progress t ≡ Some p → p.blocked ≡ None → Within c s → Walk n c (After (begun_by f t k v s).next) (begun_by f t k v s).told
  verdict_walk k (Says x) p c s quiet goes exclusive plain closed on free w = answer_walk (next.Done x) k x c s (on_goes c.ended k x goes) (no_pop c t k x quiet) exclusive (λ e u. done_stepped x e u) (within_uncanceled s.resources.awaits c s (idle_in c s p on free w) w) (answering k x c s goes (idle_in c s p on free w) w)
  verdict_walk k (Yields x) p c s quiet goes exclusive plain closed on free w = answer_walk (next.Yields x) k x c s (on_goes c.ended k x goes) (no_pop c t k x quiet) exclusive (λ e u. yields_stepped x e u) (within_uncanceled s.resources.awaits c s (idle_in c s p on free w) w) (answering k x c s goes (idle_in c s p on free w) w)
  verdict_walk k (Blocks y) p c s quiet goes exclusive plain closed on free w =
      let g : Change P S H = λ j. blocks t k y (claims t (ring_given k) j) in
      let x = wait_walk k c (controlled g s) exclusive (within_uncanceled s.resources.awaits c s (idle_in c s p on free w) w) (blocks_telling k y p c s on free (plain y refl) w) in
      record { law = x.law; post = x.post }
  verdict_walk k (Ends v) p c s quiet goes exclusive plain closed on free w = end_walk v c s (fresh_by t c.block closed) (idle_in c s p on free w) w
  verdict_walk k Kills p c s quiet goes exclusive plain closed on free w =
      let a = answer.Int (pos 1) in
      answer_walk next.Killed k a c s (on_goes c.ended k a goes) (no_pop c t k a quiet) exclusive (λ e u closed within. tt) (within_uncanceled s.resources.awaits c s (idle_in c s p on free w) w) (answering k a c s goes (idle_in c s p on free w) w)

  not_killing : (k : Call) → is_common k ≡ true → kills k ≡ false
  not_killing call.Kill common = absurd (true≢false (sym common))
  not_killing k common = refl

  -- a call that names nobody, runs no handler and does not kill
  common_walk : (k : Call) (p : Progress S) (c : Book) (s : State P S H) → is_common k ≡ true → is_quiet k ≡ true → c.block ≡ Closed → s.control.threads.progress t ≡ Some p → p.blocked ≡ None → Within c s → Walk n c (After (begun_as f t k (row_of f s t k).begin s).next) (begun_as f t k (row_of f s t k).begin s).told
  common_walk k p c s common quiet closed on free w =
      let a = (row_of f s t k).begin in
      let exclusive : IsVerdictExclusive c.resources t k a.verdict = subst (λ (r : Resources). IsVerdictExclusive r t k a.verdict) (sym w.resources) (begins_exclusive f s t k (idle_in c s p on free w)) in
      let holding = effect_keeps f t (Holding n c.ended (flags c s.resources.awaits) t (Some p)) (holding_kept n c.ended (flags c s.resources.awaits) t (Some p) f) s k common (w.going, w.claims, on, w.fits) in
      walk_finally n (Quiet (Some p) c) (After (begun_by f t k a.verdict (effect_of a s).state).next) c (effect_of a) (begun_by f t k a.verdict) s
      (quiet_within (Some p) (effect_of a) c s (unless_silent (refuses a.verdict) a.effect s (effect_silent f t s k quiet)) holding w)
      (λ d h. subst (λ (e : Book). Walk n e (After (begun_by f t k a.verdict (effect_of a s).state).next) (begun_by f t k a.verdict (effect_of a s).state).told) (sym h.0) (verdict_walk k a.verdict p c (effect_of a s).state quiet (not_killing k common) exclusive (begins_plainly f s t k) closed h.2 free h.1))

  -- pth_kill
  kill_walk : (refuse : Bool) (c : Book) (s : State P S H) → s.resources.awaits t ≡ false → Within c s → let r = begun_as f t call.Kill (refused EPERM when refuse otherwise Kills trying changes (vanish_all_but t)) s in Walk n c (After r.next) r.told
  kill_walk true c s idle w = answer_walk (next.Done (answer.Fail EPERM)) call.Kill (answer.Fail EPERM) c s refl tt tt (λ e u. done_stepped (answer.Fail EPERM) e u) (within_uncanceled s.resources.awaits c s idle w) (refusing EPERM c s w)
  kill_walk false c s idle w = record { law = ((λ locked. (((within_up s.resources.awaits c s w, (within_uncanceled s.resources.awaits c s idle w, tt)), tt), made)), tt); post = tt }

  -- pth_yield: who is named waits to run
  named_runs : (m : ℤ) (s : State P S H) → IsToRun (thread s.control m) → IsToRun (s.control.threads.known (number m))
  named_runs (pos i) s runs = runs
  named_runs (negsuc i) s runs = absurd (true≢false (sym runs))

  yields_walk : (m : ℤ) (zero : Bool) (c : Book) (s : State P S H) → (zero ≡ false → IsToRun (s.control.threads.known (number m))) → s.resources.awaits t ≡ false → Within c s → Walk n c (After (next.Yields (answer.Int (pos 1)))) ((changes (if zero then nothing else prefers (Some (number m))) and_then tells (mark.Answered (tid t) (call.Yield m) (answer.Int (pos 1)))) s)
  yields_walk m true c s runs idle w =
      let x = answer_walk (next.Yields (answer.Int (pos 1))) (call.Yield m) (answer.Int (pos 1)) c s refl tt tt (λ e u. yields_stepped (answer.Int (pos 1)) e u) (within_uncanceled s.resources.awaits c s idle w) (answering (call.Yield m) (answer.Int (pos 1)) c s refl idle w) in
      record { law = x.law; post = x.post }
  yields_walk m false c s runs idle w =
      let k = mark.Answered (tid t) (call.Yield m) (answer.Int (pos 1)) in
      record {
        law = ((λ locked. (((within_up s.resources.awaits c s w, (within_uncanceled s.resources.awaits c s idle w, tt)), tt), made)), tt);
        post = record {
          resources = ap (λ (r : Resources). told r k) w.resources;
          closed = refl;
          living = w.going.living;
          claims = w.claims;
          awaits = (answering (call.Yield m) (answer.Int (pos 1)) c s refl idle w).fits;
          left = (w.going.running, w.going.runs, λ v named. let same : number m ≡ v = same_Some (number m) v named in subst (λ (i : ℕ). IsToRun (s.control.threads.known i)) same (runs refl));
          gone = tt;
        };
      }

  yield_walk : (m : ℤ) (refuse : Bool) (c : Book) (s : State P S H) → (not (is_zero m) && ((or_nobody (thread s.control m)).suspended || not (may_run (or_nobody (thread s.control m)).state))) ≡ refuse → s.resources.awaits t ≡ false → Within c s → let r = begun_as f t (call.Yield m) (refused EINVAL when refuse otherwise Yields (answer.Int (pos 1)) trying changes (if is_zero m then nothing else prefers (Some (number m)))) s in Walk n c (After r.next) r.told
  yield_walk m true c s is_refused idle w = answer_walk (next.Done (answer.Fail EINVAL)) (call.Yield m) (answer.Fail EINVAL) c s refl tt tt (λ e u. done_stepped (answer.Fail EINVAL) e u) (within_uncanceled s.resources.awaits c s idle w) (answering (call.Yield m) (answer.Fail EINVAL) c s refl idle w)
  yield_walk m false c s is_refused idle w = yields_walk m (is_zero m) c s (λ other. named_runs m s (yields_to (is_zero m) (thread s.control m) other is_refused)) idle w

  -- a handler within a call, and the call's answer
  handled_call : (k : Call) (h : HandlerId) (v : ℤ) (c : Book) (s : State P S H) → c.block ≡ Closed → ((d : Book) (u : State P S H) → (ran_by d.block t).handlers ≡ (h, v) ∷ [] → d.resources.store.cleanups t ≡ s.resources.store.cleanups t → IsPopOrderly d t k (answer.Int (pos 1))) → ((d : Book) → IsAnswerExclusive d.resources t k (answer.Int (pos 1))) → kills k ≡ false → s.resources.awaits t ≡ false → Within c s → Walk n c (After (next.Done (answer.Int (pos 1)))) ((runs_handler f t h v and_then tells (mark.Answered (tid t) k (answer.Int (pos 1)))) s)
  handled_call k h v c s closed pops exclusive on idle w =
      let one = with_handler (h, v) ran_nothing in
      let Ran = IsRunning {P = P} {S = S} {H = H} t c.ended c.canceled s.resources s.control one in
      walk_then n Ran (After (next.Done (answer.Int (pos 1)))) c (runs_handler f t h v) (tells (mark.Answered (tid t) k (answer.Int (pos 1)))) s
      (handler_walk f n t c.ended c.canceled (within_up s.resources.awaits c s w) made s.resources s.control ran_nothing h v c s (record { resources = w.resources; ended = refl; canceled = refl; ran = fresh_by t c.block closed; cleanups = refl; awaits = refl; control = refl }))
      (λ d x.
      let u = (runs_handler f t h v s).state in
      answer_walk (next.Done (answer.Int (pos 1))) k (answer.Int (pos 1)) d u (on_goes d.ended k (answer.Int (pos 1)) on)
      (pops d u (ap (λ (z : BlockRun). z.handlers) x.ran ∙ ran_one (h, v)) (ap (λ (r : Resources). r.store.cleanups t) x.resources ∙ x.cleanups)) (exclusive d)
      (λ e y. done_stepped (answer.Int (pos 1)) e y)
      (ap (λ (e : ℕ → Bool). e t) x.canceled ∙ within_uncanceled s.resources.awaits c s idle w)
      (answering k (answer.Int (pos 1)) d u on (ap (λ (o : ℕ → Bool). o t) x.awaits ∙ idle) (record {
        resources = x.resources;
        going = subst (λ (e : ℕ → Bool). Going n e t u.control) (sym x.ended) (subst (Going n c.ended t) (sym x.control) w.going);
        claims = subst HasClaims (sym x.control) w.claims;
        fits = subst (HasAwaits (flags d u.resources.awaits)) (sym x.control) (awaits_as (flags c s.resources.awaits) (flags d u.resources.awaits) s.control (λ i. record { awaits = ap (λ (o : ℕ → Bool). o i) x.awaits; ended = ap (λ (e : ℕ → Bool). e i) x.ended; canceled = ap (λ (e : ℕ → Bool). e i) x.canceled }) w.fits);
      })))

  -- pth_cleanup_pop
  popped_walk : (v : ℤ) (run : Bool) (p : PushedHandler) (c : Book) (s : State P S H) → not (is_zero v) ≡ run → pop_answer s.resources.store.cleanups t ≡ Some p → c.block ≡ Closed → s.resources.awaits t ≡ false → Within c s → Walk n c (After (next.Done (answer.Int (pos 1)))) ((where_so run (runs_pushed f t (Some p)) and_then tells (mark.Answered (tid t) (call.CleanupPop v) (answer.Int (pos 1)))) s)
  popped_walk v false p c s runs last closed idle w =
      let x = answer_walk (next.Done (answer.Int (pos 1))) (call.CleanupPop v) (answer.Int (pos 1)) c s refl (λ other. absurd (true≢false (sym (ap not other) ∙ runs))) tt (λ e u. done_stepped (answer.Int (pos 1)) e u) (within_uncanceled s.resources.awaits c s idle w) (answering (call.CleanupPop v) (answer.Int (pos 1)) c s refl idle w) in
      record { law = x.law; post = x.post }
  popped_walk v true p c s runs last closed idle w =
      handled_call (call.CleanupPop v) p.0 p.1 c s closed
      (λ d u ran pushed other. ran_last (ran_by d.block t).handlers (d.resources.store.cleanups t) p ran (ap (λ (cs : List PushedHandler). slice_get cs 0) pushed ∙ last)) (λ d. tt) refl idle w

  pop_walk : (v : ℤ) (o : Option PushedHandler) (c : Book) (s : State P S H) → pop_answer s.resources.store.cleanups t ≡ o → c.block ≡ Closed → s.resources.awaits t ≡ false → Within c s → let r = begun_as f t (call.CleanupPop v) (refused EINVAL when is_none o otherwise says 1 trying where_so (not (is_zero v)) (runs_pushed f t o)) s in Walk n c (After r.next) r.told
  pop_walk v None c s last closed idle w = answer_walk (next.Done (answer.Fail EINVAL)) (call.CleanupPop v) (answer.Fail EINVAL) c s refl tt tt (λ e u. done_stepped (answer.Fail EINVAL) e u) (within_uncanceled s.resources.awaits c s idle w) (answering (call.CleanupPop v) (answer.Fail EINVAL) c s refl idle w)
  pop_walk v (Some p) c s last closed idle w = popped_walk v (not (is_zero v)) p c s refl last closed idle w

  -- pth_once
  once_walk : (o h v : ℤ) (refuse run : Bool) (c : Book) (s : State P S H) → c.block ≡ Closed → s.resources.awaits t ≡ false → Within c s → let r = begun_as f t (call.Once o h v) (refused EINVAL when refuse otherwise says 1 trying where_so run (changes (uses (number o)) and_then runs_handler f t (handler h) v)) s in Walk n c (After r.next) r.told
  once_walk o h v true run c s closed idle w = answer_walk (next.Done (answer.Fail EINVAL)) (call.Once o h v) (answer.Fail EINVAL) c s refl tt tt (λ e u. done_stepped (answer.Fail EINVAL) e u) (within_uncanceled s.resources.awaits c s idle w) (answering (call.Once o h v) (answer.Fail EINVAL) c s refl idle w)
  once_walk o h v false false c s closed idle w =
      let x = answer_walk (next.Done (answer.Int (pos 1))) (call.Once o h v) (answer.Int (pos 1)) c s refl tt tt (λ e u. done_stepped (answer.Int (pos 1)) e u) (within_uncanceled s.resources.awaits c s idle w) (answering (call.Once o h v) (answer.Int (pos 1)) c s refl idle w) in
      record { law = x.law; post = x.post }
  once_walk o h v false true c s closed idle w =
      let x = handled_call (call.Once o h v) (handler h) v c (controlled (uses (number o)) s) closed (λ d u ran pushed. tt) (λ d. tt) refl idle (change_within (uses (number o)) s.resources.awaits c s w.going w.claims w.fits w) in
      record { law = x.law; post = x.post }

  -- pth_cancel_point
  point_walk : (asked : Bool) (c : Book) (s : State P S H) → c.block ≡ Closed → s.resources.awaits t ≡ false → Within c s → let r = begun_as f t call.CancelPoint (Ends canceled_value when asked otherwise says 1 trying where_so asked (takes_request t call.CancelPoint)) s in Walk n c (After r.next) r.told
  point_walk false c s closed idle w =
      let x = answer_walk (next.Done (answer.Int (pos 1))) call.CancelPoint (answer.Int (pos 1)) c s refl tt tt (λ e u. done_stepped (answer.Int (pos 1)) e u) (within_uncanceled s.resources.awaits c s idle w) (answering call.CancelPoint (answer.Int (pos 1)) c s refl idle w) in
      record { law = x.law; post = x.post }
  point_walk true c s closed idle w =
      let x = canceled_walk call.CancelPoint c s w in
      record { law = x.law; post = x.post }

  -- a call in which another thread may have ended is answered 1
  then_answer : (k : Call) (a : Piece P S H) (c : Book) (s : State P S H) → is_asking k ≡ true → Walk n c GoesOn (a s) → Walk n c (After (next.Done (answer.Int (pos 1)))) ((a and_then tells (mark.Answered (tid t) k (answer.Int (pos 1)))) s)
  then_answer k a c s asking w =
      walk_then n GoesOn (After (next.Done (answer.Int (pos 1)))) c a (tells (mark.Answered (tid t) k (answer.Int (pos 1)))) s w
      (λ d h. answer_walk (next.Done (answer.Int (pos 1))) k (answer.Int (pos 1)) d (a s).state (on_goes d.ended k (answer.Int (pos 1)) (asking_on k asking)) (asking_pops t d k asking) (asking_exclusive t d k (answer.Int (pos 1)) asking) (λ e u. done_stepped (answer.Int (pos 1)) e u) (within_uncanceled (a s).state.resources.awaits d (a s).state h.2 h.1) (answering k (answer.Int (pos 1)) d (a s).state (asking_on k asking) h.2 h.1))

  -- pth_cancel, once it is not refused
  cancels_walk : (m : ℤ) (now : Bool) (c : Book) (s : State P S H) → t ≢ number m → lives (s.control.threads.known (number m)) ≡ true → is_made n (number m) ≡ true → c.block ≡ Closed → s.resources.awaits t ≡ false → Within c s → Walk n c GoesOn ((if now then canceled_by_other f (number m) else changes (sets (number m) (change.Request true))) s)
  cancels_walk m true c s apart alive there closed idle w = other_walk (number m) c s apart alive there idle w
  cancels_walk m false c s apart alive there closed idle w = record { law = tt; post = (closed, change_within (sets (number m) (change.Request true)) s.resources.awaits c s (going_set n c.ended t (number m) (change.Request true) s.control (request_state true) w.going) (claims_set (number m) (change.Request true) s.control (λ e h. ap is_dead (request_state true e)) w.claims) (awaits_set (flags c s.resources.awaits) (number m) (change.Request true) s.control (λ e h. ap is_dead (request_state true e)) w.fits) w, idle) }

  -- pth_abort of a thread that lives
  aborted_walk : (u : ℕ) (c : Book) (s : State P S H) → t ≢ u → lives (s.control.threads.known u) ≡ true → is_made n u ≡ true → s.resources.awaits t ≡ false → Within c s → Walk n c GoesOn (aborted f u s)
  unfolding sets
  aborted_walk u c s apart alive there idle w =
      let k = sets u (change.Joinable false) s.control in
      let g : Change P S H = sets u (change.Joinable false) and sets u (change.Cancel 3) in
      let one = going_set n c.ended t u (change.Joinable false) s.control joinable_state w.going in
      let two = going_set n c.ended t u (change.Cancel 3) k cancel_state_same one in
      let safe : (e : Entry) → is_dead (changed (change.Joinable false) e).state ≡ is_dead e.state = λ e. ap is_dead (joinable_state e) in
      let safe_too : (e : Entry) → is_dead (changed (change.Cancel 3) e).state ≡ is_dead e.state = λ e. ap is_dead (cancel_state_same e) in
      let claims = claims_set u (change.Cancel 3) k (λ e h. safe_too e) (claims_set u (change.Joinable false) s.control (λ e h. safe e) w.claims) in
      let fits = awaits_set (flags c s.resources.awaits) u (change.Cancel 3) k (λ e h. safe_too e) (awaits_set (flags c s.resources.awaits) u (change.Joinable false) s.control (λ e h. safe e) w.fits) in
      let alive_now = set_lives u (change.Cancel 3) k.threads.known (λ e h. safe_too e) u (set_lives u (change.Joinable false) s.control.threads.known (λ e h. safe e) u alive) in
      let x = other_walk u c (controlled g s) apart alive_now there idle (change_within g s.resources.awaits c s two claims fits w) in
      record { law = x.law; post = x.post }

  -- of a thread that another names, and that lives, t is another, and it was made before
  pub record IsNamed (u : ℕ) (s : State P S H) : Type 0 where
    pub apart : t ≢ u
    pub alive : lives (s.control.threads.known u) ≡ true
    pub there : is_made n u ≡ true

  named_by : (c : Book) (s : State P S H) (m : ℤ) → s.control.threads.made ≡ n → Within c s → (m is t) ≡ false → is_known s.control m ≡ true → is_dead (or_nobody (thread s.control m)).state ≡ false → IsNamed (number m) s
  named_by c s m born w own known up =
      let other = named_other s.control m t known own in
      let alive = known_lives (s.control.threads.known (number m)) other.known (named_lives s.control m known up) in
      record {
        apart = λ same. other.apart (sym same);
        alive = alive;
        there = ap (λ i. is_made i (number m)) (sym born) ∙ living-made n c.ended s.control.threads.made s.control.threads.known s.control.threads.standing w.going.living (number m) alive;
      }

  refused_walk : (k : Call) (e : Errno) (c : Book) (s : State P S H) → is_asking k ≡ true → s.resources.awaits t ≡ false → Within c s → Walk n c (After (next.Done (answer.Fail e))) (tells (mark.Answered (tid t) k (answer.Fail e)) s)
  refused_walk k e c s asking idle w = answer_walk (next.Done (answer.Fail e)) k (answer.Fail e) c s (on_goes c.ended k (answer.Fail e) (asking_on k asking)) (asking_fails t c k e asking) (asking_exclusive t c k (answer.Fail e) asking) (λ d u. done_stepped (answer.Fail e) d u) (within_uncanceled s.resources.awaits c s idle w) (answering k (answer.Fail e) c s (asking_on k asking) idle w)

  -- pth_cancel
  cancel_walk : (m : ℤ) (own unknown barred : Bool) (c : Book) (s : State P S H) → (m is t) ≡ own → not (is_known s.control m) ≡ unknown → (m is main || is_dead (or_nobody (thread s.control m)).state) ≡ barred → s.control.threads.made ≡ n → c.block ≡ Closed → s.resources.awaits t ≡ false → Within c s → let r = begun_as f t (call.Cancel m) (refused EINVAL when own otherwise refused ESRCH when unknown otherwise refused EPERM when barred otherwise says 1 trying if is_asynchronous (or_nobody (thread s.control m)).cancel then canceled_by_other f (number m) else changes (sets (number m) (change.Request true))) s in Walk n c (After r.next) r.told
  cancel_walk m true unknown barred c s a d e born closed idle w = refused_walk (call.Cancel m) EINVAL c s refl idle w
  cancel_walk m false true barred c s a d e born closed idle w = refused_walk (call.Cancel m) ESRCH c s refl idle w
  cancel_walk m false false true c s a d e born closed idle w = refused_walk (call.Cancel m) EPERM c s refl idle w
  cancel_walk m false false false c s a d e born closed idle w =
      let it = named_by c s m born w a (not-false _ d) (or_none (m is main) _ e) in
      then_answer (call.Cancel m) (if is_asynchronous (or_nobody (thread s.control m)).cancel then canceled_by_other f (number m) else changes (sets (number m) (change.Request true))) c s refl
      (cancels_walk m (is_asynchronous (or_nobody (thread s.control m)).cancel) c s it.apart it.alive it.there closed idle w)

  -- pth_abort
  dropped_walk : (m : ℤ) (dead : Bool) (c : Book) (s : State P S H) → (m is t) ≡ false → is_known s.control m ≡ true → is_dead (or_nobody (thread s.control m)).state ≡ dead → s.control.threads.made ≡ n → c.block ≡ Closed → s.resources.awaits t ≡ false → Within c s → Walk n c GoesOn ((if dead then changes (removes (number m)) else aborted f (number m)) s)
  dropped_walk m false c s own known up born closed idle w = let it = named_by c s m born w own known up in aborted_walk (number m) c s it.apart it.alive it.there idle w
  dropped_walk m true c s own known dead born closed idle w =
      let gone = dead_lives (s.control.threads.known (number m)) (named_dead s.control m known dead) in
      record { law = tt; post = (closed, change_within (removes (number m)) s.resources.awaits c s (going_removed n c.ended t (number m) s.control gone w.going) (claims_removed (number m) s.control gone w.claims) (awaits_removed (flags c s.resources.awaits) (number m) s.control (awaits_none (flags c s.resources.awaits) s.control (number m) gone w.fits) w.fits) w, idle) }

  abort_walk : (m : ℤ) (own unknown barred : Bool) (c : Book) (s : State P S H) → (m is t) ≡ own → not (is_known s.control m) ≡ unknown → (m is main) ≡ barred → s.control.threads.made ≡ n → c.block ≡ Closed → s.resources.awaits t ≡ false → Within c s → let r = begun_as f t (call.Abort m) (refused EINVAL when own otherwise refused ESRCH when unknown otherwise refused EPERM when barred otherwise says 1 trying if is_dead (or_nobody (thread s.control m)).state then changes (removes (number m)) else aborted f (number m)) s in Walk n c (After r.next) r.told
  abort_walk m true unknown barred c s a d e born closed idle w = refused_walk (call.Abort m) EINVAL c s refl idle w
  abort_walk m false true barred c s a d e born closed idle w = refused_walk (call.Abort m) ESRCH c s refl idle w
  abort_walk m false false true c s a d e born closed idle w = refused_walk (call.Abort m) EPERM c s refl idle w
  abort_walk m false false false c s a d e born closed idle w =
      then_answer (call.Abort m) (if is_dead (or_nobody (thread s.control m)).state then changes (removes (number m)) else aborted f (number m)) c s refl
      (dropped_walk m (is_dead (or_nobody (thread s.control m)).state) c s a (not-false _ d) refl born closed idle w)

  -- a call begins
  begun_walk : (k : Call) (p : Progress S) (c : Book) (s : State P S H) → s.control.threads.made ≡ n → c.block ≡ Closed → s.control.threads.progress t ≡ Some p → p.blocked ≡ None → Within c s → Walk n c (After (begun f t k s).next) (begun f t k s).told
  unfolding begun row_of told
  begun_walk call.Plain p c s born closed on free w = record { law = tt; post = done_stepped answer.None c s closed w }
  begun_walk (call.Note v) p c s born closed on free w =
      let m = mark.Noted (tid t) v in
      let o = s.resources.awaits in
      walk_tells n (After (next.Done (answer.Int (pos 0)))) c m s (λ locked. (((within_up o c s w, within_uncanceled o c s (idle_in c s p on free w) w), tt), made)) (done_stepped (answer.Int (pos 0)) (after c m) (tells m s).state refl (told_within m c s refl refl w))
  begun_walk call.Kill p c s born closed on free w = kill_walk (not (t == main)) c s (idle_in c s p on free w) w
  begun_walk (call.Yield m) p c s born closed on free w = yield_walk m (not (is_zero m) && ((or_nobody (thread s.control m)).suspended || not (may_run (or_nobody (thread s.control m)).state))) c s refl (idle_in c s p on free w) w
  begun_walk (call.CleanupPop v) p c s born closed on free w = pop_walk v (last_pushed f s t) c s refl closed (idle_in c s p on free w) w
  begun_walk (call.Once o h v) p c s born closed on free w = once_walk o h v (not (is_below o once_limit)) (not (s.control.used (number o))) c s closed (idle_in c s p on free w) w
  begun_walk (call.Cancel m) p c s born closed on free w = cancel_walk m (m is t) (not (is_known s.control m)) (m is main || is_dead (or_nobody (thread s.control m)).state) c s refl refl refl born closed (idle_in c s p on free w) w
  begun_walk (call.Abort m) p c s born closed on free w = abort_walk m (m is t) (not (is_known s.control m)) (m is main) c s refl refl refl born closed (idle_in c s p on free w) w
  begun_walk call.CancelPoint p c s born closed on free w = point_walk (is_to_cancel (or_nobody (entry_of s.control t))) c s closed (idle_in c s p on free w) w
  begun_walk k p c s born closed on free w = common_walk k p c s refl refl closed on free w

  -- ---- a call is tried again

  abbrev is_blocking : Verdict → Bool
  is_blocking (Blocks p) = true
  is_blocking v = false

  going_stops : (ended : ℕ → Bool) (u : State P S H) → Going n ended t u.control → Going n ended t (stops_waiting t u.control)
  going_stops ended u going = subst (IsGoing n ended t) (sym (stops_seats t u.control)) going

  going_waits_on : (ended : ℕ → Bool) (o : Option Blocked) (u : State P S H) → Going n ended t u.control → Going n ended t (is_blocked_by t o u.control)
  unfolding goes_on
  going_waits_on ended o u going = going

  -- whom another call than a pth_cond_await blocks awaits nothing
  idle_by : (d : Blocked) (p : Progress S) (c : Book) (u : State P S H) → u.control.threads.progress t ≡ Some p → p.blocked ≡ Some d → is_await d.call ≡ false → Within c u → u.resources.awaits t ≡ false
  idle_by d p c u on blocked other w = (w.fits t).0.fits ∙ ap (λ z. is_awaiting (blocked_in z)) on ∙ ap is_awaiting blocked ∙ other

  answers_walk : (x : Next) (k : Call) (a : Answer) (c : Book) (u : State P S H) → IsPopOrderly c t k a × (kills k ≡ false) → IsAnswerExclusive c.resources t k a → (u.resources.awaits t ≡ true → is_await k ≡ true) → ((d : Book) (v : State P S H) → d.block ≡ Closed → Within d v → After x d v) → c.canceled t ≡ false → Within c u → Walk n c (After x) (answers f t k a u)
  unfolding told
  answers_walk x k a c u pop exclusive by leaves uncanceled w =
      let tells = answer_awaits u.resources t k a pop.1 by in
      let o = (answer_told u.resources t k a).awaits in
      let own : Tells (flags c o) t None = record { fits = tells.0; uncanceled = λ up. uncanceled; retakes = λ e. absurd (true≢false (sym e)) } in
      let y = answer_walk x k a c (controlled (stops_waiting t) u) (on_goes c.ended k a pop.1) pop.0 exclusive leaves uncanceled
      (change_within (stops_waiting t) o c u (going_stops c.ended u w.going) (claims_stop t u.control w.claims) (awaits_stop t (flags c u.resources.awaits) (flags c o) u.control own (others_await t (flags c u.resources.awaits) o tells.1) w.fits) w) in
      record { law = y.law; post = y.post }

  tried_walk : (d : Blocked) (v : Verdict) (p : Progress S) (c : Book) (u : State P S H) → (is_blocking v ≡ false → (a : Answer) → IsPopOrderly c t d.call a × (kills d.call ≡ false)) → IsVerdictExclusive c.resources t d.call v → is_await d.call ≡ false → is_retaking d.awaits ≡ false → ((y : Awaits) → v ≡ Blocks y → is_retaking y ≡ false) → c.block ≡ Closed → u.control.threads.progress t ≡ Some p → p.blocked ≡ Some d → Within c u
      → Walk n c (After (tried_by f t d v u).next) (tried_by f t d v u).told
  unfolding told
  tried_walk d v p c u pops exclusive other was plain closed on blocked w = by_verdict v pops exclusive plain
    where
      idle : u.resources.awaits t ≡ false
      idle = idle_by d p c u on blocked other w

      by : u.resources.awaits t ≡ true → is_await d.call ≡ true
      by awaits = absurd (true≢false (sym awaits ∙ idle))

      uncanceled : c.canceled t ≡ false
      uncanceled = within_uncanceled u.resources.awaits c u idle w

      by_verdict : (v : Verdict) → (is_blocking v ≡ false → (a : Answer) → IsPopOrderly c t d.call a × (kills d.call ≡ false)) → IsVerdictExclusive c.resources t d.call v → ((y : Awaits) → v ≡ Blocks y → is_retaking y ≡ false) → Walk n c (After (tried_by f t d v u).next) (tried_by f t d v u).told
      by_verdict (Says a) pops exclusive plain = answers_walk (next.Done a) d.call a c u (pops refl a) exclusive by (λ e s. done_stepped a e s) uncanceled w
      by_verdict (Yields a) pops exclusive plain = answers_walk (next.Yields a) d.call a c u (pops refl a) exclusive by (λ e s. yields_stepped a e s) uncanceled w
      by_verdict (Blocks y) pops exclusive plain =
          let now : Blocked = record d { awaits = y } in
          let g : Change P S H = is_blocked_by t (Some now) in
          let tells = wait_awaits u.resources t d.call by in
          let o = (wait_told u.resources t d.call).awaits in
          let own : Tells (flags c o) t (Some now) = record { fits = tells.0; uncanceled = λ up. uncanceled ∙ sym (canceled_retakes y (plain y refl)); retakes = λ e. absurd (true≢false (sym e ∙ plain y refl)) } in
          let x = wait_walk d.call c (controlled g u) exclusive uncanceled
          (change_within g o c u (going_waits_on c.ended (Some now) u w.going) (claims_wait_on t d y u.control p on blocked was (plain y refl) w.claims)
          (awaits_block t (flags c u.resources.awaits) (flags c o) (Some now) u.control p on own (λ awaiting. going_alive n c.ended t u.control w.going) (others_await t (flags c u.resources.awaits) o tells.1) w.fits) w) in
          record { law = x.law; post = x.post }
      by_verdict (Ends v) pops exclusive plain = end_walk v c u (fresh_by t c.block closed) idle w
      by_verdict Kills pops exclusive plain = answers_walk next.Killed d.call (answer.Int (pos 1)) c u (pops refl (answer.Int (pos 1))) exclusive by (λ e s h x. tt) uncanceled w

  -- a pop and a kill never wait, and would wait on
  again_pops : (s : State P S H) (d : Awaits) (c : Book) (k : Call) → is_blocking (unless_settled (has_settled s.control.events (ring_given k)) ((row_of f s t k).again d)).verdict ≡ false → (a : Answer) → IsPopOrderly c t k a × (kills k ≡ false)
  unfolding row_of
  again_pops s d c (call.CleanupPop v) h a = absurd (true≢false h)
  again_pops s d c call.Kill h a = absurd (true≢false h)
  again_pops s d c k h a = (tt, refl)

  come_silent : (s : State P S H) (k : Call) (d : Awaits) (come : Bool) → IsSilent (effect_of (unless_settled come ((row_of f s t k).again d))) s
  come_silent s k d false = unless_silent (refuses ((row_of f s t k).again d).verdict) ((row_of f s t k).again d).effect s (again_silent f t s k d)
  come_silent s k d true = unless_silent (refuses (interrupted ((row_of f s t k).again d).verdict)) ((row_of f s t k).again d).effect s (again_silent f t s k d)

  -- nothing blocks t, and nothing is done
  idle_walk : (c : Book) (s : State P S H) → c.block ≡ Closed → Within c s → Walk n c (After (tried_again_by f t None s).next) (tried_again_by f t None s).told
  idle_walk c s closed w = record { law = tt; post = within_stepped next.Blocks c s closed (left_running c s w) tt w }

  tried_again_walk : (d : Blocked) (p : Progress S) (c : Book) (s : State P S H) → is_await d.call ≡ false → c.block ≡ Closed → s.control.threads.progress t ≡ Some p → p.blocked ≡ Some d → Within c s → Walk n c (After (tried_again_by f t (Some d) s).next) (tried_again_by f t (Some d) s).told
  tried_again_walk d p c s other closed on blocked w =
      let come = has_settled s.control.events (ring_given d.call) in
      let a = unless_settled come ((row_of f s t d.call).again d.awaits) in
      let at : blocked_of s.control t ≡ Some d = ap blocked_in on ∙ blocked in
      let was : is_retaking d.awaits ≡ false = ap (λ o. is_retaking (awaits_in o)) (sym at) ∙ tells_plain (flags c s.resources.awaits) t (blocked_of s.control t) (idle_by d p c s on blocked other w) (w.fits t).0 in
      let exclusive : IsVerdictExclusive c.resources t d.call a.verdict = subst (λ (r : Resources). IsVerdictExclusive r t d.call a.verdict) (sym w.resources) (again_exclusive f s t d.call d.awaits come other) in
      let holding = come_keeps f t (Holding n c.ended (flags c s.resources.awaits) t (Some p)) (holding_kept n c.ended (flags c s.resources.awaits) t (Some p) f) s d.call d.awaits come (w.going, w.claims, on, w.fits) in
      walk_finally n (Quiet (Some p) c) (After (tried_by f t d a.verdict (effect_of a s).state).next) c (effect_of a) (tried_by f t d a.verdict) s
      (quiet_within (Some p) (effect_of a) c s (come_silent s d.call d.awaits come) holding w)
      (λ e h. subst (λ (z : Book). Walk n z (After (tried_by f t d a.verdict (effect_of a s).state).next) (tried_by f t d a.verdict (effect_of a s).state).told) (sym h.0)
      (tried_walk d a.verdict p c (effect_of a s).state (again_pops s d.awaits c d.call) exclusive other was (λ y blocks. again_plainly f s t d.call d.awaits come y was blocks) closed h.2 blocked h.1))

  -- ---- a step

  stepped_within : (x : Stepped S H) (c : Book) (s : State P S H) → Within c s → Within c (controlled (stepping t x) s)
  unfolding goes_on
  stepped_within x c s w =
      let g : Progress S → Progress S = λ p. record p { state = x.state; owed = answer.None } in
      let k = record s.control { shared = x.shared } in
      record { resources = w.resources; going = w.going; claims = claims_go t g k (λ p. refl) w.claims; fits = awaits_go (flags c s.resources.awaits) t g k (λ p. refl) w.fits }

  stepped_made : (x : Stepped S H) (k : Control P S H) → (stepping t x k).threads.made ≡ k.threads.made
  unfolding goes_on
  stepped_made x k = refl

  stepped_progress : (x : Stepped S H) (k : Control P S H) (p : Progress S) → k.threads.progress t ≡ Some p → (stepping t x k).threads.progress t ≡ Some (record p { state = x.state; owed = answer.None })
  unfolding goes_on
  stepped_progress x k p on = put_here k.threads.progress t _ ∙ ap (option_map (λ (y : Progress S). record y { state = x.state; owed = answer.None })) on

  -- a call that blocks t is tried again, or t is canceled in it
  blocked_walk : (now : Bool) (d : Blocked) (p : Progress S) (c : Book) (s : State P S H) → is_await d.call ≡ false → c.block ≡ Closed → s.control.threads.progress t ≡ Some p → p.blocked ≡ Some d → Within c s → Walk n c (After (gone_on_where f t now s).next) (gone_on_where f t now s).told
  unfolding tried_again
  blocked_walk true d p c s other closed on blocked w = subst (λ (o : Option Blocked). Walk n c (After (canceled_by f t o s).next) (canceled_by f t o s).told) (sym (ap blocked_in on ∙ blocked)) (canceled_walk d.call c s w)
  blocked_walk false d p c s other closed on blocked w = subst (λ (o : Option Blocked). Walk n c (After (tried_again_by f t o s).next) (tried_again_by f t o s).told) (sym (ap blocked_in on ∙ blocked)) (tried_again_walk d p c s other closed on blocked w)

  -- ---- a wait at a condition goes on

  -- no call blocks t any longer, of which nothing is told yet
  abbrev Stopped : Book → State P S H → Type 0
  Stopped c u = IsLeaving n t c (put u.resources.awaits t false) u

  stopped_leaving : (c : Book) (s : State P S H) → IsLeaving n t c s.resources.awaits s → Stopped c (controlled (stops_waiting t) s)
  stopped_leaving c s w =
      let past = flags_past t c s.resources.awaits in
      let now = flags_past t c (put s.resources.awaits t false) in
      let own : Tells now t None = record { fits = put_here s.resources.awaits t false; uncanceled = λ up. absurd (true≢false (sym (put_here c.ended t true) ∙ up)); retakes = λ e. absurd (true≢false (sym e)) } in
      record {
        resources = w.resources;
        going = going_stops c.ended s w.going;
        claims = claims_stop t s.control w.claims;
        fits = awaits_stop t past now s.control own (others_await t past now.awaits (λ i apart. put_other s.resources.awaits t false i apart)) w.fits;
      }

  -- of the others the same is told
  stopped_others : (c : Book) (u : State P S H) (o : ℕ → Bool) → ((i : ℕ) → i ≢ t → o i ≡ u.resources.awaits i) → AreSameBut t (flags c o) (flags_past t c (put u.resources.awaits t false))
  stopped_others c u o same i apart = record { awaits = same i apart ∙ sym (put_other u.resources.awaits t false i apart); ended = sym (put_other c.ended t true i apart); canceled = refl }

  leaving_up : (o : ℕ → Bool) (c : Book) (u : State P S H) → IsLeaving n t c o u → c.ended t ≡ false
  leaving_up o c u w = living-up n c.ended u.control.threads.made u.control.threads.known u.control.threads.standing w.going.living t (going_alive n c.ended t u.control w.going)

  -- t has its mutex again
  retaken_walk : (q m e : ℤ) (o : Retake) (c : Book) (u : State P S H) → can_take u t m ≡ true → c.canceled t ≡ is_canceled (awaits.Retaking m o) → blocked_of u.control t ≡ None → Stopped c u
      → Walk n c (After (retaken_as f t (call.CondAwait q m e) m o u).next) (retaken_as f t (call.CondAwait q m e) m o u).told
  unfolding told
  retaken_walk q m e o c u can uncanceled free w = by_reason o uncanceled
    where
      k : Call
      k = call.CondAwait q m e

      may : MayTake c.resources t (object_named m)
      may = subst (λ (r : Resources). MayTake r t (object_named m)) (sym w.resources) (may_take u.resources t m can)

      answered : (a : Answer) → c.canceled t ≡ false → Walk n c (After (next.Done a)) (tells (mark.Answered (tid t) k a) u)
      answered a uncanceled =
          let tells = answer_awaits u.resources t k a refl (λ by. refl) in
          let o = (answer_told u.resources t k a).awaits in
          let own : Tells (flags c o) t None = record { fits = tells.0; uncanceled = λ up. uncanceled; retakes = λ e. absurd (true≢false (sym e)) } in
          answer_walk (next.Done a) k a c u refl tt (λ by. may) (λ d s. done_stepped a d s) uncanceled (record {
            resources = w.resources;
            going = w.going;
            claims = w.claims;
            fits = awaits_own t (flags_past t c (put u.resources.awaits t false)) (flags c o) u.control (subst (Tells (flags c o) t) (sym free) own) (λ awaits. absurd (true≢false (sym awaits ∙ tells.0))) (stopped_others c u o tells.1) w.fits;
          })

      by_reason : (o : Retake) → c.canceled t ≡ is_canceled (awaits.Retaking m o) → Walk n c (After (retaken_as f t k m o u).next) (retaken_as f t k m o u).told
      by_reason retake.Notified uncanceled = answered (answer.Int (pos 1)) uncanceled
      by_reason retake.Interrupted uncanceled = answered (answer.Fail EINTR) uncanceled
      by_reason retake.Canceled uncanceled =
          let x = mark.Took (tid t) (object_named m) in
          let d = after c x in
          let y = last_walk canceled_value d (tells x u).state (fresh_by t d.block refl) (λ h. refl) (record { resources = ap (λ (r : Resources). told r x) w.resources; going = w.going; claims = w.claims; fits = w.fits }) in
          record { law = ((λ locked. (((leaving_up (put u.resources.awaits t false) c u w, tt), may), made)), y.law); post = y.post }

  -- or it waits for it
  retakes_walk : (q m e : ℤ) (o : Retake) (can : Bool) (p : Progress S) (c : Book) (u : State P S H) → can_take u t m ≡ can → c.canceled t ≡ is_canceled (awaits.Retaking m o) → u.resources.awaits t ≡ true → u.control.threads.progress t ≡ Some p → p.blocked ≡ None → Stopped c u
      → Walk n c (After (retakes_where f t can (call.CondAwait q m e) m o u).next) (retakes_where f t can (call.CondAwait q m e) m o u).told
  unfolding told
  retakes_walk q m e o true p c u can uncanceled awaiting on free w = retaken_walk q m e o c u can uncanceled (ap blocked_in on ∙ free) w
  retakes_walk q m e o false p c u can uncanceled awaiting on free w = waits_walk
    where
      k : Call
      k = call.CondAwait q m e

      now : Blocked
      now = record { call = k; awaits = awaits.Retaking m o }

      v : State P S H
      v = controlled (is_blocked_by t (Some now)) u

      own : Tells (flags c u.resources.awaits) t (Some now)
      own = record { fits = awaiting; uncanceled = λ up. uncanceled; retakes = λ e. refl }

      within : IsWithin n t c u.resources.awaits v
      within = record {
        resources = w.resources;
        going = going_waits_on c.ended (Some now) u w.going;
        claims = claims_still t (Some now) u.control p on (ap event_held free) w.claims;
        fits = awaits_block t (flags_past t c (put u.resources.awaits t false)) (flags c u.resources.awaits) (Some now) u.control p on own (λ awaits. going_alive n c.ended t u.control w.going) (stopped_others c u u.resources.awaits (λ i apart. refl)) w.fits;
      }

      waits_walk : Walk n c (After next.Blocks) ((changes (is_blocked_by t (Some now)) and_then tells (mark.Retakes (tid t) k)) u)
      waits_walk =
          let x = mark.Retakes (tid t) k in
          let d = after c x in
          let y = told_within x c v refl refl within in
          record { law = ((λ locked. (((leaving_up (put u.resources.awaits t false) c u w, tt), tt), made)), tt); post = within_stepped next.Blocks d (tells x v).state refl (left_running d (tells x v).state y) tt y }

  -- the wait is over, once its seat is left
  ends_walk : (q m e : ℤ) (o : Retake) (p : Progress S) (c : Book) (s : State P S H) → c.canceled t ≡ is_canceled (awaits.Retaking m o) → s.resources.awaits t ≡ true → s.control.threads.progress t ≡ Some p → IsLeaving n t c s.resources.awaits s
      → let u = controlled (stops_waiting t) s in Walk n c (After (retakes f t (call.CondAwait q m e) m o u).next) (retakes f t (call.CondAwait q m e) m o u).told
  ends_walk q m e o p c s uncanceled awaiting on w =
      let u = controlled (stops_waiting t) s in
      retakes_walk q m e o (can_take u t m) (blocking None p) c u refl uncanceled awaiting (stopped_progress t s.control p on) refl (stopped_leaving c s w)

  -- t waits on
  waits_on_walk : (q m e : ℤ) (c : Book) (s : State P S H) → s.resources.awaits t ≡ true → c.canceled t ≡ false → Within c s → Walk n c (After next.Blocks) (tells (mark.Waits (tid t) (call.CondAwait q m e)) s)
  unfolding told
  waits_on_walk q m e c s awaiting uncanceled w =
      let k = call.CondAwait q m e in
      let tells = wait_awaits s.resources t k (λ by. refl) in
      let o = (wait_told s.resources t k).awaits in
      wait_walk k c s (λ idle. absurd (true≢false (sym (ap (λ (r : Resources). r.awaits t) w.resources ∙ awaiting) ∙ idle))) uncanceled (record {
        resources = w.resources;
        going = w.going;
        claims = w.claims;
        fits = awaits_own t (flags c s.resources.awaits) (flags c o) s.control (tells_again c s o (tells.0 ∙ sym awaiting) (w.fits t).0) (λ on. going_alive n c.ended t s.control w.going) (others_await t (flags c s.resources.awaits) o tells.1) w.fits;
      })
    where
      tells_again : (c : Book) (s : State P S H) (o : ℕ → Bool) → o t ≡ s.resources.awaits t → Tells (flags c s.resources.awaits) t (blocked_of s.control t) → Tells (flags c o) t (blocked_of s.control t)
      tells_again c s o same h = record { fits = same ∙ h.fits; uncanceled = h.uncanceled; retakes = h.retakes }

  left_leaving : (q : ℤ) (c : Book) (s : State P S H) → IsLeaving n t c s.resources.awaits s → IsLeaving n t c s.resources.awaits (controlled (leaves_seat t (awaits.Notice q)) s)
  unfolding leaves_seat
  left_leaving q c s w = record { resources = w.resources; going = w.going; claims = w.claims; fits = w.fits }

  handed_leaving : (q m e : ℤ) (c : Book) (s : State P S H) → IsLeaving n t c s.resources.awaits s → IsLeaving n t c s.resources.awaits (controlled (hands_on_seats t (record { what = awaits.Notice q; ring = extra_ring e })) s)
  unfolding hands_on_seat
  handed_leaving q m e c s w = record { resources = w.resources; going = w.going; claims = w.claims; fits = w.fits }

  left_progress : (q : ℤ) (k : Control P S H) → (leaves_seat t (awaits.Notice q) k).threads ≡ k.threads
  unfolding leaves_seat
  left_progress q k = refl

  handed_progress : (q m e : ℤ) (k : Control P S H) → (hands_on_seats t (record { what = awaits.Notice q; ring = extra_ring e }) k).threads ≡ k.threads
  unfolding hands_on_seat
  handed_progress q m e k = refl

  requested_progress : (k : Control P S H) → (sets t (change.Request false) k).threads.progress ≡ k.threads.progress
  unfolding sets
  requested_progress k = refl

  awaits_where_walk : (asked noticed settled : Bool) (q m e : ℤ) (p : Progress S) (c : Book) (s : State P S H) → s.resources.awaits t ≡ true → c.canceled t ≡ false → s.control.threads.progress t ≡ Some p → Within c s
      → let k = call.CondAwait q m e in Walk n c (After (awaits_on_where f t asked noticed settled k q m s).next) (awaits_on_where f t asked noticed settled k q m s).told
  unfolding told
  awaits_where_walk true noticed settled q m e p c s awaiting uncanceled on w =
      let k = call.CondAwait q m e in
      let x = mark.Canceled (tid t) (Some k) in
      let d = after c x in
      let s1 = (takes_request t k s).state in
      let s2 = controlled (hands_on_seats t (record { what = awaits.Notice q; ring = ring_given k })) s1 in
      let on2 = ap (λ (y : Threads S). y.progress t) (handed_progress q m e s1.control) ∙ ap (λ (y : ℕ → Option (Progress S)). y t) (requested_progress s.control) ∙ on in
      let r : IsLeaving n t d s1.resources.awaits s1 = let z = requested c s (Some k) w in record { resources = z.resources; going = z.going; claims = z.claims; fits = z.fits } in
      let y = ends_walk q m e retake.Canceled p d s2 (put_here c.canceled t true) awaiting on2 (handed_leaving q m e d s1 r) in
      record { law = ((λ locked. (((within_up s.resources.awaits c s w, tt), tt), made)), y.law); post = y.post }
  awaits_where_walk false true settled q m e p c s awaiting uncanceled on w =
      let s2 = controlled (leaves_seat t (awaits.Notice q)) s in
      let y = ends_walk q m e retake.Notified p c s2 uncanceled awaiting (ap (λ (y : Threads S). y.progress t) (left_progress q s.control) ∙ on) (left_leaving q c s (leaving s.resources.awaits c s w)) in
      record { law = y.law; post = y.post }
  awaits_where_walk false false true q m e p c s awaiting uncanceled on w =
      let s2 = controlled (leaves_seat t (awaits.Notice q)) s in
      let y = ends_walk q m e retake.Interrupted p c s2 uncanceled awaiting (ap (λ (y : Threads S). y.progress t) (left_progress q s.control) ∙ on) (left_leaving q c s (leaving s.resources.awaits c s w)) in
      record { law = y.law; post = y.post }
  awaits_where_walk false false false q m e p c s awaiting uncanceled on w = waits_on_walk q m e c s awaiting uncanceled w

  await_walk : (q m e : ℤ) (a : Awaits) (p : Progress S) (c : Book) (s : State P S H) → s.control.threads.progress t ≡ Some p → p.blocked ≡ Some (record { call = call.CondAwait q m e; awaits = a }) → Within c s → Walk n c (After (awaits_on f t q m e a s).next) (awaits_on f t q m e a s).told
  await_walk q m e a p c s on blocked w = by_awaits a told_here
    where
      told_here : Tells (flags c s.resources.awaits) t (Some (record { call = call.CondAwait q m e; awaits = a }))
      told_here = subst (Tells (flags c s.resources.awaits) t) (ap blocked_in on ∙ blocked) (w.fits t).0

      up : c.ended t ≡ false
      up = within_up s.resources.awaits c s w

      by_awaits : (a : Awaits) → Tells (flags c s.resources.awaits) t (Some (record { call = call.CondAwait q m e; awaits = a })) → Walk n c (After (awaits_on f t q m e a s).next) (awaits_on f t q m e a s).told
      by_awaits (awaits.Retaking i o) h =
          let y = ends_walk q m e o p c s (h.uncanceled up ∙ same_reason o) h.fits on (leaving s.resources.awaits c s w) in
          record { law = y.law; post = y.post }
        where
          same_reason : (o : Retake) → is_canceled (awaits.Retaking i o) ≡ is_canceled (awaits.Retaking m o)
          same_reason retake.Canceled = refl
          same_reason o = refl
      by_awaits b h =
          awaits_where_walk (may_be_canceled s.control t) (is_noticed s t q) (has_settled s.control.events (extra_ring e)) q m e p c s h.fits (h.uncanceled up ∙ canceled_retakes b refl) on w

  -- whatever call it is
  gone_on_walk : (k : Call) (a : Awaits) (p : Progress S) (c : Book) (s : State P S H) → c.block ≡ Closed → s.control.threads.progress t ≡ Some p → p.blocked ≡ Some (record { call = k; awaits = a }) → Within c s → Walk n c (After (gone_on_in f t k a s).next) (gone_on_in f t k a s).told
  gone_on_walk (call.CondAwait q m e) a p c s closed on blocked w = await_walk q m e a p c s on blocked w
  gone_on_walk k a p c s closed on blocked w = blocked_walk (may_be_canceled s.control t) (record { call = k; awaits = a }) p c s refl closed on blocked w

  by_walk : (q : Option (Progress S)) (c : Book) (s : State P S H) → s.control.threads.made ≡ n → c.block ≡ Closed → s.control.threads.progress t ≡ q → Within c s → Walk n c (After (steps_by f t (blocked_in q) q s).next) (steps_by f t (blocked_in q) q s).told
  unfolding gone_on
  by_walk None c s born closed on w = subst (λ (o : Option Blocked). Walk n c (After (gone_on_by f t o s).next) (gone_on_by f t o s).told) (sym (ap blocked_in on)) (idle_walk c s closed w)
  by_walk (Some p) c s born closed on w = by_blocked p.blocked refl
    where
      by_blocked : (o : Option Blocked) → p.blocked ≡ o → Walk n c (After (steps_by f t o (Some p) s).next) (steps_by f t o (Some p) s).told
      by_blocked (Some d) blocked = subst (λ (o : Option Blocked). Walk n c (After (gone_on_by f t o s).next) (gone_on_by f t o s).told) (sym (ap blocked_in on ∙ blocked)) (gone_on_walk d.call d.awaits p c s closed on blocked w)
      by_blocked None free =
          let x = (f s.control.program).step p.state s.control.shared p.owed in
          let y = begun_walk x.call (record p { state = x.state; owed = answer.None }) c (controlled (stepping t x) s) (stepped_made x s.control ∙ born) closed (stepped_progress x s.control p on) free (stepped_within x c s w) in
          record { law = y.law; post = y.post }

  pub step_walk : (c : Book) (s : State P S H) → s.control.threads.made ≡ n → c.block ≡ Closed → Within c s → Walk n c (After (steps_on f t s).next) (steps_on f t s).told
  step_walk c s born closed w = by_walk (s.control.threads.progress t) c s born closed refl w
