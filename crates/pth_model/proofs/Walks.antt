-- What calls keep of the control, by the changes of which they are made.
use Rattle.std.proofs.Common.{◌≡◌, ◌≢◌, ◌==◌, ◌&&◌, ◌||◌, not, ℕ, ℤ, pos, negsuc, Bool, true, false, if◌then◌else◌, Option, Some, None, is_some, option_map, length, refl, sym, subst, ap, ◌∙◌, zero, suc, ◌+◌, ◌*◌, List, [], ◌∷◌, ◌⊎◌, inl, inr}
use Rattle.pth_model.proofs.NoRounds.{again_plainly, begins_plainly}
use Rattle.pth_model.specs.Conditions.{can_take, is_noticed, leaves_seat, hands_on_seat, hands_on_seats}
use Rattle.pth_model.specs.declared.awaits.Retake.{Retake}
use Rattle.pth_model.specs.declared.awaits.Retake.TheVariants as retake
use Rattle.std.proofs.lemmas.Bool.{not-false}
use Rattle.pth_base.specs.Program.{Functions}
use Rattle.pth_base.specs.declared.call.Call.{Call}
use Rattle.pth_base.specs.declared.call.Call.TheVariants as call
use Rattle.pth_base.specs.declared.errno.Errno.{Errno}
use Rattle.pth_base.specs.declared.errno.Errno.TheVariants.{EINVAL, ESRCH, EPERM}
use Rattle.pth_base.specs.declared.query.Query.{Query}
use Rattle.pth_base.specs.declared.query.Query.TheVariants as query
use Rattle.pth_base.specs.Table.{put}
use Rattle.pth_base.proofs.Tables.{same_fails, put_by, put_here}
use Rattle.pth_base.specs.declared.attr.AttrValue.{AttrValue}
use Rattle.pth_threads.specs.Attributes.{first_values, with_value, change_of}
use Rattle.pth_threads.specs.declared.attribute.Attribute.{Attribute}
use Rattle.pth_threads.specs.declared.attribute.Attribute.TheVariants.{Free, Bound}
use Rattle.pth_threads.specs.declared.entry.Change.{Change}
use Rattle.pth_threads.specs.declared.entry.Entry.{Entry}
use Rattle.pth_threads.specs.declared.entry.NewThread.{NewThread}
use Rattle.pth_model.specs.declared.blocked.Blocked.{Blocked}
use Rattle.pth_model.specs.declared.awaits.Awaited.{Awaited}
use Rattle.pth_model.specs.declared.awaits.Awaits.{Awaits}
use Rattle.pth_model.specs.declared.awaits.Awaits.TheVariants.{Reading, Writing, Connection, Round, Notice, Retaking}
use Rattle.pth_model.specs.Io.{trial_for}
use Rattle.pth_model.specs.declared.progress.Progress.{Progress}
use Rattle.pth_model.specs.declared.next.Next.{Next}
use Rattle.pth_model.specs.declared.next.Next.TheVariants as next
use Rattle.pth_numbered.specs.Operands.{number, is_zero, ◌is◌}
use Rattle.pth_model.specs.declared.verdict.Verdict.{Verdict}
use Rattle.pth_model.specs.declared.verdict.Verdict.TheVariants.{Says, Yields, Blocks, Ends, Kills}
use Rattle.pth_model.specs.Verdict.{refused, says, by_result}
use Rattle.pth_numbered.specs.Clauses.{◌when◌otherwise◌}
use Rattle.pth_model.specs.State.{State, Control, Turn, main}
use Rattle.pth_model.specs.Transition.{Piece, Change as change_of_control, silent, nothing, changes, tells, tells_each, controlled, where_so, tid, ◌and_then◌, ◌and◌}
use Rattle.pth_model.specs.Changes.{shares, uses, goes_on, blocking, is_blocked_by, blocked_of, entry_of, or_nobody, owing, prefers, removes, favours_new, sets, adds_object, puts_object, with_barriers, with_events, with_kernel}
use Rattle.pth_model.specs.RingWaits.{awaited_in, claimant, claimant_by, claims, gives_back, stops_waiting, ring_given, ring_held, has_settled, extra_ring}
use Rattle.pth_model.specs.EventHandling.{spec_of, made_as, make_event, chain}
use Rattle.pth_base.specs.declared.event.EventSpec.{EventSpec}
use Rattle.pth_base.specs.declared.event.EvLine.{EvLine}
use Rattle.pth_kernel.specs.Kernel.{Kernel, Descriptor, fd_named, with_mode, is_fd_live, connections, earliest, connection_accepted}
use Rattle.pth_io.specs.Attempts.{read_answer, read_after, write_after, accept_after, taken_by}
use Rattle.pth_base.specs.declared.answer.Answer.{Answer}
use Rattle.pth_base.specs.declared.answer.Answer.TheVariants.{Bytes, Int}
use Rattle.pth_kernel.specs.Modes.{sets_mode}
use Rattle.pth_ring.specs.Ring.{each, ring_holds}
use Rattle.pth_ring.specs.Rings.{Events, pending, make_answer, chain_answer, alone, chained, freed, ring_freed}
use Rattle.pth_base.specs.declared.event.EvLine.TheVariants as line
use Rattle.pth_cond.specs.Conditions.{ConditionTable}
use Rattle.pth_cond.specs.Barriers.{BarrierTable, has_passed, round_answer, round_answered, waits_at, withdrawn}
use Rattle.pth_lock.specs.Objects.{object_named}
use Rattle.pth_model.specs.Awaits.{round_in, is_await, is_canceled, is_retaking}
use Rattle.pth_model.specs.Barriers.{tries_round, withdraws, withdraws_from}
use Rattle.pth_model.specs.Living.{is_dead}
use Rattle.pth_model.specs.Row.{unless_refused, refuses, effect_of, ◌trying◌}
use Rattle.pth_model.specs.ThreadControl.{thread, is_known, may_run, spawns, values_for, or_first, suspends, resumes, suspend, resume, to_join, takes_joined}
use Rattle.pth_model.specs.LibraryControl.{ctrl, vanish_all_but}
use Rattle.pth_model.specs.AttributeHandling.{object, sets_field, sets_value}
use Rattle.pth_model.specs.Ending.{ending, undoes_wait, runs_cleanups, runs_destructors, gives_mutexes, gives_all, leaves, runs_each, destructs, destructs_by, next_destructor, round_limit, first_round}
use Rattle.pth_model.specs.declared.destructors.Due.{Due}
use Rattle.pth_model.specs.declared.destructors.DestructorRound.{DestructorRound}
use Rattle.pth_model.specs.Acts.{acts, acts_from, act_limit, row_of_act, goes_on_after, runs_handler}
use Rattle.pth_model.specs.Cleanups.{runs_pushed, last_pushed}
use Rattle.pth_model.specs.Resources.{handler}
use Rattle.pth_base.specs.declared.act.Act.{Act}
use Rattle.pth_base.specs.declared.act.Act.TheVariants as act
use Rattle.pth_base.specs.declared.ids.HandlerId.{HandlerId}
use Rattle.pth_store.specs.Cleanups.{PushedHandler}
use Rattle.pth_store.specs.Keys.{key_limit}
use Rattle.pth_model.specs.Rows.{row_of}
use Rattle.pth_model.specs.Calls.{begun, begun_by, gone_on, gone_on_where, canceled_by, tried_again, tried_again_by, tried_by, unless_settled, interrupted, retaken_as, retakes_where, ends_await, awaits_on_where, awaits_on, gone_on_in, gone_on_by}
use Rattle.pth_model.specs.Cancellation.{canceled_value, is_asynchronous, is_to_cancel, may_be_canceled, takes_request, canceled_by_other, aborted}
use Rattle.pth_base.specs.declared.mark.Mark.{Mark}
use Rattle.pth_base.specs.declared.mark.Mark.TheVariants as mark
use Rattle.pth_threads.specs.Threads.{changed}
use Rattle.pth_threads.specs.declared.entry.Change.TheVariants as change
use Rattle.pth_base.specs.declared.attr.AttrValue.TheVariants as value
use Rattle.pth_model.specs.Part.{steps, steps_by, steps_on, owes_after}

-- another thread than t, which is in the system
pub record IsOther {P S H : Type 0} (t u : ℕ) (k : Control P S H) : Type 0 where
  pub known : is_some (k.threads.known u) ≡ true
  pub apart : u ≢ t

-- another thread, which lives
pub record IsOtherAlive (t u : ℕ) (table : ℕ → Option Entry) : Type 0 where
  pub known : is_some (table u) ≡ true
  pub apart : u ≢ t
  pub alive : is_dead (or_nobody (table u)).state ≡ false

-- where a call is not refused by its first clause, the clause does not hold
passes : (e : Errno) (b : Bool) (v : Verdict) → refuses (refused e when b otherwise v) ≡ false → (b ≡ false) × (refuses v ≡ false)
passes e true v h = absurd (cc h)
passes e false v h = (refl, h)

neither : (a b : Bool) → (a || b) ≡ false → (a ≡ false) × (b ≡ false)
neither true b h = absurd (cc h)
neither false b h = (refl, h)

not_asked : {A : Type 0} → false ≡ true → A
not_asked e = absurd (cc e)

no_other : (a b : Bool) → (not false && (a || b)) ≡ false → b ≡ false
no_other a b h = (neither a b h).1

pub runs_some : (o : Option Entry) → may_run (or_nobody o).state ≡ true → is_some o ≡ true
runs_some (Some e) h = refl
runs_some None h = absurd (cc h)

module _ {P S H : Type 0} where
  pub named_other : (k : Control P S H) (n : ℤ) (t : ℕ) → is_known k n ≡ true → (n is t) ≡ false → IsOther t (number n) k
  named_other k (pos m) t known other = record { known = known; apart = same_fails m t other }
  named_other k (negsuc m) t known other = absurd (cc known)

  named_runs : (k : Control P S H) (n : ℤ) → may_run (or_nobody (thread k n)).state ≡ true → may_run (or_nobody (entry_of k (number n))).state ≡ true
  named_runs k (pos m) h = h
  named_runs k (negsuc m) h = absurd (cc h)

  suspend_other : (s : State P S H) (t : ℕ) (n : ℤ) → refuses (suspend s t n).begin.verdict ≡ false → IsOther t (number n) s.control
  suspend_other s t n h =
      let known = passes _ _ _ h in
      let other = passes _ _ _ known.1 in
      named_other s.control n t (not-false _ known.0) (neither (n is t) _ (neither _ _ other.0).0).0

  pub named_lives : (k : Control P S H) (n : ℤ) → is_known k n ≡ true → is_dead (or_nobody (thread k n)).state ≡ false → is_dead (or_nobody (entry_of k (number n))).state ≡ false
  named_lives k (pos m) known h = h
  named_lives k (negsuc m) known h = absurd (cc known)

  suspend_lives : (s : State P S H) (t : ℕ) (n : ℤ) → refuses (suspend s t n).begin.verdict ≡ false → is_dead (or_nobody (entry_of s.control (number n))).state ≡ false
  suspend_lives s t n h =
      let known = passes _ _ _ h in
      let other = passes _ _ _ known.1 in
      named_lives s.control n (not-false _ known.0) (neither (n is t) _ (neither _ _ other.0).0).1

  -- whom a cancel, or an abort, names
  cancel_other : (s : State P S H) (t : ℕ) (n : ℤ) (v : Verdict) → refuses (refused EINVAL when n is t otherwise refused ESRCH when not (is_known s.control n) otherwise v) ≡ false → IsOther t (number n) s.control × (is_known s.control n ≡ true) × (refuses v ≡ false)
  cancel_other s t n v h =
      let own = passes _ _ _ h in
      let known = passes _ _ _ own.1 in
      (named_other s.control n t (not-false _ known.0) own.0, not-false _ known.0, known.1)

  pub named_dead : (k : Control P S H) (n : ℤ) → is_known k n ≡ true → is_dead (or_nobody (thread k n)).state ≡ true → is_dead (or_nobody (entry_of k (number n))).state ≡ true
  named_dead k (pos m) known h = h
  named_dead k (negsuc m) known h = absurd (cc known)

  cancel_lives : (s : State P S H) (t : ℕ) (n : ℤ) → refuses (refused EPERM when n is main || is_dead (or_nobody (thread s.control n)).state otherwise says 1) ≡ false → is_known s.control n ≡ true → is_dead (or_nobody (entry_of s.control (number n))).state ≡ false
  cancel_lives s t n h known = named_lives s.control n known (neither (n is main) _ (passes _ _ _ h).0).1

  -- main is not asked to end
  cancel_apart : (s : State P S H) (n : ℤ) → refuses (refused EPERM when n is main || is_dead (or_nobody (thread s.control n)).state otherwise says 1) ≡ false → is_known s.control n ≡ true → number n ≢ main
  cancel_apart s (pos m) h known = same_fails m main (neither (pos m is main) _ (passes _ _ _ h).0).0
  cancel_apart s (negsuc m) h known = absurd (cc known)

  resume_other : (s : State P S H) (t : ℕ) (n : ℤ) → refuses (resume s t n).begin.verdict ≡ false → IsOther t (number n) s.control
  resume_other s t n h =
      let known = passes _ _ _ h in
      let other = passes _ _ _ known.1 in
      named_other s.control n t (not-false _ known.0) (neither (n is t) _ other.0).0

-- a kernel of which the descriptors alone are other ones
abbrev IsDescribed : Kernel → Kernel → Type 0
IsDescribed k l = (ds : ℕ → Descriptor) × (l ≡ record k { descriptors = ds })

taken_describes : (f : ℕ) (a : Option Answer) (k : Kernel) → IsDescribed k (taken_by f a k)
taken_describes f (Some (Bytes bytes)) k = (_, refl)
taken_describes f a k = (k.descriptors, refl)

accepted_describes : (f : ℕ) (g : Option ℕ) (k : Kernel) → IsDescribed k (connection_accepted f g k)
accepted_describes f None k = (k.descriptors, refl)
accepted_describes f (Some g) k = (_, refl)

accepts_describes : (b : Bool) (f : ℕ) (g : Option ℕ) (k : Kernel) → IsDescribed k (if b then connection_accepted f g k else k)
accepts_describes true f g k = accepted_describes f g k
accepts_describes false f g k = (k.descriptors, refl)

read_describes : (f : ℕ) (n : ℤ) (k : Kernel) → IsDescribed k (read_after f n k)
unfolding read_after
read_describes f n k = taken_describes f (read_answer k f n) k

write_describes : (f total done : ℕ) (k : Kernel) → IsDescribed k (write_after f total done k)
unfolding write_after
write_describes f total done k = (_, refl)

accept_describes : (f : ℕ) (k : Kernel) → IsDescribed k (accept_after f k)
unfolding accept_after
accept_describes f k = accepts_describes (is_fd_live k f) f (earliest (connections k f)) k

trial_describes : (a : Awaits) (k : Kernel) → IsDescribed k ((trial_for k a).after k)
trial_describes (Reading f n) k = read_describes (fd_named f) n k
trial_describes (Writing f total done) k = write_describes (fd_named f) total done k
trial_describes (Connection f) k = accept_describes (fd_named f) k
trial_describes a k = (k.descriptors, refl)

-- a change of events that no claim comes of
abbrev pub AddsNoClaim : Events → Events → Type 0
AddsNoClaim x y = (e u : ℕ) → claimant y e ≡ Some u → claimant x e ≡ Some u

no_claim : (u : ℕ) → None ≡ Some u → ⊥
no_claim u h = cc

new_unclaimed : (spec : EventSpec) (x : Events) (e u : ℕ) → claimant_by (put x.events (x.made + 1) (Some (pending spec)) e) ≡ Some u → claimant x e ≡ Some u
new_unclaimed spec x e u = put_by (λ o. claimant_by o ≡ Some u → claimant x e ≡ Some u) x.events (x.made + 1) (Some (pending spec)) e (λ here h. absurd (no_claim u h)) (λ other h. h)

each_unclaimed : (ring : List ℕ) (x : Events) (e u : ℕ) → claimant_by (each ring (λ _. None) x.events e) ≡ Some u → claimant x e ≡ Some u
unfolding each
each_unclaimed ring x e u h = by_member (ring_holds e ring) h
  where
    by_member : (b : Bool) → claimant_by (if b then None else x.events e) ≡ Some u → claimant x e ≡ Some u
    by_member true h = absurd (no_claim u h)
    by_member false h = h

freed_unclaimed : (all : Bool) (e : ℕ) (x : Events) → AddsNoClaim x ((if all then ring_freed e else freed e) x)
freed_unclaimed true e x i u = each_unclaimed (x.rings e) x i u
freed_unclaimed false e x i u = put_by (λ o. claimant_by o ≡ Some u → claimant x i ≡ Some u) x.events e None i (λ here h. absurd (no_claim u h)) (λ other h. h)

-- a mutex is taken back by another call than a pth_cond_await, or by one whose thread was canceled
abbrev pub retakes_oddly : Option Blocked → Bool
retakes_oddly None = false
retakes_oddly (Some b) = is_retaking b.awaits && (not (is_await b.call) || is_canceled b.awaits)

plain_even : (c : Call) (a : Awaits) → is_retaking a ≡ false → retakes_oddly (Some (record { call = c; awaits = a })) ≡ true → ⊥
plain_even c a plain odd = absurd (cc (sym (ap (λ (b : Bool). b && (not (is_await c) || is_canceled a)) plain) ∙ odd))

-- t may be canceled in the call that blocks it, or takes its mutex back so
abbrev pub IsToEnd : {P S H : Type 0} → ℕ → Control P S H → Type 0
IsToEnd t k = (may_be_canceled k t ≡ true) ⊎ (retakes_oddly (blocked_of k t) ≡ true)

-- what of a control is kept by what handlers change: the program's shared value, and the seats of conditions
pub record KeptByHandlers {P S H : Type 0} (Q : Control P S H → Type 0) : Type 0 where
  pub shares : (h : H) (k : Control P S H) → Q k → Q (record k { shared = h })
  pub seated : (x : ConditionTable) (k : Control P S H) → Q k → Q (record k { conditions = x })

-- what of a control is kept by the changes that calls of thread t make, but for naming a thread, ending, and killing the run
pub record KeptByCalls {P S H : Type 0} (f : P → Functions S H) (t : ℕ) (Q : Control P S H → Type 0) : Type 0 where
  pub handlers : KeptByHandlers Q
  pub spawned : (b : ℕ) (v : ℤ) (of : NewThread) (k : Control P S H) → Q k → Q (spawns f b v of k)
  pub suspended : (u : ℕ) (k : Control P S H) → IsOther t u k → is_dead (or_nobody (entry_of k u)).state ≡ false → Q k → Q (suspends u k)
  pub resumed : (u : ℕ) (k : Control P S H) → IsOther t u k → Q k → Q (resumes u k)
  -- a join takes it
  pub removed : (n : ℤ) (u : ℕ) (k : Control P S H) → to_join k n ≡ Some u → Q k → Q (removes u k)
  pub favoured : (b : Bool) (k : Control P S H) → Q k → Q (favours_new b k)
  -- a value is set in it (pth_attr_set)
  pub changed : (v : AttrValue) (u : ℕ) (c : Change) (k : Control P S H) → change_of v ≡ Some c → Q k → Q (sets u c k)
  pub added : (x : Attribute) (k : Control P S H) → Q k → Q (adds_object x k)
  pub exchanged : (n : ℕ) (o : Option Attribute) (k : Control P S H) → Q k → Q (puts_object n o k)
  pub evented : (x : Events) (k : Control P S H) → AddsNoClaim k.events x → Q k → Q (record k { events = x })
  pub described : (ds : ℕ → Descriptor) (k : Control P S H) → Q k → Q (record k { kernel = record k.kernel { descriptors = ds } })
  pub barred : (x : BarrierTable) (k : Control P S H) → Q k → Q (record k { barriers = x })
  pub used : (o : ℕ → Bool) (k : Control P S H) → Q k → Q (record k { used = o })
  -- its end is asked for, which is not main, or no longer
  pub requested : (u : ℕ) (b : Bool) (k : Control P S H) → (b ≡ true → u ≢ main) → Q k → Q (sets u (change.Request b) k)

-- and by all that they change
pub record KeptBy {P S H : Type 0} (f : P → Functions S H) (t : ℕ) (Q : Control P S H → Type 0) : Type 0 where
  pub calls : KeptByCalls f t Q
  pub goes : (u : ℕ) (g : Progress S → Progress S) (k : Control P S H) → ((p : Progress S) → retakes_oddly (g p).blocked ≡ true → retakes_oddly p.blocked ≡ true) → Q k → Q (goes_on u g k)
  -- a call blocks t, or blocks it on; and oddly only if it did before, or t was to be canceled in it
  pub blocked : (b : Blocked) (j k : Control P S H) → (retakes_oddly (Some b) ≡ true → IsToEnd t j) → Q j → Q k → Q (is_blocked_by t (Some b) k)
  -- a ring is claimed, or given back
  pub claimed : (x : Events) (k : Control P S H) → Q k → Q (record k { events = x })
  pub preferred : (u : ℕ) (k : Control P S H) → may_run (or_nobody (entry_of k u)).state ≡ true → Q k → Q (prefers (Some u) k)
  pub left : (v : ℤ) (k : Control P S H) → Q k → Q (leaves t v k)
  -- another thread, which lives, ends in its turn, or a dead one is removed
  pub ended : (u : ℕ) (v : ℤ) (k : Control P S H) → IsOther t u k → is_dead (or_nobody (entry_of k u)).state ≡ false → Q k → Q (leaves u v k)
  pub dropped : (u : ℕ) (k : Control P S H) → IsOther t u k → is_dead (or_nobody (entry_of k u)).state ≡ true → Q k → Q (removes u k)
  pub vanished : (k : Control P S H) → Q k → Q (vanish_all_but t k)

-- whether a call neither names a thread, nor ends another, nor kills the run
abbrev pub is_common : Call → Bool
is_common call.Kill = false
is_common (call.Yield n) = false
is_common (call.Cancel n) = false
is_common (call.Abort n) = false
is_common c = true

-- ---- handlers, and what an ending runs

module _ {P S H : Type 0} (f : P → Functions S H) (t : ℕ) (Q : Control P S H → Type 0) (kept : KeptByHandlers Q) where
  abbrev Runs : Piece P S H → Type 0
  Runs a = (s : State P S H) → Q s.control → Q (a s).state.control

  then_keeps : (a b : Piece P S H) → Runs a → Runs b → Runs (a and_then b)
  then_keeps a b x y s q = y (a s).state (x s q)

  -- a call that changes nothing, refused or not
  nothing_keeps : (s : State P S H) (b : Bool) → Q s.control → Q (unless_refused b (changes nothing) s).state.control
  nothing_keeps s true q = q
  nothing_keeps s false q = q

  -- an act changes nothing of the control but seats
  act_keeps : (x : Act) → Runs (acts t x)
  unfolding acts
  act_keeps (act.Notify c v) s q = by_refusal (refuses (row_of_act s t (act.Notify c v)).begin.verdict)
    where
      by_refusal : (b : Bool) → Q (unless_refused b (row_of_act s t (act.Notify c v)).begin.effect s).state.control
      by_refusal true = q
      by_refusal false = kept.seated _ s.control q
  act_keeps (act.SetKey k v) s q = nothing_keeps s (refuses (row_of_act s t (act.SetKey k v)).begin.verdict) q
  act_keeps (act.Release m) s q = nothing_keeps s (refuses (row_of_act s t (act.Release m)).begin.verdict) q
  act_keeps (act.Put p v) s q = nothing_keeps s (refuses (row_of_act s t (act.Put p v)).begin.verdict) q
  act_keeps x s q = q

  look_keeps : (x : Option Act) (next : Piece P S H) → Runs next → Runs (goes_on_after t x next)
  look_keeps None next keeps s q = q
  look_keeps (Some x) next keeps s q = keeps (acts t x s).state (act_keeps x s q)

  acts_keep : (h : HandlerId) (v : ℤ) (n i : ℕ) → Runs (acts_from f t h v n i)
  unfolding acts_from
  acts_keep h v zero i s q = q
  acts_keep h v (suc n) i s q =
      let x = (f s.control.program).act h.0 v i s.control.shared in
      look_keeps x.act (acts_from f t h v n (i + 1)) (acts_keep h v n (i + 1)) (controlled (shares x.shared) s) (kept.shares x.shared s.control q)

  handler_keeps : (h : HandlerId) (v : ℤ) → Runs (runs_handler f t h v)
  handler_keeps h v s q = acts_keep h v (suc act_limit) 0 _ q

  each_keep : (cs : List PushedHandler) → Runs (runs_each f t cs)
  unfolding runs_each
  each_keep [] s q = q
  each_keep (c ∷ cs) s q = then_keeps (runs_handler f t c.0 c.1) (runs_each f t cs) (handler_keeps c.0 c.1) (each_keep cs) s q

  by_due_keep : (o : Option Due) (next : DestructorRound → Piece P S H) → ((r : DestructorRound) → Runs (next r)) → Runs (destructs_by f t o next)
  by_due_keep None next keeps s q = q
  by_due_keep (Some d) next keeps s q = keeps d.round _ (acts_keep d.handler d.value (suc act_limit) 0 _ q)

  destructs_keep : (n : ℕ) (r : DestructorRound) → Runs (destructs f t n r)
  unfolding destructs
  destructs_keep zero r s q = q
  destructs_keep (suc n) r s q = by_due_keep (next_destructor s.resources.store.keys t r) (destructs f t n) (destructs_keep n) s q

module _ {P S H : Type 0} (f : P → Functions S H) (t : ℕ) (Q : Control P S H → Type 0) (kept : KeptByCalls f t Q) where
  abbrev Keeps : Piece P S H → Type 0
  Keeps a = (s : State P S H) → Q s.control → Q (a s).state.control

  -- where this holds of the control at which the call is made
  abbrev KeepsAt : State P S H → Piece P S H → Type 0
  KeepsAt s a = Q s.control → Q (a s).state.control

  -- the handler that a pop or a once runs
  pops_keep : (o : Option PushedHandler) (b : Bool) → Keeps (where_so b (runs_pushed f t o))
  pops_keep o false s q = q
  pops_keep None true s q = q
  pops_keep (Some c) true s q = handler_keeps f t Q kept.handlers c.0 c.1 s q

  once_keeps : (o : ℕ) (h : HandlerId) (v : ℤ) (b : Bool) → Keeps (where_so b (changes (uses o) and_then runs_handler f t h v))
  once_keeps o h v false s q = q
  once_keeps o h v true s q = handler_keeps f t Q kept.handlers h v (controlled (uses o) s) (kept.used _ s.control q)

  unless_keeps : (s : State P S H) (b : Bool) (a : Piece P S H) → (b ≡ false → KeepsAt s a) → KeepsAt s (unless_refused b a)
  unless_keeps s true a keeps = λ q. q
  unless_keeps s false a keeps = keeps refl

  -- ---- a call begins

  ctrl_keeps : (s : State P S H) (x : Query) → KeepsAt s (ctrl s x).begin.effect
  ctrl_keeps s (query.Favournew n) q = kept.favoured (n is 1) s.control q
  ctrl_keeps s query.Threads q = q
  ctrl_keeps s x q = q

  -- a value is set in an object, or in a thread
  sets_keeps : (s : State P S H) (a : ℤ) (v : AttrValue) (o : Option Attribute) → KeepsAt s (changes (sets_value a v o))
  sets_keeps s a v None q = q
  sets_keeps s a v (Some (Free x)) q = kept.exchanged (number a) (Some (Free (with_value v x))) s.control q
  sets_keeps s a v (Some (Bound u)) q = by_field (change_of v) refl
    where
      by_field : (c : Option Change) → change_of v ≡ c → Q (sets_field u.0 c s.control)
      by_field None same = q
      by_field (Some c) same = kept.changed v u.0 c s.control same q

  made_keeps : (s : State P S H) (spec : Option EventSpec) (v : EventSpec → Verdict) (g : EventSpec → Events → Events) → ((x : EventSpec) → AddsNoClaim s.control.events (g x s.control.events)) → KeepsAt s (made_as spec v (λ x. with_events (g x))).begin.effect
  made_keeps s None v g none q = q
  made_keeps s (Some x) v g none q = kept.evented _ s.control (none x) q

  make_keeps : (s : State P S H) (l : EvLine) → KeepsAt s (make_event s l).begin.effect
  make_keeps s l = made_keeps s (spec_of l) (λ x. by_result says (make_answer s.control.events)) (λ x. alone x) (λ x. new_unclaimed x s.control.events)

  chain_keeps : (s : State P S H) (e : ℤ) (l : EvLine) → KeepsAt s (chain s e l).begin.effect
  chain_keeps s e l = made_keeps s (spec_of l) (λ x. by_result says (chain_answer s.control.events (number e))) (λ x. chained x (number e)) (λ x. new_unclaimed x s.control.events)

  modes_keep : (s : State P S H) (f : ℕ) (m : ℤ) → KeepsAt s (changes (with_kernel (sets_mode f m)))
  modes_keep s f (pos m) q = by_mode (m == 0)
    where
      by_mode : (b : Bool) → Q (record s.control { kernel = if b then s.control.kernel else with_mode f m s.control.kernel })
      by_mode true = q
      by_mode false = kept.described _ s.control q
  modes_keep s f (negsuc m) q = q

  -- a call that changes descriptors alone
  describes_keep : (s : State P S H) (g : Kernel → Kernel) → IsDescribed s.control.kernel (g s.control.kernel) → KeepsAt s (changes (with_kernel g))
  describes_keep s g d q = subst (λ (l : Kernel). Q (record s.control { kernel = l })) (sym d.1) (kept.described d.0 s.control q)

  trial_keeps : (s : State P S H) (a : Awaits) → KeepsAt s (changes (with_kernel (trial_for s.control.kernel a).after))
  trial_keeps s a = describes_keep s (trial_for s.control.kernel a).after (trial_describes a s.control.kernel)

  -- whether a join takes a thread or none
  joins_keeps : (s : State P S H) (n : ℤ) (o : Option ℕ) → to_join s.control n ≡ o → KeepsAt s (changes (takes_joined o))
  joins_keeps s n None same q = q
  joins_keeps s n (Some u) same q = kept.removed n u s.control same q

  -- t takes a request up, or sets its cancel state
  points_keep : (s : State P S H) (b : Bool) → KeepsAt s (where_so b (takes_request t call.CancelPoint))
  points_keep s false q = q
  points_keep s true q = kept.requested t false s.control (λ e. not_asked e) q

  states_keep : (s : State P S H) (n : ℤ) (b : Bool) → KeepsAt s (changes (if b then nothing else sets t (change.Cancel (number n))))
  states_keep s n true q = q
  states_keep s n false q = kept.changed (value.Cancel n) t (change.Cancel (number n)) s.control refl q

  -- what a call does, where it is not refused
  does_keeps : (s : State P S H) (c : Call) → is_common c ≡ true → refuses (row_of f s t c).begin.verdict ≡ false → KeepsAt s (row_of f s t c).begin.effect
  unfolding row_of
  does_keeps s call.Kill common e q = absurd (cc common)
  does_keeps s (call.Yield n) common e q = absurd (cc common)
  does_keeps s (call.Cancel n) common e q = absurd (cc common)
  does_keeps s (call.Abort n) common e q = absurd (cc common)
  does_keeps s call.CancelPoint common e q = points_keep s (is_to_cancel (or_nobody (entry_of s.control t))) q
  does_keeps s (call.CancelState n) common e q = states_keep s n (is_zero n) q
  does_keeps s (call.Ctrl x) common e q = ctrl_keeps s x q
  does_keeps s call.AttrNew common e q = kept.added (Free first_values) s.control q
  does_keeps s (call.AttrOf n) common e q = kept.added (Bound (tid (number n))) s.control q
  does_keeps s (call.AttrInit a) common e q = kept.exchanged (number a) (Some (Free first_values)) s.control q
  does_keeps s (call.AttrSet a v) common e q = sets_keeps s a v (object s.control a) q
  does_keeps s (call.AttrDestroy a) common e q = kept.exchanged (number a) None s.control q
  does_keeps s (call.Spawn b v a) common e q = kept.spawned (number b) v (or_first (values_for s.control t a)) s.control q
  does_keeps s (call.Suspend n) common e q = kept.suspended (number n) s.control (suspend_other s t n e) (suspend_lives s t n e) q
  does_keeps s (call.Resume n) common e q = kept.resumed (number n) s.control (resume_other s t n e) q
  does_keeps s (call.EvFd goals fd) common e q = make_keeps s (line.Fd goals fd) q
  does_keeps s (call.EvSelect r w x) common e q = make_keeps s (line.Select r w x) q
  does_keeps s (call.EvTime m) common e q = make_keeps s (line.Time m) q
  does_keeps s (call.EvMsg p) common e q = make_keeps s (line.Msg p) q
  does_keeps s (call.EvCond c) common e q = make_keeps s (line.Cond c) q
  does_keeps s (call.EvTid state n) common e q = make_keeps s (line.Tid state n) q
  does_keeps s (call.EvFunc c v l) common e q = make_keeps s (line.Func c v l) q
  does_keeps s (call.Chain n l) common e q = chain_keeps s n l q
  does_keeps s (call.EvConcat a b) common e q = kept.evented _ s.control (λ i u h. h) q
  does_keeps s (call.EvIsolate a) common e q = kept.evented _ s.control (λ i u h. h) q
  does_keeps s (call.EvFree a all) common e q = kept.evented _ s.control (freed_unclaimed all (number a) s.control.events) q
  does_keeps s (call.Fdmode d m) common e q = modes_keep s (fd_named d) m q
  does_keeps s (call.Read d n) common e q = trial_keeps s (Reading d n) q
  does_keeps s (call.ReadEv d n x) common e q = trial_keeps s (Reading d n) q
  does_keeps s (call.Write d bytes) common e q = trial_keeps s (Writing d (length bytes) 0) q
  does_keeps s (call.WriteEv d bytes x) common e q = trial_keeps s (Writing d (length bytes) 0) q
  does_keeps s (call.Accept d) common e q = trial_keeps s (Connection d) q
  does_keeps s (call.AcceptEv d x) common e q = trial_keeps s (Connection d) q
  does_keeps s (call.Close d) common e q = kept.described _ s.control q
  does_keeps s (call.CondInit c) common e q = kept.handlers.seated _ s.control q
  does_keeps s (call.CondNotify c v) common e q = kept.handlers.seated _ s.control q
  does_keeps s (call.CondAwait c m x) common e q = kept.handlers.seated _ s.control q
  does_keeps s (call.BarrierInit b n) common e q = kept.barred _ s.control q
  does_keeps s (call.BarrierReach b) common e q = kept.barred _ s.control q
  does_keeps s (call.Join n) common e q = joins_keeps s n (to_join s.control n) refl q
  does_keeps s (call.CleanupPop v) common e q = pops_keep (last_pushed f s t) (not (is_zero v)) s q
  does_keeps s (call.Once o h v) common e q = once_keeps (number o) (handler h) v (not (s.control.used (number o))) s q
  does_keeps s c common e q = q

  pub effect_keeps : (s : State P S H) (c : Call) → is_common c ≡ true → KeepsAt s (effect_of (row_of f s t c).begin)
  effect_keeps s c common = unless_keeps s (refuses (row_of f s t c).begin.verdict) (row_of f s t c).begin.effect (does_keeps s c common)

  -- ---- a call is tried again

  ctrl_again : (s : State P S H) (x : Query) (b : Awaits) → KeepsAt s ((ctrl s x).again b).effect
  ctrl_again s query.Threads b q = q
  ctrl_again s x b q = q

  made_again : (s : State P S H) (spec : Option EventSpec) (v : EventSpec → Verdict) (g : EventSpec → change_of_control P S H) (b : Awaits) → KeepsAt s ((made_as spec v g).again b).effect
  made_again s None v g b q = q
  made_again s (Some x) v g b q = q

  make_again : (s : State P S H) (l : EvLine) (b : Awaits) → KeepsAt s ((make_event s l).again b).effect
  make_again s l = made_again s (spec_of l) (λ x. by_result says (make_answer s.control.events)) (λ x. with_events (alone x))

  chain_again : (s : State P S H) (e : ℤ) (l : EvLine) (b : Awaits) → KeepsAt s ((chain s e l).again b).effect
  chain_again s e l = made_again s (spec_of l) (λ x. by_result says (chain_answer s.control.events (number e))) (λ x. with_events (chained x (number e)))

  -- t's round is tried again
  round_keeps : (s : State P S H) (b : ℤ) (round : ℕ) → KeepsAt s (tries_round s t b round).effect
  round_keeps s b round q = by_round (has_passed s.control.barriers b round)
    where
      by_round : (passed : Bool) → Q ((if passed then (Says (Int (round_answer s.control.barriers b round t)) trying changes (with_barriers (round_answered b round t))) else (Blocks (Round b round) trying silent)).effect s).state.control
      by_round true = kept.barred _ s.control q
      by_round false = q

  does_again : (s : State P S H) (c : Call) (b : Awaits) → KeepsAt s ((row_of f s t c).again b).effect
  unfolding row_of
  does_again s (call.Ctrl x) b q = ctrl_again s x b q
  does_again s (call.EvFd goals fd) b q = make_again s (line.Fd goals fd) b q
  does_again s (call.EvSelect r w x) b q = make_again s (line.Select r w x) b q
  does_again s (call.EvTime m) b q = make_again s (line.Time m) b q
  does_again s (call.EvMsg p) b q = make_again s (line.Msg p) b q
  does_again s (call.EvCond c) b q = make_again s (line.Cond c) b q
  does_again s (call.EvTid state n) b q = make_again s (line.Tid state n) b q
  does_again s (call.EvFunc c v l) b q = make_again s (line.Func c v l) b q
  does_again s (call.Chain n l) b q = chain_again s n l b q
  does_again s (call.Read d n) b q = trial_keeps s b q
  does_again s (call.ReadEv d n x) b q = trial_keeps s b q
  does_again s (call.Write d bytes) b q = trial_keeps s b q
  does_again s (call.WriteEv d bytes x) b q = trial_keeps s b q
  does_again s (call.Accept d) b q = trial_keeps s b q
  does_again s (call.AcceptEv d x) b q = trial_keeps s b q
  does_again s (call.Connect d) b q = trial_keeps s b q
  does_again s (call.ConnectEv d x) b q = trial_keeps s b q
  does_again s (call.Select r w x l) b q = trial_keeps s b q
  does_again s (call.SelectEv r w x l e) b q = trial_keeps s b q
  does_again s (call.BarrierReach c) b q = round_keeps s c (round_in b) q
  does_again s (call.Join n) b q = joins_keeps s n (to_join s.control n) refl q
  does_again s c b q = q

  again_keeps : (s : State P S H) (c : Call) (b : Awaits) → KeepsAt s (effect_of ((row_of f s t c).again b))
  again_keeps s c b = unless_keeps s (refuses ((row_of f s t c).again b).verdict) ((row_of f s t c).again b).effect (λ e q. does_again s c b q)

  pub come_keeps : (s : State P S H) (c : Call) (b : Awaits) (come : Bool) → KeepsAt s (effect_of (unless_settled come ((row_of f s t c).again b)))
  come_keeps s c b false q = again_keeps s c b q
  come_keeps s c b true q = unless_keeps s (refuses (interrupted ((row_of f s t c).again b).verdict)) ((row_of f s t c).again b).effect (λ e q. does_again s c b q) q

module _ {P S H : Type 0} (f : P → Functions S H) (t : ℕ) (Q : Control P S H → Type 0) (kept : KeptBy f t Q) where
  gives_back_keeps : (e : Option ℤ) (k : Control P S H) → Q k → Q (gives_back e k)
  unfolding gives_back
  gives_back_keeps None k q = q
  gives_back_keeps (Some e) k q = kept.claimed _ _ (kept.calls.handlers.seated _ k q)

  claims_keeps : (e : Option ℤ) (k : Control P S H) → Q k → Q (claims t e k)
  unfolding claims
  claims_keeps None k q = q
  claims_keeps (Some e) k q = kept.calls.handlers.seated _ _ (kept.claimed _ k q)

  stops_keeps : (u : ℕ) (k : Control P S H) → Q k → Q (stops_waiting u k)
  unfolding stops_waiting
  stops_keeps u k q = gives_back_keeps (ring_held (blocked_of k u)) _ (kept.goes u (blocking None) k (λ p odd. absurd (cc odd)) q)

  back_known : (e : Option ℤ) (k : Control P S H) → (gives_back e k).threads.known ≡ k.threads.known
  unfolding gives_back
  back_known None k = refl
  back_known (Some e) k = refl

  stops_known : (u : ℕ) (k : Control P S H) → (stops_waiting u k).threads.known ≡ k.threads.known
  unfolding stops_waiting goes_on
  stops_known u k = back_known (ring_held (blocked_of k u)) (is_blocked_by u None k)

  -- u's arrival at a barrier is taken back, if it waits there: no record changes
  where_barred : (b : Bool) (u : ℕ) (x : ℤ) (s : State P S H) → Q s.control → let k = (where_so b (changes (with_barriers (withdrawn x u)) and_then tells (mark.Withdrew (tid u) (object_named x))) s).state.control in Q k × (k.threads.known ≡ s.control.threads.known)
  where_barred true u x s q = (kept.calls.barred _ s.control q, refl)
  where_barred false u x s q = (q, refl)

  withdraws_keep : (u : ℕ) (a : Awaits) (s : State P S H) → Q s.control → let k = (withdraws_from u a s).state.control in Q k × (k.threads.known ≡ s.control.threads.known)
  unfolding withdraws_from withdraws
  withdraws_keep u (Round b round) s q = where_barred (waits_at s.control.barriers b u) u b s q
  withdraws_keep u a s q = (q, refl)

  -- its seat at a condition is left, or handed on
  leaves_seat_keeps : (u : ℕ) (a : Awaits) (k : Control P S H) → Q k → Q (leaves_seat u a k)
  unfolding leaves_seat
  leaves_seat_keeps u (Notice c) k q = kept.calls.handlers.seated _ k q
  leaves_seat_keeps u a k q = q

  hands_on_keeps : (u : ℕ) (a : Awaits) (k : Control P S H) → Q k → Q (hands_on_seat u a k) × ((hands_on_seat u a k).threads.known ≡ k.threads.known)
  unfolding hands_on_seat
  hands_on_keeps u (Notice c) k q = (kept.calls.handlers.seated _ k q, refl)
  hands_on_keeps u a k q = (q, refl)

  seats_keep : (u : ℕ) (a : Awaited) (k : Control P S H) → Q k → Q (hands_on_seats u a k) × ((hands_on_seats u a k).threads.known ≡ k.threads.known)
  seats_keep u a k q = let own = hands_on_keeps u a.what k q in (kept.calls.handlers.seated _ _ own.0, own.1)

  -- u's wait is undone
  undone_keeps : (u : ℕ) (s : State P S H) → Q s.control → let k = (undoes_wait u s).state.control in Q k × (k.threads.known ≡ s.control.threads.known)
  undone_keeps u s q =
      let a = awaited_in (blocked_of s.control u) in
      let k = (withdraws_from u a.what s).state.control in
      let withdrawn = withdraws_keep u a.what s q in
      let handed = seats_keep u a k withdrawn.0 in
      (stops_keeps u (hands_on_seats u a k) handed.0, stops_known u (hands_on_seats u a k) ∙ handed.1 ∙ withdrawn.1)

  -- what u has is given up: nothing of the control changes
  marks_given : (ms : List Mark) (s : State P S H) → (tells_each ms s).state.control ≡ s.control
  unfolding tells_each
  marks_given [] s = refl
  marks_given (m ∷ ms) s = marks_given ms (tells m s).state

  all_given : (u : ℕ) (s : State P S H) → (gives_all u s).state.control ≡ s.control
  all_given u s = marks_given _ (gives_mutexes u s).state ∙ marks_given _ s

  -- u's wait is undone, its handlers and destructors run, and what it has is given up: no record changes
  ran_keeps : (u : ℕ) (s : State P S H) → Q s.control → let k = ((undoes_wait u and_then runs_cleanups f u and_then runs_destructors f u and_then gives_all u) s).state.control in Q k × (k.threads.known ≡ s.control.threads.known)
  ran_keeps u s q =
      let R : Control P S H → Type 0 = λ k. Q k × (k.threads.known ≡ s.control.threads.known) in
      let handlers : KeptByHandlers R = record { shares = λ h k r. (kept.calls.handlers.shares h k r.0, r.1); seated = λ x k r. (kept.calls.handlers.seated x k r.0, r.1) } in
      subst R (sym (all_given u _)) (destructs_keep f u R handlers (round_limit * key_limit) first_round _ (each_keep f u R handlers ((undoes_wait u s).state.resources.store.cleanups u) _ (undone_keeps u s q)))

  ending_keeps : (v : ℤ) (s : State P S H) → Q s.control → Q (ending f t v s).state.control
  unfolding ending
  ending_keeps v s q = kept.left v _ (ran_keeps t s q).0

  other_ends_keeps : (u : ℕ) (v : ℤ) (s : State P S H) → IsOtherAlive t u s.control.threads.known → Q s.control → Q (ending f u v s).state.control
  unfolding ending
  other_ends_keeps u v s other q =
      let r = ran_keeps u s q in
      let after = subst (IsOtherAlive t u) (sym r.1) other in
      kept.ended u v _ (record { known = after.known; apart = after.apart }) after.alive r.0

  -- ---- a call begins

  yields_keeps : (s : State P S H) (n : ℤ) (b : Bool) → is_zero n ≡ b → (not b && ((or_nobody (thread s.control n)).suspended || not (may_run (or_nobody (thread s.control n)).state))) ≡ false → Q s.control → Q ((if b then nothing else prefers (Some (number n))) s.control)
  yields_keeps s n true e h q = q
  yields_keeps s n false e h q = kept.preferred (number n) s.control (named_runs s.control n (not-false _ (no_other _ _ h))) q

  -- another thread is canceled, or asked to end
  cancels_keep : (s : State P S H) (n : ℤ) → refuses (row_of f s t (call.Cancel n)).begin.verdict ≡ false → Q s.control → Q ((row_of f s t (call.Cancel n)).begin.effect s).state.control
  unfolding row_of
  cancels_keep s n h q =
      let other = cancel_other s t n _ h in
      by_state (is_asynchronous (or_nobody (thread s.control n)).cancel) (cancel_apart s n other.2 other.1) (record { known = other.0.known; apart = other.0.apart; alive = cancel_lives s t n other.2 other.1 })
    where
      by_state : (b : Bool) → number n ≢ main → IsOtherAlive t (number n) s.control.threads.known → Q ((if b then canceled_by_other f (number n) else changes (sets (number n) (change.Request true))) s).state.control
      by_state true apart other = other_ends_keeps (number n) canceled_value (tells (mark.Canceled (tid (number n)) None) s).state other q
      by_state false apart other = kept.calls.requested (number n) true s.control (λ e. apart) q

  set_alive : (u : ℕ) (c : Change) (known : ℕ → Option Entry) → ((e : Entry) → (changed c e).state ≡ e.state) → IsOtherAlive t u known → IsOtherAlive t u (put known u (option_map (changed c) (known u)))
  set_alive u c known same other = record {
    known = ap is_some (put_here known u (option_map (changed c) (known u))) ∙ by_some (known u) ∙ other.known;
    apart = other.apart;
    alive = ap (λ o. is_dead (or_nobody o).state) (put_here known u (option_map (changed c) (known u))) ∙ by_state (known u) ∙ other.alive;
  }
    where
      by_some : (o : Option Entry) → is_some (option_map (changed c) o) ≡ is_some o
      by_some None = refl
      by_some (Some e) = refl

      by_state : (o : Option Entry) → is_dead (or_nobody (option_map (changed c) o)).state ≡ is_dead (or_nobody o).state
      by_state None = refl
      by_state (Some e) = ap is_dead (same e)

  aborted_keeps : (u : ℕ) (s : State P S H) → IsOtherAlive t u s.control.threads.known → Q s.control → Q (aborted f u s).state.control
  unfolding sets changed
  aborted_keeps u s other q =
      let k = sets u (change.Joinable false) s.control in
      let j = sets u (change.Cancel 3) k in
      let one : Q k = kept.calls.changed (value.Joinable (pos 0)) u (change.Joinable false) s.control refl q in
      let two : Q j = kept.calls.changed (value.Cancel (pos 3)) u (change.Cancel 3) k refl one in
      other_ends_keeps u canceled_value _ (set_alive u (change.Cancel 3) k.threads.known (λ e. refl) (set_alive u (change.Joinable false) s.control.threads.known (λ e. refl) other)) two

  aborts_keep : (s : State P S H) (n : ℤ) → refuses (row_of f s t (call.Abort n)).begin.verdict ≡ false → Q s.control → Q ((row_of f s t (call.Abort n)).begin.effect s).state.control
  unfolding row_of
  aborts_keep s n h q =
      let other = cancel_other s t n _ h in
      by_death (is_dead (or_nobody (thread s.control n)).state) refl other.0 other.1
    where
      by_death : (b : Bool) → is_dead (or_nobody (thread s.control n)).state ≡ b → IsOther t (number n) s.control → is_known s.control n ≡ true → Q ((if b then changes (removes (number n)) else aborted f (number n)) s).state.control
      by_death true dead other known = kept.dropped (number n) s.control other (named_dead s.control n known dead) q
      by_death false up other known = aborted_keeps (number n) s (record { known = other.known; apart = other.apart; alive = named_lives s.control n known up }) q

  any_keeps : (s : State P S H) (c : Call) → Q s.control → Q (effect_of (row_of f s t c).begin s).state.control
  unfolding row_of
  any_keeps s call.Kill q = by_refusal (refuses (row_of f s t call.Kill).begin.verdict)
    where
      by_refusal : (b : Bool) → Q (unless_refused b (changes (vanish_all_but t)) s).state.control
      by_refusal true = q
      by_refusal false = kept.vanished s.control q
  any_keeps s (call.Yield n) q = by_refusal (refuses (row_of f s t (call.Yield n)).begin.verdict) refl
    where
      by_refusal : (b : Bool) → refuses (row_of f s t (call.Yield n)).begin.verdict ≡ b → Q (unless_refused b (row_of f s t (call.Yield n)).begin.effect s).state.control
      by_refusal true same = q
      by_refusal false same = yields_keeps s n (is_zero n) refl (passes _ _ _ same).0 q
  any_keeps s (call.Cancel n) q = by_refusal (refuses (row_of f s t (call.Cancel n)).begin.verdict) refl
    where
      by_refusal : (b : Bool) → refuses (row_of f s t (call.Cancel n)).begin.verdict ≡ b → Q (unless_refused b (row_of f s t (call.Cancel n)).begin.effect s).state.control
      by_refusal true same = q
      by_refusal false same = cancels_keep s n same q
  any_keeps s (call.Abort n) q = by_refusal (refuses (row_of f s t (call.Abort n)).begin.verdict) refl
    where
      by_refusal : (b : Bool) → refuses (row_of f s t (call.Abort n)).begin.verdict ≡ b → Q (unless_refused b (row_of f s t (call.Abort n)).begin.effect s).state.control
      by_refusal true same = q
      by_refusal false same = aborts_keep s n same q
  any_keeps s c q = effect_keeps f t Q kept.calls s c refl q

  begun_by_keeps : (c : Call) (v : Verdict) (s : State P S H) → ((a : Awaits) → v ≡ Blocks a → is_retaking a ≡ false) → Q s.control → Q (begun_by f t c v s).told.state.control
  begun_by_keeps c (Says x) s plain q = q
  begun_by_keeps c (Yields x) s plain q = q
  begun_by_keeps c (Blocks a) s plain q =
      let k = claims t (ring_given c) s.control in
      kept.blocked (record { call = c; awaits = a }) s.control k (λ odd. absurd (plain_even c a (plain a refl) odd)) q (claims_keeps (ring_given c) s.control q)
  begun_by_keeps c (Ends v) s plain q = ending_keeps v s q
  begun_by_keeps c Kills s plain q = q

  begun_keeps : (c : Call) (s : State P S H) → Q s.control → Q (begun f t c s).told.state.control
  unfolding begun
  begun_keeps call.Plain s q = q
  begun_keeps (call.Note v) s q = q
  begun_keeps c s q = begun_by_keeps c (row_of f s t c).begin.verdict (effect_of (row_of f s t c).begin s).state (λ a blocks. begins_plainly f s t c a blocks) (any_keeps s c q)

  -- ---- a call is tried again

  tried_by_keeps : (b : Blocked) (v : Verdict) (j : Control P S H) (s : State P S H) → ((a : Awaits) → v ≡ Blocks a → retakes_oddly (Some (record b { awaits = a })) ≡ true → IsToEnd t j) → Q j → Q s.control → Q (tried_by f t b v s).told.state.control
  tried_by_keeps b (Says x) j s odd r q = stops_keeps t s.control q
  tried_by_keeps b (Yields x) j s odd r q = stops_keeps t s.control q
  tried_by_keeps b (Blocks p) j s odd r q = kept.blocked (record b { awaits = p }) j s.control (odd p refl) r q
  tried_by_keeps b (Ends v) j s odd r q = ending_keeps v s q
  tried_by_keeps b Kills j s odd r q = stops_keeps t s.control q

  -- a call that took no mutex back takes none as it is tried again
  odd_before : (s : State P S H) (b : Blocked) (come : Bool) (a : Awaits) → is_await b.call ≡ false → blocked_of s.control t ≡ Some b → (unless_settled come ((row_of f s t b.call).again b.awaits)).verdict ≡ Blocks a → retakes_oddly (Some (record b { awaits = a })) ≡ true → IsToEnd t s.control
  odd_before s b come a other at blocks odd = by_wait (is_retaking b.awaits) refl
    where
      by_wait : (r : Bool) → is_retaking b.awaits ≡ r → IsToEnd t s.control
      by_wait true retakes = inr (ap retakes_oddly at ∙ rw (retakes, other) refl)
      by_wait false plain = absurd (plain_even b.call a (again_plainly f s t b.call b.awaits come a plain blocks) odd)

  tried_again_keeps : (s : State P S H) (b : Blocked) → is_await b.call ≡ false → blocked_of s.control t ≡ Some b → Q s.control → Q (tried_again_by f t (Some b) s).told.state.control
  tried_again_keeps s b other at q =
      let come = has_settled s.control.events (ring_given b.call) in
      let a = unless_settled come ((row_of f s t b.call).again b.awaits) in
      tried_by_keeps b a.verdict s.control (effect_of a s).state (λ p blocks odd. odd_before s b come p other at blocks odd) q (come_keeps f t Q kept.calls s b.call b.awaits come q)

  canceled_keeps : (b : Option Blocked) (s : State P S H) → Q s.control → Q (canceled_by f t b s).told.state.control
  canceled_keeps None s q = q
  canceled_keeps (Some b) s q = ending_keeps canceled_value (takes_request t b.call s).state (kept.calls.requested t false s.control (λ e. not_asked e) q)

  where_keeps : (asked : Bool) (s : State P S H) (b : Blocked) → is_await b.call ≡ false → blocked_of s.control t ≡ Some b → Q s.control → Q (gone_on_where f t asked s).told.state.control
  unfolding tried_again
  where_keeps true s b other at q = canceled_keeps (blocked_of s.control t) s q
  where_keeps false s b other at q = subst (λ (o : Option Blocked). Q (tried_again_by f t o s).told.state.control) (sym at) (tried_again_keeps s b other at q)

  -- ---- a wait at a condition goes on

  retaken_keeps : (c : Call) (m : ℤ) (o : Retake) (s : State P S H) → Q s.control → Q (retaken_as f t c m o s).told.state.control
  retaken_keeps c m retake.Notified s q = q
  retaken_keeps c m retake.Interrupted s q = q
  retaken_keeps c m retake.Canceled s q = ending_keeps canceled_value (tells (mark.Took (tid t) (object_named m)) s).state q

  -- the call blocked t before, in control j
  abbrev OddBefore : Call → ℤ → Retake → Control P S H → Type 0
  OddBefore c m o j = retakes_oddly (Some (record { call = c; awaits = Retaking m o })) ≡ true → IsToEnd t j

  retakes_keep : (b : Bool) (c : Call) (m : ℤ) (o : Retake) (j : Control P S H) (s : State P S H) → OddBefore c m o j → Q j → Q s.control → Q (retakes_where f t b c m o s).told.state.control
  retakes_keep true c m o j s odd r q = retaken_keeps c m o s q
  retakes_keep false c m o j s odd r q = kept.blocked (record { call = c; awaits = Retaking m o }) j s.control odd r q

  await_ends_keeps : (g : Control P S H → Control P S H) → ((k : Control P S H) → Q k → Q (g k)) → (c : Call) (m : ℤ) (o : Retake) (j : Control P S H) (s : State P S H) → OddBefore c m o j → Q j → Q s.control → Q (ends_await f t g c m o s).told.state.control
  await_ends_keeps g h c m o j s odd r q =
      let u = controlled (g and stops_waiting t) s in
      retakes_keep (can_take u t m) c m o j u odd r (stops_keeps t (g s.control) (h s.control q))

  awaits_where_keeps : (asked noticed settled : Bool) (c m e : ℤ) (s : State P S H) → may_be_canceled s.control t ≡ asked → Q s.control → Q (awaits_on_where f t asked noticed settled (call.CondAwait c m e) c m s).told.state.control
  awaits_where_keeps true noticed settled c m e s asked q =
      let k = call.CondAwait c m e in
      let a : Awaited = record { what = Notice c; ring = extra_ring e } in
      await_ends_keeps (hands_on_seats t a) (λ j r. (seats_keep t a j r).0) k m retake.Canceled s.control (takes_request t k s).state (λ odd. inl asked) q (kept.calls.requested t false s.control (λ x. not_asked x) q)
  awaits_where_keeps false true settled c m e s asked q = await_ends_keeps (leaves_seat t (Notice c)) (leaves_seat_keeps t (Notice c)) (call.CondAwait c m e) m retake.Notified s.control s (λ odd. absurd (cc odd)) q q
  awaits_where_keeps false false true c m e s asked q = await_ends_keeps (leaves_seat t (Notice c)) (leaves_seat_keeps t (Notice c)) (call.CondAwait c m e) m retake.Interrupted s.control s (λ odd. absurd (cc odd)) q q
  awaits_where_keeps false false false c m e s asked q = q

  awaits_on_keeps : (c m e : ℤ) (a : Awaits) (s : State P S H) → blocked_of s.control t ≡ Some (record { call = call.CondAwait c m e; awaits = a }) → Q s.control → Q (awaits_on f t c m e a s).told.state.control
  awaits_on_keeps c m e (Retaking n o) s at q = await_ends_keeps nothing (λ k r. r) (call.CondAwait c m e) m o s.control s (λ odd. inr (ap retakes_oddly at ∙ same_oddly o odd)) q q
    where
      same_oddly : (r : Retake) → retakes_oddly (Some (record { call = call.CondAwait c m e; awaits = Retaking m r })) ≡ true → retakes_oddly (Some (record { call = call.CondAwait c m e; awaits = Retaking n r })) ≡ true
      same_oddly retake.Canceled odd = refl
      same_oddly retake.Notified odd = odd
      same_oddly retake.Interrupted odd = odd
  awaits_on_keeps c m e a s at q = awaits_where_keeps (may_be_canceled s.control t) (is_noticed s t c) (has_settled s.control.events (extra_ring e)) c m e s refl q

  gone_on_in_keeps : (c : Call) (a : Awaits) (s : State P S H) → blocked_of s.control t ≡ Some (record { call = c; awaits = a }) → Q s.control → Q (gone_on_in f t c a s).told.state.control
  gone_on_in_keeps (call.CondAwait c m e) a s at q = awaits_on_keeps c m e a s at q
  gone_on_in_keeps c a s at q = where_keeps (may_be_canceled s.control t) s (record { call = c; awaits = a }) refl at q

  gone_on_by_keeps : (b : Option Blocked) (s : State P S H) → blocked_of s.control t ≡ b → Q s.control → Q (gone_on_by f t b s).told.state.control
  gone_on_by_keeps None s at q = q
  gone_on_by_keeps (Some b) s at q = gone_on_in_keeps b.call b.awaits s at q

  gone_on_keeps : (s : State P S H) → Q s.control → Q (gone_on f t s).told.state.control
  unfolding gone_on
  gone_on_keeps s q = gone_on_by_keeps (blocked_of s.control t) s refl q

  -- ---- a step

  steps_by_keeps : (b : Option Blocked) (p : Option (Progress S)) (s : State P S H) → Q s.control → Q (steps_by f t b p s).told.state.control
  steps_by_keeps (Some b) p s q = gone_on_keeps s q
  steps_by_keeps None (Some p) s q =
      let x = (f s.control.program).step p.state s.control.shared p.owed in
      begun_keeps x.call _ (kept.goes t _ (record s.control { shared = x.shared }) (λ y odd. odd) (kept.calls.handlers.shares x.shared s.control q))
  steps_by_keeps None None s q = gone_on_keeps s q

  owes_keeps : (n : Next) (k : Control P S H) → Q k → Q (owes_after t n k)
  owes_keeps (next.Done a) k q = kept.goes t (owing a) k (λ p odd. odd) q
  owes_keeps (next.Yields a) k q = kept.goes t (owing a) k (λ p odd. odd) q
  owes_keeps next.Blocks k q = q
  owes_keeps (next.Ended v) k q = q
  owes_keeps next.Killed k q = q

  pub step_keeps : (x : Turn) (s : State P S H) → Q s.control → Q (steps f x t s).state.control
  unfolding steps
  step_keeps x s q =
      let w = steps_on f t s in
      owes_keeps w.next w.told.state.control (steps_by_keeps (blocked_of s.control t) (s.control.threads.progress t) s q)
