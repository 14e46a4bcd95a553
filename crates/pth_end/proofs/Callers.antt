-- Who runs in a world may make a call, in the state that the world shows.
use Rattle.std.proofs.Common.{◌≡◌, ◌≢◌, ◌<◌, ℕ, zero, suc, ◌+◌, nat_lt, Bool, true, false, ℤ, length, All, Option, Some, None, IfSome, IsSome, is_some, refl, sym, ◌∙◌, ap, subst, arith, if◌then◌else◌}
use Rattle.std.proofs.lemmas.Bool.Decides.{nat_tests}
use Rattle.std.proofs.lemmas.Bool.{true≢false}
use Rattle.std.proofs.lemmas.List.Elements.{All-weaker}
use Rattle.std.proofs.lemmas.Option.{none-some}
use Rattle.pth_base.specs.Naming.{by_slot, seen}
use Rattle.pth_base.specs.Table.{table}
use Rattle.pth_base.specs.declared.call.Call.{Call}
use Rattle.pth_base.specs.declared.call.Call.TheVariants as call
use Rattle.pth_base.specs.declared.ids.FdSet.{FdSet}
use Rattle.pth_base.specs.declared.thread.ThreadState.{ThreadState}
use Rattle.pth_base.specs.declared.thread.ThreadState.TheVariants as state
use Rattle.pth_numbered.specs.Operands.{is_zero}
use Rattle.pth_queue.specs.Queues.{queue_of}
use Rattle.pth_queue.specs.declared.queue.Queue.TheVariants.{Dead}
use Rattle.pth_threads.specs.Threads.{slot_of, tid_at, tid_of, entry_at}
use Rattle.pth_threads.specs.declared.entry.Entry.{Entry}
use Rattle.pth_model.specs.declared.awaits.Awaits.{Awaits}
use Rattle.pth_model.specs.declared.awaits.Awaits.TheVariants.{Death, AnyDeath, Moment, Writing, Selection}
use Rattle.pth_model.specs.declared.blocked.Blocked.{Blocked}
use Rattle.pth_model.specs.declared.progress.Progress.{Progress}
use Rattle.pth_model.specs.Awaits.{awaits_in, is_await, is_awaiting, is_retaking}
use Rattle.pth_model.specs.Changes.{blocked_in, holders}
use Rattle.pth_model.specs.Living.{is_made, lives}
use Rattle.pth_model.specs.State.{State, queue}
use Rattle.pth_model.specs.ThreadControl.{to_join}
use Rattle.pth_laws.specs.Consistent.{IsCaller}
use Rattle.pth_laws.proofs.Going.{dead_known, joins_dead}
use Rattle.pth_world.specs.Sound.{IsKnown}
use Rattle.pth_world.specs.StateOf.{state_of}
use Rattle.pth_world.specs.WellFormed.{FitsEntry, IsMoment, IsSelection, IsWriting, MayAwaitAs, MayBlock, WellFormed}
use Rattle.pth_world.specs.World.{WorldOf}
use Rattle.pth_world.proofs.Slots.{name_is, used}
use Rattle.pth_world.proofs.Standing.{all_stand, dead_in_place, place_in}
use Rattle.pth_world.proofs.StateOf.{stands_for_state, state_awaits_rightly}

-- ---- only a pth_cond_await takes a mutex back

death_plain : (zero : Bool) (n : ℤ) → is_retaking (if zero then AnyDeath else Death n) ≡ false
death_plain true n = refl
death_plain false n = refl

moment_plain : (a : Awaits) → IsMoment a → is_retaking a ≡ false
moment_plain (Moment m) is = refl
moment_plain a is = absurd is

writing_plain : (f : ℤ) (n : ℕ) (a : Awaits) → IsWriting f n a → is_retaking a ≡ false
writing_plain f n (Writing g total written) is = refl
writing_plain f n a is = absurd is

selection_plain : (r w x : FdSet) (a : Awaits) → IsSelection r w x a → is_retaking a ≡ false
selection_plain r w x (Selection b c d deadline) is = refl
selection_plain r w x a is = absurd is

as_plain : (a b : Awaits) → a ≡ b → is_retaking b ≡ false → is_retaking a ≡ false
as_plain a b is plain = ap is_retaking is ∙ plain

retakes_by : (t : ℕ) (c : Call) (a : Awaits) → MayAwaitAs t c a → is_retaking a ≡ true → is_await c ≡ true
retakes_by t c a may h = by_call c may
  where
    no : is_retaking a ≡ false → {A : Type 0} → A
    no plain = absurd (true≢false (sym h ∙ plain))

    by_call : (c : Call) → MayAwaitAs t c a → is_await c ≡ true
    by_call (call.CondAwait c m e) may = refl
    by_call (call.Exit v) may = no (as_plain a _ may.1 refl)
    by_call (call.Join n) may = no (as_plain a _ may (death_plain (is_zero n) n))
    by_call (call.Nap n) may = no (moment_plain a may)
    by_call (call.Usleep n) may = no (moment_plain a may)
    by_call (call.Sleep n) may = no (moment_plain a may)
    by_call (call.Write f bytes) may = no (writing_plain f (length bytes) a may)
    by_call (call.WriteEv f bytes e) may = no (writing_plain f (length bytes) a may)
    by_call (call.Select r w x l) may = no (selection_plain r w x a may)
    by_call (call.SelectEv r w x l e) may = no (selection_plain r w x a may)
    by_call (call.Wait e) may = no (as_plain a _ may refl)
    by_call (call.Read f n) may = no (as_plain a _ may refl)
    by_call (call.ReadEv f n e) may = no (as_plain a _ may refl)
    by_call (call.Accept f) may = no (as_plain a _ may refl)
    by_call (call.AcceptEv f e) may = no (as_plain a _ may refl)
    by_call (call.Connect f) may = no (as_plain a _ may refl)
    by_call (call.ConnectEv f e) may = no (as_plain a _ may refl)
    by_call (call.MutexAcquire m v e) may = no (as_plain a _ may refl)
    by_call (call.RwAcquire l write v e) may = no (as_plain a _ may refl)
    by_call (call.BarrierReach b) may = no (as_plain a _ may refl)
    by_call c may = absurd may

retakes_in : (t : ℕ) (o : Option Blocked) → IfSome o (λ b. MayBlock t b) → is_retaking (awaits_in o) ≡ true → is_awaiting o ≡ true
retakes_in t None may h = absurd (true≢false (sym h))
retakes_in t (Some b) may h = retakes_by t b.call b.awaits may h

running_lives : (s : ThreadState) (e : Entry) → e.state ≡ s → s ≡ state.Running → lives (Some e) ≡ true
running_lives s e at runs = ap (λ (i : ThreadState). lives (Some (record e { state = i }))) (at ∙ runs)

-- ---- its record

module _ {P S H : Type 0} (w : WorldOf P S H) (whole : WellFormed w) (t : ℕ) (runs : w.scheduler.running ≡ Some t) where
  record HasSlot : Type 0 where
    slot : ℕ
    at : slot_of w.threads.records t ≡ Some slot

  has_slot : HasSlot
  has_slot = by_slot_of (slot_of w.threads.records t) refl (subst (λ (o : Option ℕ). IfSome o (λ r. IsKnown w.threads r)) runs whole.runner)
    where
      by_slot_of : (o : Option ℕ) → slot_of w.threads.records t ≡ o → IsSome o → HasSlot
      by_slot_of None at known = absurd (true≢false (sym known))
      by_slot_of (Some u) at known = record { slot = u; at = at }

  abbrev u : ℕ
  u = has_slot.slot

  there : tid_at w.threads.records u ≢ 0
  there = used w.threads t u whole.sound has_slot.at

  record HasEntry : Type 0 where
    entry : Entry
    is : entry_at w.threads.records u ≡ Some entry
    own : entry.tid.0 ≡ t

  has_entry : HasEntry
  unfolding tid_at
  has_entry = by_entry (entry_at w.threads.records u) refl
    where
      by_entry : (o : Option Entry) → entry_at w.threads.records u ≡ o → HasEntry
      by_entry None is = absurd (there (ap tid_of is))
      by_entry (Some e) is = record { entry = e; is = is; own = ap tid_of (sym is) ∙ name_is w.threads t u whole.sound has_slot.at }

  abbrev e : Entry
  e = has_entry.entry

  fits : FitsEntry w.scheduler.running (Some e) (queue_of u w.threads.queues) (blocked_in (table None w.threads.progress u))
  fits = subst (λ (o : Option Entry). FitsEntry w.scheduler.running o (queue_of u w.threads.queues) (blocked_in (table None w.threads.progress u))) has_entry.is (whole.fits u)

  -- ---- its thread

  is_alive : lives (seen None (slot_of w.threads.records) (entry_at w.threads.records) t) ≡ true
  unfolding seen
  is_alive = ap (λ (o : Option ℕ). lives (by_slot None (entry_at w.threads.records) o)) has_slot.at ∙ ap lives has_entry.is ∙ running_lives e.state e refl (fits.runs (runs ∙ ap Some (sym has_entry.own)))

  is_there : is_some (seen None (slot_of w.threads.records) (table None w.threads.progress) t) ≡ true
  unfolding seen
  is_there = ap (λ (o : Option ℕ). is_some (by_slot None (table None w.threads.progress) o)) has_slot.at ∙ whole.sound.recorded u there

  was_made : is_made w.threads.records.made t ≡ true
  was_made = by_number t refl
    where
      by_number : (n : ℕ) → t ≡ n → is_made w.threads.records.made n ≡ true
      by_number zero same = absurd (none-some u (sym whole.sound.tied.zero ∙ ap (slot_of w.threads.records) (sym same) ∙ has_slot.at))
      by_number (suc n) same = by_test (nat_lt n w.threads.records.made) refl
        where
          by_test : (b : Bool) → nat_lt n w.threads.records.made ≡ b → nat_lt n w.threads.records.made ≡ true
          by_test true h = h
          by_test false h =
              let above : w.threads.records.made < suc n = grind (arith, nat_tests) in
              absurd (none-some u (sym (whole.sound.fresh (suc n) above) ∙ ap (slot_of w.threads.records) (sym same) ∙ has_slot.at))

  none_next : lives (seen None (slot_of w.threads.records) (entry_at w.threads.records) (w.threads.records.made + 1)) ≡ false
  unfolding seen
  none_next = ap (λ (o : Option ℕ). lives (by_slot None (entry_at w.threads.records) o)) (whole.sound.fresh (w.threads.records.made + 1) (omega arith))

  retakes_so : let o = blocked_in (seen None (slot_of w.threads.records) (table None w.threads.progress) t) in is_retaking (awaits_in o) ≡ true → is_awaiting o ≡ true
  unfolding seen
  retakes_so =
      let Plain : Option ℕ → Type 0 = λ o. let b = blocked_in (by_slot None (table None w.threads.progress) o) in is_retaking (awaits_in b) ≡ true → is_awaiting b ≡ true in
      subst Plain (sym has_slot.at) (retakes_in e.tid.0 (blocked_in (table None w.threads.progress u)) fits.calls)

  joins_none : (m : ℤ) (v : ℕ) → let k = (state_of w).control in to_join k m ≡ Some v → lives (k.threads.known v) ≡ false
  joins_none m v h =
      let k = (state_of w).control in
      let InPlace : ℕ → Type 0 = λ i. place_in (k.threads.known i) ≡ Some Dead in
      let Gone : ℕ → Type 0 = λ i. lives (k.threads.known i) ≡ false in
      joins_dead k (All-weaker InPlace Gone (λ i stands. dead_known (k.threads.known i) (dead_in_place (k.threads.known i) stands)) (holders (queue k Dead)) (all_stand w whole k (stands_for_state w whole.sound).control Dead)) m v h

  pub caller_of : IsCaller (state_of w) t
  unfolding state_of
  caller_of = record {
    made = was_made;
    alive = is_alive;
    there = is_there;
    joins = joins_none;
    next = none_next;
    awaits = state_awaits_rightly w t;
    retakes = retakes_so;
  }
