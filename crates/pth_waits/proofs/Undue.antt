-- A thread that is not to wake is dormant now, if no event of its ring is settled.
use Rattle.std.proofs.Common.{◌≡◌, ◌≢◌, ℕ, ◌<◌, ◌≤◌, ◌||◌, not, nat_lt, ℤ, Bool, true, false, if◌then◌else◌, List, [], ◌∷◌, All, Option, Some, None, IfSome, refl, sym, ap, subst, arith}
use Rattle.std.proofs.lemmas.Bool.Decides.{nat_tests}
use Rattle.std.proofs.lemmas.List.Elements.{All-cons, All-head, All-nil, All-tail}
use Rattle.std.specs.List.{list_any}
use Rattle.pth_base.specs.Program.{Functions}
use Rattle.pth_base.specs.declared.call.Call.{Call}
use Rattle.pth_base.specs.declared.call.Call.TheVariants as call
use Rattle.pth_base.specs.declared.event.EventSpec.{EventSpec}
use Rattle.pth_base.specs.declared.event.EventSpec.TheVariants as of
use Rattle.pth_ring.specs.declared.event.Event.{Event}
use Rattle.pth_ring.specs.declared.event.Status.{Status}
use Rattle.pth_ring.specs.declared.event.Status.TheVariants.{Pending, Occurred, Failed}
use Rattle.pth_ring.specs.Rings.{is_pending}
use Rattle.pth_numbered.specs.Operands.{number, is_zero}
use Rattle.pth_threads.specs.Threads.{slot_of, tid_at}
use Rattle.pth_model.specs.declared.awaits.Awaits.{Awaits}
use Rattle.pth_model.specs.declared.awaits.Awaits.TheVariants.{Nothing, Alone, Death, AnyDeath, Ring}
use Rattle.pth_model.specs.declared.blocked.Blocked.{Blocked}
use Rattle.pth_model.specs.Awaits.{awaits_in}
use Rattle.pth_model.specs.Calls.{wakes}
use Rattle.pth_model.specs.Changes.{blocked_in, blocked_of, moves_to}
use Rattle.pth_model.specs.Coming.{has_come}
use Rattle.pth_model.specs.Looks.{comes, found, found_unasked}
use Rattle.pth_model.specs.Pass.{comes_for}
use Rattle.pth_model.specs.RingWaits.{events_from, has_settled, ring_held}
use Rattle.pth_model.specs.State.{Control, State, main, now_of}
use Rattle.pth_model.specs.Transition.{controlled}
use Rattle.pth_world.specs.Shows.{StandsFor}
use Rattle.pth_world.specs.WellFormed.{MayAwaitAs, MayBlock, WellFormed, view}
use Rattle.pth_world.specs.World.{WorldOf}
use Rattle.pth_world.proofs.Moves.{blocked_may}
use Rattle.pth_world.proofs.Showing.{progress_is}
use Rattle.pth_waits.specs.Dormant.{AreFoundPending, ArePending, FindsPending, IsDormant, IsSteady, IsSteadyEvent, IsUndue, StaysAway, StaysPending, after_now}
use Rattle.pth_waits.proofs.Rounding.{ring_stays}
use Rattle.pth_waits.proofs.Standing.{none_left}

neither : (a b c : Bool) → (a || b || c) ≡ false → (a ≡ false) × (b ≡ false) × (c ≡ false)
neither true b c is = absurd (cc is)
neither false true c is = absurd (cc is)
neither false false true is = absurd (cc is)
neither false false false is = (refl, refl, refl)

none_of : (a b : Bool) → (a || b) ≡ false → (a ≡ false) × (b ≡ false)
none_of true b is = absurd (cc is)
none_of false true is = absurd (cc is)
none_of false false is = (refl, refl)

none_by : (n : ℕ) → nat_lt 0 n ≡ false → n ≡ 0
none_by n is = grind (arith, nat_tests)

pub pending_by : (s : Status) → not (is_pending s) ≡ false → s ≡ Pending
pending_by Pending is = refl
pending_by Occurred is = absurd (cc is)
pending_by Failed is = absurd (cc is)

-- only main waits to be alone
no_death : (zero : Bool) (i : ℤ) → Alone ≡ (if zero then AnyDeath else Death i) → ⊥
no_death true i is = cc is
no_death false i is = cc is

alone_by : (t : ℕ) (c : Call) → MayAwaitAs t c Alone → t ≡ main
alone_by t (call.Exit v) may = may.0
alone_by t (call.Join i) may = absurd (no_death (is_zero i) i may)
alone_by t (call.Wait e) may = absurd (cc may)
alone_by t (call.Read f n) may = absurd (cc may)
alone_by t (call.ReadEv f n e) may = absurd (cc may)
alone_by t (call.Accept f) may = absurd (cc may)
alone_by t (call.AcceptEv f e) may = absurd (cc may)
alone_by t (call.Connect f) may = absurd (cc may)
alone_by t (call.ConnectEv f e) may = absurd (cc may)
alone_by t (call.MutexAcquire m v e) may = absurd (cc may)
alone_by t (call.RwAcquire l write v e) may = absurd (cc may)
alone_by t (call.BarrierReach b) may = absurd (cc may)
alone_by t c may = absurd may

main_waits : (t : ℕ) (o : Option Blocked) → IfSome o (λ b. MayBlock t b) → awaits_in o ≡ Alone → t ≡ main
main_waits t None may is = absurd (cc is)
main_waits t (Some b) may is = alone_by t b.call (subst (MayAwaitAs t b.call) is may)

module _ {P S H : Type 0} (k : Control P S H) where
  same_now : (n : ℕ) → now_of k ≤ n → n < after_now k → now_of k ≡ n
  same_now n later early = omega arith

module _ {P S H : Type 0} (f : P → Functions S H) (s : State P S H) where
  -- an event that is steady, by what it is of
  found_plain : (e next : ℕ) (spec : EventSpec) → IsSteady s (after_now s.control) spec → not (is_pending (found f s e next spec)) ≡ false → found_unasked s e spec ≡ Pending
  found_plain e next (of.Func check arg interval) steady is = refl
  found_plain e next spec steady is = pending_by (found_unasked s e spec) is

  found_now : (e : ℕ) (o : Option Event) → IsSteadyEvent s (after_now s.control) o → comes f s e o ≡ false → FindsPending s (after_now s.control) e o
  found_now e None steady is = tt
  found_now e (Some v) steady is = (steady, λ n later early. subst (λ (m : ℕ). found_unasked (controlled (moves_to m) s) e v.spec ≡ Pending) (same_now s.control n later early) (found_plain e v.next_look v.spec steady is))

  all_found_now : (es : List ℕ) → All (λ e. IsSteadyEvent s (after_now s.control) (s.control.events.events e)) es → list_any (λ e. comes f s e (s.control.events.events e)) es ≡ false → AreFoundPending s (after_now s.control) es
  all_found_now [] steady none = All-nil (λ e. FindsPending s (after_now s.control) e (s.control.events.events e))
  all_found_now (e ∷ es) steady none =
      let both = none_of (comes f s e (s.control.events.events e)) (list_any (λ i. comes f s i (s.control.events.events i)) es) none in
      All-cons (λ i. FindsPending s (after_now s.control) i (s.control.events.events i)) e es
      (found_now e (s.control.events.events e) (All-head (λ i. IsSteadyEvent s (after_now s.control) (s.control.events.events i)) e es steady) both.0)
      (all_found_now es (All-tail (λ i. IsSteadyEvent s (after_now s.control) (s.control.events.events i)) e es steady) both.1)

  pending_now : (o : Option ℤ) → has_settled s.control.events o ≡ false → All (λ e. IsSteadyEvent s (after_now s.control) (s.control.events.events e)) (events_from s.control.events o) → list_any (λ e. comes f s e (s.control.events.events e)) (events_from s.control.events o) ≡ false → ArePending s (after_now s.control) (events_from s.control.events o)
  pending_now None settled steady none = All-nil (λ e. StaysPending s (after_now s.control) e (s.control.events.events e))
  pending_now (Some e) settled steady none = ring_stays s (after_now s.control) (number e) (none_by _ settled) (all_found_now (s.control.events.rings (number e)) steady none)

module _ {P S H : Type 0} (w : WorldOf P S H) (whole : WellFormed w) (s : State P S H) (st : StandsFor w s) (u : ℕ) (used : tid_at w.threads.records u ≢ 0) where
  abbrev k : Control P S H
  k = s.control

  abbrev t : ℕ
  t = tid_at w.threads.records u

  stands : slot_of w.threads.records t ≡ Some u
  stands = whole.sound.tied.slot u used

  may : IfSome (blocked_of k t) (λ b. MayBlock t b)
  may =
      let is : blocked_of k t ≡ (view w.threads u).blocked = ap blocked_in (progress_is w.threads k t u whole.sound stands st.control.threads) in
      subst (λ (o : Option Blocked). IfSome o (λ b. MayBlock t b)) (sym is) (blocked_may w t u whole stands)

  away_now : (a : Awaits) → has_come s t a ≡ false → (a ≡ Alone → t ≡ main) → StaysAway s (after_now k) t a
  away_now Alone is alone = alone refl
  away_now AnyDeath is alone = none_left w whole k st.control is
  away_now Nothing is alone = λ n later early. refl
  away_now (Ring e) is alone = λ n later early. refl
  away_now a is alone = λ n later early. subst (λ (m : ℕ). has_come (controlled (moves_to m) s) t a ≡ false) (same_now k n later early) is

  pub undue_dormant : (f : P → Functions S H) → IsUndue f s t → IsDormant s (after_now k) t
  unfolding comes_for wakes
  undue_dormant f undue =
      let each = neither _ _ _ undue.unwoken in
      record {
        away = away_now (awaits_in (blocked_of k t)) each.0 (main_waits t (blocked_of k t) may);
        pending = pending_now f s (ring_held (blocked_of k t)) undue.unsettled undue.steady each.1;
        unasked = each.2;
      }
