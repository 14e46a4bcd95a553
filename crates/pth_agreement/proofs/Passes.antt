-- A pass, and the moments that are waited for, with another program and another kernel.
use Rattle.std.proofs.Common.{◌≡◌, ℕ, ◌&&◌, ◌||◌, not, List, [], ◌∷◌, filter, flat_map, Option, Some, None, option_map, if◌then◌else◌, refl, ap, ◌∙◌}
use Rattle.std.specs.List.{list_any}
use Rattle.pth_base.specs.Descriptors.{contains}
use Rattle.pth_base.specs.Program.{Functions, Stepped}
use Rattle.pth_base.specs.declared.answer.Answer.{Answer}
use Rattle.pth_base.specs.declared.event.EventSpec.{EventSpec}
use Rattle.pth_base.specs.declared.event.EventSpec.TheVariants as of
use Rattle.pth_kernel.specs.Kernel.{fd_named}
use Rattle.pth_agreement.proofs.Others.{Others, AllLeft}
use Rattle.pth_agreement.proofs.Asked.{asked_by_wait, asked_by_event}
use Rattle.pth_ring.specs.Ring.{each, ring_holds}
use Rattle.pth_ring.specs.Rings.{is_settled, with_status, with_next_look}
use Rattle.pth_ring.specs.declared.event.Event.{Event}
use Rattle.pth_model.specs.declared.awaits.Awaits.{Awaits}
use Rattle.pth_model.specs.declared.awaits.Awaits.TheVariants as awaits
use Rattle.pth_model.specs.Awaits.{awaits_in}
use Rattle.pth_model.specs.Calls.{wakes, waits_until}
use Rattle.pth_model.specs.Cancellation.{may_be_canceled}
use Rattle.pth_model.specs.Changes.{sets, enters, leaves_queue, with_events, blocked_of}
use Rattle.pth_model.specs.Coming.{has_come}
use Rattle.pth_model.specs.Looks.{found, found_by, looked_at, next_look}
use Rattle.pth_model.specs.Pass.{pass, looks, to_wake, woken, all_woken, is_ready_at, comes_for, waiting, moments}
use Rattle.pth_model.specs.RingWaits.{awaited_events}
use Rattle.pth_model.specs.ThreadControl.{joinable_dead}
use Rattle.pth_model.specs.ThreadEnds.{is_alone}
use Rattle.pth_model.specs.Transition.{changes}
use Rattle.pth_agreement.proofs.Placed.{Bare, placed, moved, DoSame, then_at, then_same}
use Rattle.pth_agreement.proofs.Kernels.{EventLeft, AsksLeft, wait_left, live_at, live_same, sets_left, readable_at, writeable_at, exceptional_at, any_same, brings_same}
use Rattle.pth_agreement.proofs.Endings.{stepping_so}

module _ {P S H : Type 0} (p : P) (other : Others) where
  -- threads that are woken
  woken_same : (t : ℕ) → DoSame {S = S} {H = H} p other (woken t) (woken t)
  unfolding woken is_ready_at leaves_queue sets enters
  woken_same t s = refl

  all_woken_same : (ts : List ℕ) → DoSame {S = S} {H = H} p other (all_woken ts) (all_woken ts)
  unfolding all_woken
  all_woken_same [] s = refl
  all_woken_same (t ∷ ts) s = then_same p other (woken t) (all_woken ts) (woken t) (all_woken ts) (woken_same t) (all_woken_same ts) s

  module _ (f : P → Functions S H) (step : S → H → Answer → Stepped S H) where
    abbrev bare : Unit {0} → Functions S H
    bare = stepping_so f p step

    -- the moments that are waited for, of events too
    pub moments_same : (s : Bare S H) → moments f (placed p other s) ≡ moments bare s
    unfolding waits_until
    moments_same s = refl

    module _ (s : Bare S H) (left : AsksLeft other s.control) where
      found_same : (e next : ℕ) (spec : EventSpec) → AllLeft other (asked_by_event spec) → found f (placed p other s) e next spec ≡ found bare s e next spec
      found_same e next (of.Fd goals fd) one = λ i. found_by (not (live_at other s.control.kernel (fd_named fd) one.0 i)) (
          (contains goals 0 && readable_at other s.control.kernel left.shows (fd_named fd) one.0 i)
          || (contains goals 1 && writeable_at other s.control.kernel left.shows (fd_named fd) one.0 i)
          || (contains goals 2 && exceptional_at other s.control.kernel left.shows (fd_named fd) one.0 i))
      found_same e next (of.Select r w x) all =
          let sets = sets_left other s.control.kernel r w x all in
          λ i. found_by (not (live_same other s.control.kernel r w x sets i)) (any_same other s.control.kernel left.shows r w x sets i)
      found_same e next spec all = refl

      looked_same : (e : ℕ) (o : Option Event) → EventLeft other o → option_map (looked_at f (placed p other s) e) o ≡ option_map (looked_at bare s e) o
      looked_same e None all = refl
      looked_same e (Some x) all = λ i. Some (with_next_look (next_look bare s x.next_look x.spec) (with_status (found_same e x.next_look x.spec all i) x))

      -- the event of a number
      look_same : (e : ℕ) → option_map (looked_at f (placed p other s) e) (s.control.events.events e) ≡ option_map (looked_at bare s e) (s.control.events.events e)
      look_same e = looked_same e (s.control.events.events e) (left.events e)

      looks_same : changes (looks f (placed p other s)) (placed p other s) ≡ moved p other (changes (looks bare s) s)
      unfolding looks each
      looks_same =
          let es = flat_map (awaited_events s.control) (waiting s.control) in
          λ i. changes (with_events (λ x. record x { events = λ e. if ring_holds e es then look_same e i else s.control.events.events e })) (placed p other s)

      come_same : (t : ℕ) (a : Awaits) → AllLeft other (asked_by_wait a) → has_come (placed p other s) t a ≡ has_come s t a
      unfolding is_alone joinable_dead
      come_same t (awaits.Reading d n) all = brings_same other s.control.kernel left.shows (awaits.Reading d n) all
      come_same t (awaits.Writing d total done) all = brings_same other s.control.kernel left.shows (awaits.Writing d total done) all
      come_same t (awaits.Connection d) all = brings_same other s.control.kernel left.shows (awaits.Connection d) all
      come_same t (awaits.ConnectAnswer d) all = brings_same other s.control.kernel left.shows (awaits.ConnectAnswer d) all
      come_same t (awaits.Selection r w x deadline) all = brings_same other s.control.kernel left.shows (awaits.Selection r w x deadline) all
      come_same t a all = refl

      comes_same : comes_for f (placed p other s) ≡ comes_for bare s
      unfolding comes_for
      comes_same = λ i t. list_any (λ e. is_settled (look_same e i)) (awaited_events s.control t)

      wake_same : to_wake f (placed p other s) ≡ to_wake bare s
      unfolding to_wake wakes may_be_canceled
      wake_same = λ i. filter (λ t. come_same t (awaits_in (blocked_of s.control t)) (wait_left other (blocked_of s.control t) (left.waits t)) i || comes_same i t || may_be_canceled s.control t) (waiting s.control)

      pub pass_same : pass f (placed p other s) ≡ moved p other (pass bare s)
      unfolding pass
      pass_same =
          let u = (changes (looks bare s) s).state in
          then_at p other (changes (looks bare s)) (all_woken (to_wake bare s)) (changes (looks f (placed p other s))) (all_woken (to_wake f (placed p other s))) s looks_same
          (ap (λ ts. all_woken ts (placed p other u)) wake_same ∙ all_woken_same (to_wake bare s) u)
