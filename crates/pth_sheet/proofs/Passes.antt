-- What a pass over the waiting threads makes of events, and whom it awakens.
use Rattle.std.proofs.Common.{◌≡◌, ◌∙◌, ℕ, ◌+◌, ◌==◌, ◌||◌, nat_lt, Bool, true, false, if◌then◌else◌, List, [], ◌∷◌, flat_map, Some, option_map, refl, ap, arith}
use Rattle.std.specs.List.{list_any}
use Rattle.std.proofs.lemmas.Bool.Decides.{nat_tests}
use Rattle.std.proofs.lemmas.List.Folds.{list_any-append}
use Rattle.pth_base.specs.Program.{Functions}
use Rattle.pth_ring.specs.declared.event.Event.{Event}
use Rattle.pth_ring.specs.Ring.{each, ring_holds}
use Rattle.pth_ring.specs.Rings.{Events}
use Rattle.pth_model.specs.Changes.{sets, enters, leaves_queue}
use Rattle.pth_model.specs.Looks.{looked_at}
use Rattle.pth_model.specs.Pass.{is_ready_at, woken, all_woken, looks, pass, to_wake, waiting}
use Rattle.pth_model.specs.RingWaits.{awaited_events}
use Rattle.pth_model.specs.State.{State}
use Rattle.pth_model.specs.Transition.{controlled}
use Rattle.pth_sheet.specs.Events.{event, is_awaited, after_pass}

pub counts_some : (n : ℕ) → nat_lt 0 (1 + n) ≡ true
counts_some n = grind (arith, nat_tests)

-- e stands in one of many lists
any_flat : (h : ℕ → List ℕ) (ts : List ℕ) (e : ℕ) → ring_holds e (flat_map h ts) ≡ list_any (λ t. ring_holds e (h t)) ts
any_flat h [] e = refl
any_flat h (t ∷ ts) e = list_any-append (λ x. x == e) (h t) (flat_map h ts) ∙ ap (λ (b : Bool). ring_holds e (h t) || b) (any_flat h ts e)

module _ {P S H : Type 0} where
  -- as threads are woken, no event and no ring changes
  woken_same : (ts : List ℕ) (s : State P S H) → (all_woken ts s).state.control.events ≡ s.control.events
  unfolding all_woken woken is_ready_at leaves_queue sets enters
  woken_same [] s = refl
  woken_same (t ∷ ts) s = woken_same ts (woken t s).state

module _ {P S H : Type 0} (f : P → Functions S H) (s : State P S H) where
  -- the events after a pass, by whether a thread waits for them
  pub event_passed : (e : ℕ) → event (after_pass f s) e ≡ (if is_awaited s e then option_map (looked_at f s e) (event s e) else event s e)
  unfolding pass looks each
  event_passed e =
      ap (λ (x : Events). x.events e) (woken_same (to_wake f s) (controlled (looks f s) s))
      ∙ ap (λ (b : Bool). if b then option_map (looked_at f s e) (event s e) else event s e) (any_flat (awaited_events s.control) (waiting s.control) e)

  -- one for which a thread waits
  pub event_looked_at : (e : ℕ) (x : Event) → event s e ≡ Some x → is_awaited s e ≡ true → event (after_pass f s) e ≡ Some (looked_at f s e x)
  event_looked_at e x here awaited = event_passed e ∙ rw (awaited, here) refl

  pub event_passed_over : (e : ℕ) → is_awaited s e ≡ false → event (after_pass f s) e ≡ event s e
  event_passed_over e not_awaited = event_passed e ∙ rw (not_awaited) refl

  pub rings_passed : (after_pass f s).control.events.rings ≡ s.control.events.rings
  unfolding pass looks
  rings_passed = ap (λ (x : Events). x.rings) (woken_same (to_wake f s) (controlled (looks f s) s))
