-- What is kept of each event is changed, one after another.
use Rattle.std.proofs.Common.{◌≡◌, ◌≢◌, ◌<◌, ◌≤◌, ◌+◌, ℕ, Option, Some, None, option_map, refl, sym, ◌∙◌, ap, inl, inr, arith}
use Rattle.std.proofs.lemmas.Bool.{cases_eq}
use mathlib.Core.Path.{fun_ext}
use Rattle.pth_base.specs.Table.{put}
use Rattle.pth_base.proofs.Tables.{put_here, put_other}
use Rattle.pth_numbered.specs.Numbered.{number_at, slot_of}
use Rattle.pth_ring.specs.declared.event.Event.{Event}
use Rattle.pth_ring.specs.Rings.{Events, with_event, with_each_event}
use Rattle.pth_ring.specs.Arena.{RingsOf, ring_of, event_of, events_of, AreLinked, Becomes}
use Rattle.pth_ring.proofs.Shown.{place-used, no-event, events_are, one-place}
use Rattle.pth_ring.proofs.Refusals.{dead, with_event-dead}

-- one place

pub released-none : (x : RingsOf) (g : Event → Event) (n : ℕ) → AreLinked x → n ≡ 0 → Becomes x x (with_event g n (events_of x))
released-none x g n k zero = record { kept = k; numbers = refl; slots = refl; events = with_event-dead (events_of x) g n (dead x k n (ap (slot_of x) zero ∙ k.kept.tied.zero)) }

-- the places below this one

pub record IsReleased (g : Event → Event) (n : ℕ) (x y : RingsOf) : Type 0 where
  pub numbers : number_at y ≡ number_at x
  pub slots : slot_of y ≡ slot_of x
  pub rings : ring_of y ≡ ring_of x
  pub made : y.made ≡ x.made
  pub below : (i u : ℕ) → slot_of x i ≡ Some u → u < n → event_of y i ≡ option_map g (event_of x i)
  pub above : (i u : ℕ) → slot_of x i ≡ Some u → n ≤ u → event_of y i ≡ event_of x i

pub released-start : (x : RingsOf) (g : Event → Event) → IsReleased g 0 x x
released-start x g = record { numbers = refl; slots = refl; rings = refl; made = refl; below = λ i u at lt. absurd (omega arith); above = λ i u at le. refl }

module _ (x y z : RingsOf) (g : Event → Event) (n : ℕ) (k : AreLinked x) (r : IsReleased g n x y) (b : Becomes y z (with_event g (number_at y n) (events_of y))) where
  events : event_of z ≡ put (event_of y) (number_at y n) (option_map g (event_of y (number_at y n)))
  events = ap (λ (e : Events). e.events) b.events

  same_number : number_at y n ≡ number_at x n
  same_number = ap (λ (f : ℕ → ℕ). f n) r.numbers

  here : (i u : ℕ) → slot_of x i ≡ Some u → u ≡ n → event_of z i ≡ option_map g (event_of x i)
  here i u at same =
      let own : number_at y n ≡ i = same_number ∙ ap (number_at x) (sym same) ∙ k.kept.tied.tid i u at in
      let to = put_here (event_of y) i (option_map g (event_of y i)) in
      ap (λ (f : ℕ → Option Event). f i) events ∙ ap (λ (m : ℕ). put (event_of y) m (option_map g (event_of y m)) i) own ∙ to ∙ ap (option_map g) (r.above i u at (omega (arith, same)))

  apart : (i u : ℕ) → slot_of x i ≡ Some u → u ≢ n → event_of z i ≡ event_of y i
  apart i u at other =
      let differs : i ≢ number_at y n = λ h. other (sym (one-place x k u n (place-used x k i u at) (sym same_number ∙ sym h ∙ sym (k.kept.tied.tid i u at)))) in
      ap (λ (f : ℕ → Option Event). f i) events ∙ put_other (event_of y) (number_at y n) _ i differs

  pub released-step : IsReleased g (n + 1) x z
  released-step = record {
    numbers = b.numbers ∙ r.numbers;
    slots = b.slots ∙ r.slots;
    rings = ap (λ (e : Events). e.rings) b.events ∙ r.rings;
    made = ap (λ (e : Events). e.made) b.events ∙ r.made;
    below = λ i u at lt. elim (cases_eq u n) [
      | inl same ↦ here i u at same
      | inr other ↦ apart i u at other ∙ r.below i u at (omega arith)
    ];
    above = λ i u at le. (apart i u at (omega arith) ∙ r.above i u at (omega arith));
  }

pub released-end : (x y : RingsOf) (g : Event → Event) (n : ℕ) → AreLinked x → AreLinked y → ((u : ℕ) → number_at x u ≢ 0 → u < n) → IsReleased g n x y → events_of y ≡ with_each_event g (events_of x)
released-end x y g n k l all r = events_are y (with_each_event g (events_of x)) r.rings (fun_ext (λ i. at i (slot_of x i) refl)) r.made
  where
    at : (i : ℕ) (o : Option ℕ) → slot_of x i ≡ o → event_of y i ≡ option_map g (event_of x i)
    at i None none = no-event y l i (ap (λ (s : ℕ → Option ℕ). s i) r.slots ∙ none) ∙ sym (ap (option_map g) (no-event x k i none))
    at i (Some u) is = r.below i u is (all u (place-used x k i u is))
