-- All events of a ring are waited for, one after another.
use Rattle.std.proofs.Common.{◌≡◌, ◌≢◌, ◌<◌, ℕ, List, [], ◌∷◌, length, Option, Some, None, IsSome, option_map, refl, sym, ◌∙◌, ap, ap₂, inl, inr}
use Rattle.std.proofs.lemmas.Bool.{cases_eq}
use mathlib.Core.Path.{fun_ext}
use Rattle.pth_base.specs.Table.{put}
use Rattle.pth_base.specs.Chain.{StandsIn}
use Rattle.pth_base.proofs.Tables.{put_here, put_other}
use Rattle.pth_base.proofs.Chains.{stands_or_not}
use Rattle.pth_numbered.specs.Numbered.{thing_at, number_at, slot_of}
use Rattle.pth_ring.specs.declared.event.Event.{Event}
use Rattle.pth_ring.specs.Ring.{each}
use Rattle.pth_ring.specs.Links.{next_place, event_at, ring}
use Rattle.pth_ring.proofs.Going.{places_left, on-next, places_left-start, places_left-last, places_left-step, places_left-shorter}
use Rattle.pth_ring.specs.Rings.{awaited, ring_awaited}
use Rattle.pth_ring.specs.Arena.{RingsOf, events_of, AreLinked, SamePlaces, Becomes, Remakes}
use Rattle.pth_ring.proofs.Turns.{each-in, each-out}
use Rattle.pth_ring.proofs.Named.{each-named}
use Rattle.pth_ring.proofs.Shown.{rings-named, events-seen, live, all-used, ring-at, becomes}

abbrev pub again : ℕ → Option Event → Option Event
again now o = option_map (awaited now) o

-- one after another is waited for
abbrev pub awaited_in : ℕ → List ℕ → (ℕ → Option Event) → ℕ → Option Event
awaited_in now [] f = f
awaited_in now (y ∷ ys) f = awaited_in now ys (put f y (again now (f y)))

twice : (now : ℕ) (o : Option Event) → again now (again now o) ≡ again now o
twice now (Some v) = refl
twice now None = refl

-- what becomes of an event, whether it is one of these or not
becomes_again : (now : ℕ) (l : List ℕ) (g : ℕ → Option Event) (y : ℕ) (o : Option Event) → g y ≡ o → again now (g y) ≡ o → each l (again now) g y ≡ o
becomes_again now l g y o p q = elim (stands_or_not y l) [ inl h ↦ each-in l (again now) g y h ∙ q | inr out ↦ each-out l (again now) g y out ∙ p ]

at : (now : ℕ) (l : List ℕ) (f : ℕ → Option Event) (y : ℕ) → awaited_in now l f y ≡ each l (again now) f y
at now [] f y = sym (each-out [] (again now) f y (λ h. h))
at now (z ∷ l) f y = at now l (put f z (again now (f z))) y ∙ elim (cases_eq y z) [
  | inl k ↦ here k
  | inr n ↦ other n
]
  where
    here : y ≡ z → each l (again now) (put f z (again now (f z))) y ≡ each (z ∷ l) (again now) f y
    here k =
        let got : put f z (again now (f z)) y ≡ again now (f y) = ap (put f z (again now (f z))) k ∙ put_here f z (again now (f z)) ∙ ap (λ w. again now (f w)) (sym k) in
        becomes_again now l (put f z (again now (f z))) y (again now (f y)) got (ap (again now) got ∙ twice now (f y)) ∙ sym (each-in (z ∷ l) (again now) f y (inl k))

    away : y ≢ z → (StandsIn y l → ⊥) → StandsIn y (z ∷ l) → ⊥
    away n out (inl k) = n k
    away n out (inr h) = out h

    other : y ≢ z → each l (again now) (put f z (again now (f z))) y ≡ each (z ∷ l) (again now) f y
    other n =
        let got : put f z (again now (f z)) y ≡ f y = put_other f z (again now (f z)) y n in
        elim (stands_or_not y l) [
          | inl h ↦ each-in l (again now) (put f z (again now (f z))) y h ∙ ap (again now) got ∙ sym (each-in (z ∷ l) (again now) f y (inr h))
          | inr out ↦ each-out l (again now) (put f z (again now (f z))) y out ∙ got ∙ sym (each-out (z ∷ l) (again now) f y (away n out))
        ]

awaited-each : (now : ℕ) (l : List ℕ) (f : ℕ → Option Event) → awaited_in now l f ≡ each l (again now) f
awaited-each now l f = fun_ext (λ y. at now l f y)

-- ---- a step

module _ (x z : RingsOf) (now e u : ℕ) (k : AreLinked x) (used_e : number_at x e ≢ 0) (on : StandsIn u (ring (thing_at x) e)) (r : Remakes x z u (awaited now)) where
  live_e : IsSome (event_at (thing_at x) e)
  live_e = live x k e used_e

  left_kept : (y : ℕ) → places_left (thing_at z) e y ≡ places_left (thing_at x) e y
  unfolding places_left
  left_kept y = rw r.next refl

  left_next : places_left (thing_at z) e (next_place (thing_at z) u) ≡ places_left (thing_at x) e (next_place (thing_at x) u)
  left_next = left_kept (next_place (thing_at z) u) ∙ ap (λ (n : ℕ → ℕ). places_left (thing_at x) e (n u)) r.next

  before_next : next_place (thing_at z) u ≢ e → next_place (thing_at x) u ≢ e
  before_next n m = n (ap (λ (n : ℕ → ℕ). n u) r.next ∙ m)

  pub awaited-step : (t : ℕ → Option Event) → next_place (thing_at z) u ≢ e → awaited_in now (places_left (thing_at x) e u) (event_at (thing_at x)) ≡ t → awaited_in now (places_left (thing_at z) e (next_place (thing_at z) u)) (event_at (thing_at z)) ≡ t
  awaited-step t n same =
      ap₂ (λ l f. awaited_in now l f) left_next r.event ∙ sym (ap (λ l. awaited_in now l (event_at (thing_at x))) (places_left-step (thing_at x) e k.linked live_e u on (before_next n))) ∙ same

  pub awaited-last : (t : ℕ → Option Event) → next_place (thing_at z) u ≡ e → awaited_in now (places_left (thing_at x) e u) (event_at (thing_at x)) ≡ t → event_at (thing_at z) ≡ t
  awaited-last t n same =
      let m : next_place (thing_at x) u ≡ e = sym (ap (λ (n : ℕ → ℕ). n u) r.next) ∙ n in
      r.event ∙ sym (ap (λ l. awaited_in now l (event_at (thing_at x))) (places_left-last (thing_at x) e k.linked live_e u on m)) ∙ same

  pub awaited-shorter : next_place (thing_at z) u ≢ e → length (places_left (thing_at z) e (next_place (thing_at z) u)) < length (places_left (thing_at x) e u)
  awaited-shorter n = rw left_next (places_left-shorter (thing_at x) e k.linked live_e u on (before_next n))

  pub awaited-on : StandsIn (next_place (thing_at z) u) (ring (thing_at z) e)
  awaited-on = rw (r.rings, r.next) (on-next (thing_at x) e k.linked live_e u on)

-- ---- the whole ring

pub awaited-start : (x : RingsOf) (now e : ℕ) → AreLinked x → number_at x e ≢ 0 → awaited_in now (places_left (thing_at x) e e) (event_at (thing_at x)) ≡ awaited_in now (ring (thing_at x) e) (event_at (thing_at x))
awaited-start x now e k used_e = ap (λ l. awaited_in now l (event_at (thing_at x))) (places_left-start (thing_at x) e k.linked (live x k e used_e))

pub ring-awaited : (x z : RingsOf) (now e : ℕ) → AreLinked x → number_at x e ≢ 0 → AreLinked z → SamePlaces x z → ring (thing_at z) ≡ ring (thing_at x) → event_at (thing_at z) ≡ awaited_in now (ring (thing_at x) e) (event_at (thing_at x)) → Becomes x z (ring_awaited (number_at x e) now (events_of x))
ring-awaited x z now e k used_e kz p rings event =
    let l = ring (thing_at x) e in
    let f = event_at (thing_at x) in
    becomes x z p (ring (thing_at x)) (each l (again now) f) (ring_awaited (number_at x e) now (events_of x)) k kz.linked kz.numbered rings (event ∙ awaited-each now l f)
    (sym (rings-named x))
    (each-named (slot_of x) (number_at x) k.kept.tied None l (again now) f (all-used x k e used_e)
    ∙ ap₂ (λ (m : List ℕ) (h : ℕ → Option Event). each m (again now) h) (sym (ring-at x k e used_e)) (sym (events-seen x)))
    refl
