-- A ring is freed, one event after another.
use Rattle.std.proofs.Common.{◌≡◌, ◌≢◌, ◌<◌, ℕ, ◌==◌, true, false, List, [], ◌∷◌, ◌++◌, map, length, None, refl, sym, ◌∙◌, ap, ap₂, inl, inr, arith, subst}
use Rattle.std.proofs.lemmas.Bool.{cases_eq}
use mathlib.Core.Path.{fun_ext}
use Rattle.pth_base.specs.Table.{put}
use Rattle.pth_base.specs.Chain.{StandsIn}
use Rattle.pth_base.proofs.Tables.{put_here, put_other, same_self, not_same}
use Rattle.pth_base.proofs.Chains.{stands_or_not, StandsIn-turn, distinct-turn, StandsIn-append_right, StandsIn-append_cases, closed-turn}
use Rattle.pth_numbered.specs.Numbered.{thing_at, number_at, slot_of}
use Rattle.pth_ring.specs.Ring.{circle, rest_of, from, before, turned, each}
use Rattle.pth_ring.specs.Links.{next_place, prev_place, ring, IsLinkedRing}
use Rattle.pth_ring.specs.Rings.{Events, ring_freed, freed}
use Rattle.pth_ring.specs.Arena.{RingsOf, ring_of, events_of, AreLinked, IsFreed}
use Rattle.pth_ring.proofs.Turns.{circle-in, circle-out, each-in, each-out}
use Rattle.pth_ring.proofs.Circles.{ring-is}
use Rattle.pth_ring.proofs.Calls.{HasNext, more, ring-alone}
use Rattle.pth_ring.proofs.Named.{AllUsed, map-append, has-place}
use Rattle.pth_ring.proofs.Shown.{events_same, live, used, ring-at}

from-skip : (e : ℕ) (ys : List ℕ) → (StandsIn e ys → ⊥) → from e (ys ++ e ∷ []) ≡ e ∷ []
from-skip e [] h = let t : (e == e) ≡ true = same_self e in rw t refl
from-skip e (y ∷ ys) h = let t : (y == e) ≡ false = not_same y e (λ k. h (inl (sym k))) in rw t (from-skip e ys (λ k. h (inr k)))

before-skip : (e : ℕ) (ys : List ℕ) → (StandsIn e ys → ⊥) → before e (ys ++ e ∷ []) ≡ ys
before-skip e [] h = let t : (e == e) ≡ true = same_self e in rw t refl
before-skip e (y ∷ ys) h = let t : (y == e) ≡ false = not_same y e (λ k. h (inl (sym k))) in rw t (ap (λ l. y ∷ l) (before-skip e ys (λ k. h (inr k))))

turned-end : (e : ℕ) (ys : List ℕ) → (StandsIn e ys → ⊥) → turned e (ys ++ e ∷ []) ≡ e ∷ ys
unfolding turned
turned-end e ys h = ap₂ (λ (a b : List ℕ). a ++ b) (from-skip e ys h) (before-skip e ys h)

-- ---- tables

-- one is skipped
each-one : {A : Type 0} (d : A) (e : ℕ) (f g : ℕ → A) → g e ≡ d → ((y : ℕ) → y ≢ e → g y ≡ f y) → g ≡ each (e ∷ []) (λ _. d) f
each-one {A = A} d e f g here other = fun_ext at
  where
    out : (y : ℕ) → y ≢ e → StandsIn y (e ∷ []) → ⊥
    out y n (inl k) = n k
    out y n (inr h) = h

    at : (y : ℕ) → g y ≡ each (e ∷ []) (λ _. d) f y
    at y = elim (cases_eq y e) [
      | inl k ↦ ap g k ∙ here ∙ sym (each-in (e ∷ []) (λ _. d) f y (inl k))
      | inr n ↦ other y n ∙ sym (each-out (e ∷ []) (λ _. d) f y (out y n))
    ]

-- one fewer is left to skip
each-less : {A : Type 0} (d : A) (e n : ℕ) (ys : List ℕ) (f g : ℕ → A) → g n ≡ d → ((y : ℕ) → (StandsIn y (e ∷ n ∷ ys) → ⊥) → g y ≡ f y) → each (e ∷ ys) (λ _. d) g ≡ each (e ∷ n ∷ ys) (λ _. d) f
each-less {A = A} d e n ys f g here other = fun_ext at
  where
    wide : (y : ℕ) → StandsIn y (e ∷ ys) → StandsIn y (e ∷ n ∷ ys)
    wide y (inl k) = inl k
    wide y (inr h) = inr (inr h)

    away : (y : ℕ) → (StandsIn y (e ∷ ys) → ⊥) → y ≢ n → StandsIn y (e ∷ n ∷ ys) → ⊥
    away y out m (inl k) = out (inl k)
    away y out m (inr (inl k)) = m k
    away y out m (inr (inr h)) = out (inr h)

    at : (y : ℕ) → each (e ∷ ys) (λ _. d) g y ≡ each (e ∷ n ∷ ys) (λ _. d) f y
    at y = elim (stands_or_not y (e ∷ ys)) [
      | inl h ↦ each-in (e ∷ ys) (λ _. d) g y h ∙ sym (each-in (e ∷ n ∷ ys) (λ _. d) f y (wide y h))
      | inr out ↦ each-out (e ∷ ys) (λ _. d) g y out ∙ elim (cases_eq y n) [
        | inl k ↦ ap g k ∙ here ∙ sym (each-in (e ∷ n ∷ ys) (λ _. d) f y (inr (inl k)))
        | inr m ↦ other y (away y out m) ∙ sym (each-out (e ∷ n ∷ ys) (λ _. d) f y (away y out m))
      ]
    ]

none-out : (y : ℕ) → StandsIn y [] → ⊥
none-out y h = h

-- the last of a ring goes
freed-end : (s : Events) (e : ℕ) → s.rings e ≡ e ∷ [] → freed e s ≡ ring_freed e s
freed-end s e alone =
    events_same (freed e s) (ring_freed e s)
    (each-one [] e s.rings (put (circle (rest_of (s.rings e)) s.rings) e []) (put_here _ e []) (λ y k. put_other _ e [] y k ∙ ap (λ (l : List ℕ). circle (rest_of l) s.rings y) alone ∙ circle-out [] s.rings y (none-out y)) ∙ ap (λ (l : List ℕ). each l (λ _. []) s.rings) (sym alone))
    (each-one None e s.events (put s.events e None) (put_here s.events e None) (λ y k. put_other s.events e None y k) ∙ ap (λ (l : List ℕ). each l (λ _. None) s.events) (sym alone))
    refl

-- the next one of a ring goes
module _ (s : Events) (e n : ℕ) (ys : List ℕ) (ring_e : s.rings e ≡ e ∷ n ∷ ys) (ring_n : s.rings n ≡ n ∷ (ys ++ e ∷ [])) (apart : n ≢ e) (out : StandsIn e ys → ⊥) where
  rings_are : (freed n s).rings ≡ put (circle (ys ++ e ∷ []) s.rings) n []
  rings_are = ap (λ (l : List ℕ). put (circle (rest_of l) s.rings) n []) ring_n

  ring_left : (freed n s).rings e ≡ e ∷ ys
  ring_left = ap (λ (f : ℕ → List ℕ). f e) rings_are ∙ put_other (circle (ys ++ e ∷ []) s.rings) n [] e (λ k. apart (sym k)) ∙ circle-in (ys ++ e ∷ []) s.rings e (StandsIn-append_right e ys (e ∷ []) (inl refl)) ∙ turned-end e ys out

  out_of : (y : ℕ) → (StandsIn y (e ∷ n ∷ ys) → ⊥) → StandsIn y (ys ++ e ∷ []) → ⊥
  out_of y o h = elim (StandsIn-append_cases y ys (e ∷ []) h) [ inl k ↦ o (inr (inr k)) | inr (inl k) ↦ o (inl k) | inr (inr w) ↦ absurd w ]

  freed-next : ring_freed e (freed n s) ≡ ring_freed e s
  freed-next =
      events_same (ring_freed e (freed n s)) (ring_freed e s)
      (ap₂ (λ (l : List ℕ) (f : ℕ → List ℕ). each l (λ _. []) f) ring_left rings_are
      ∙ each-less [] e n ys s.rings _ (put_here _ n []) (λ y o. put_other _ n [] y (λ k. o (inr (inl k))) ∙ circle-out (ys ++ e ∷ []) s.rings y (out_of y o))
      ∙ ap (λ (l : List ℕ). each l (λ _. []) s.rings) (sym ring_e))
      (ap (λ (l : List ℕ). each l (λ _. None) (put s.events n None)) ring_left
      ∙ each-less None e n ys s.events (put s.events n None) (put_here s.events n None) (λ y o. put_other s.events n None y (λ k. o (inr (inl k))))
      ∙ ap (λ (l : List ℕ). each l (λ _. None) s.events) (sym ring_e))
      refl

  freed-length : length ((freed n s).rings e) < length (s.rings e)
  freed-length = rw (ring_left, ring_e) (let short : length (e ∷ ys) < length (e ∷ n ∷ ys) = omega arith in short)

-- ---- nodes

module _ (x z : RingsOf) (e n : ℕ) (k : AreLinked x) (used_e : number_at x e ≢ 0) (next : n ≡ next_place (thing_at x) e) (gone : IsFreed x z n) where
  abbrev t : ℕ → ℕ
  t = number_at x

  -- the last one is gone
  pub freed-all : n ≡ e → events_of z ≡ ring_freed (t e) (events_of x)
  freed-all end =
      let one : ring (thing_at x) e ≡ e ∷ [] = ring-alone (thing_at x) e k.linked (live x k e used_e) (sym next ∙ end) in
      gone.events ∙ ap (λ (w : ℕ). freed (t w) (events_of x)) end ∙ freed-end (events_of x) (t e) (ring-at x k e used_e ∙ ap (map t) one)

  module _ (apart : n ≢ e) where
    has_next : HasNext (thing_at x) e
    has_next = more (thing_at x) e k.linked (live x k e used_e) (λ h. apart (next ∙ h))

    ys : List ℕ
    ys = has_next.rest

    circle_x : IsLinkedRing (thing_at x) (e ∷ n ∷ ys)
    unfolding ys
    circle_x = subst (λ (w : ℕ). IsLinkedRing (thing_at x) (e ∷ w ∷ has_next.rest)) (sym next) has_next.circle

    ring_e : ring (thing_at x) e ≡ e ∷ n ∷ ys
    ring_e = ring-is (thing_at x) e (n ∷ ys) circle_x

    ring_n : ring (thing_at x) n ≡ n ∷ (ys ++ e ∷ [])
    ring_n = ring-is (thing_at x) n (ys ++ e ∷ []) (record {
      links = closed-turn (next_place (thing_at x)) (prev_place (thing_at x)) (e ∷ []) (n ∷ ys) circle_x.links;
      distinct = distinct-turn (e ∷ []) (n ∷ ys) circle_x.distinct;
      live = λ y h. circle_x.live y (StandsIn-turn y (n ∷ ys) (e ∷ []) h);
      low = λ y h. circle_x.low y (StandsIn-turn y (n ∷ ys) (e ∷ []) h);
    })

    used_all : AllUsed t (e ∷ n ∷ ys)
    used_all v h = used x k v (circle_x.live v h)

    used_n : t n ≢ 0
    used_n = used_all n (inr (inl refl))

    numbers_e : ring_of x (t e) ≡ t e ∷ t n ∷ map t ys
    numbers_e = ring-at x k e used_e ∙ ap (map t) ring_e

    numbers_n : ring_of x (t n) ≡ t n ∷ (map t ys ++ t e ∷ [])
    numbers_n = ring-at x k n used_n ∙ ap (map t) ring_n ∙ ap (λ l. t n ∷ l) (map-append t ys (e ∷ []))

    numbers_apart : t n ≢ t e
    numbers_apart same =
        let h : StandsIn n (e ∷ []) = has-place (slot_of x) t k.kept.tied n (e ∷ []) used_n (λ v h. one v h) (inl same) in
        no h
      where
        one : (v : ℕ) → StandsIn v (e ∷ []) → t v ≢ 0
        one v (inl s) = subst (λ (w : ℕ). t w ≢ 0) (sym s) used_e
        one v (inr h) = absurd h

        no : StandsIn n (e ∷ []) → ⊥
        no (inl s) = apart s
        no (inr h) = h

    numbers_out : StandsIn (t e) (map t ys) → ⊥
    numbers_out h = circle_x.distinct.0 e (inr (has-place (slot_of x) t k.kept.tied e ys used_e (λ v w. used_all v (inr (inr w))) h)) refl

    pub number-still : number_at z e ≡ t e
    number-still = ap (λ (f : ℕ → ℕ). f e) gone.numbers ∙ put_other t n 0 e (λ s. apart (sym s))

    pub freed-more : ring_freed (t e) (events_of z) ≡ ring_freed (t e) (events_of x)
    freed-more = ap (ring_freed (t e)) gone.events ∙ freed-next (events_of x) (t e) (t n) (map t ys) numbers_e numbers_n numbers_apart numbers_out

    pub freed-shorter : length (ring_of z (number_at z e)) < length (ring_of x (number_at x e))
    freed-shorter = rw number-still (rw (ap (λ (s : Events). s.rings) gone.events) (freed-length (events_of x) (t e) (t n) (map t ys) numbers_e numbers_n numbers_apart numbers_out))
