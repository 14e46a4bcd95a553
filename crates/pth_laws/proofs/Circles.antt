-- Rings stay circles: each is read from each of its events on, and calls on the rings that no thread claims leave the others as they are.
use Rattle.std.proofs.Common.{◌≡◌, ◌≢◌, ◌⊎◌, ℕ, ◌+◌, ◌≤◌, ◌==◌, ◌&&◌, ◌||◌, not, Bool, true, false, if◌then◌else◌, List, [], ◌∷◌, ◌++◌, Option, Some, None, is_some, option_map, refl, sym, ◌∙◌, ap, ap₂, subst, inl, inr, arith, append_assoc}
use Rattle.std.proofs.lemmas.Bool.{cases_eq, true≢false, or_parts}
use Rattle.std.specs.List.{list_any}
use Rattle.pth_base.specs.Table.{put}
use Rattle.pth_base.specs.declared.errno.Errno.TheVariants.{EBUSY, EINVAL}
use Rattle.pth_base.specs.declared.event.EventSpec.{EventSpec}
use Rattle.pth_base.specs.declared.ids.Tid.{Tid}
use Rattle.pth_base.proofs.Tables.{put_by, put_here, put_other, same_self, not_same}
use Rattle.pth_ring.specs.declared.event.Event.{Event}
use Rattle.pth_base.specs.Chain.{StandsIn, Distinct}
use Rattle.pth_ring.specs.Ring.{ring_holds, from, before, turned, circle, rest_of}
use Rattle.pth_ring.specs.Rings.{Events, pending, is_event, is_claimed, has_claim, ring_refusal, concat_refusal, alone, chained, concatenated, isolated, freed, ring_freed}
use Rattle.pth_base.proofs.Chains.{stands_or_not, StandsIn-append_left, StandsIn-append_right, StandsIn-append_cases, distinct-apart, distinct-join, distinct-turn}
use Rattle.pth_ring.proofs.Lists.{ring_holds-in}
use Rattle.pth_ring.proofs.Turns.{split, turned-is, StandsIn-turned, StandsIn-unturned, circle-in, circle-out, each-in, each-out}
use Rattle.pth_model.specs.RingWaits.{claimant, claimant_by}
use Rattle.pth_laws.proofs.Along.{Arrangement, Alone, Chained, Joined, Isolated, Freed, RingFreed, arranged, MayArrange}

-- ---- lists

pub turned_once : (e : ℕ) (xs : List ℕ) → StandsIn e xs → Distinct xs → Distinct (turned e xs)
turned_once e xs h once =
    let s = split e xs h in
    subst Distinct (sym (turned-is e xs s)) (distinct-turn s.front (e ∷ s.back) (subst Distinct s.is once))

from_at : (g : ℕ) (p q : List ℕ) → (StandsIn g p → ⊥) → from g (p ++ g ∷ q) ≡ g ∷ q
from_at g [] q out = rw (same_self g) refl
from_at g (x ∷ p) q out = let other : (x == g) ≡ false = not_same x g (λ same. out (inl (sym same))) in rw other (from_at g p q (λ h. out (inr h)))

before_at : (g : ℕ) (p q : List ℕ) → (StandsIn g p → ⊥) → before g (p ++ g ∷ q) ≡ p
before_at g [] q out = rw (same_self g) refl
before_at g (x ∷ p) q out = let other : (x == g) ≡ false = not_same x g (λ same. out (inl (sym same))) in rw other (ap (λ (l : List ℕ). x ∷ l) (before_at g p q (λ h. out (inr h))))

turned_at : (g : ℕ) (p q : List ℕ) → (StandsIn g p → ⊥) → turned g (p ++ g ∷ q) ≡ g ∷ (q ++ p)
unfolding turned
turned_at g p q out = ap₂ (λ (a b : List ℕ). a ++ b) (from_at g p q out) (before_at g p q out)

-- where two lists have no number in common, and none twice, it is the same which comes first
turned_swapped : (g : ℕ) (a b : List ℕ) → Distinct (a ++ b) → StandsIn g a → turned g (b ++ a) ≡ turned g (a ++ b)
turned_swapped g a b once h =
    let s = split g a h in
    let p = s.front in
    let q = s.back in
    let apart : (x : ℕ) → StandsIn x a → (y : ℕ) → StandsIn y b → x ≢ y = distinct-apart a b once in
    let out_b : StandsIn g b → ⊥ = λ k. apart g h g k refl in
    let left : a ++ b ≡ p ++ g ∷ (q ++ b) = ap (λ (l : List ℕ). l ++ b) s.is ∙ append_assoc p (g ∷ q) b in
    let once_left : Distinct (p ++ g ∷ (q ++ b)) = subst Distinct left once in
    let out_p : StandsIn g p → ⊥ = λ k. distinct-apart p (g ∷ (q ++ b)) once_left g k g (inl refl) refl in
    let right : b ++ a ≡ (b ++ p) ++ g ∷ q = ap (λ (l : List ℕ). b ++ l) s.is ∙ sym (append_assoc b p (g ∷ q)) in
    let out_bp : StandsIn g (b ++ p) → ⊥ = λ k. elim (StandsIn-append_cases g b p k) [ inl i ↦ out_b i | inr i ↦ out_p i ] in
    ap (turned g) right ∙ turned_at g (b ++ p) q out_bp ∙ ap (λ (l : List ℕ). g ∷ l) (sym (append_assoc q b p)) ∙ sym (turned_at g p (q ++ b) out_p) ∙ ap (turned g) (sym left)

pub turned_again : (e g : ℕ) (xs : List ℕ) → Distinct xs → StandsIn e xs → StandsIn g xs → turned g (turned e xs) ≡ turned g xs
turned_again e g xs once h k =
    let s = split e xs h in
    let a = s.front in
    let b = e ∷ s.back in
    let once_ab : Distinct (a ++ b) = subst Distinct s.is once in
    ap (turned g) (turned-is e xs s)
    ∙ elim (StandsIn-append_cases g a b (subst (StandsIn g) s.is k)) [
      | inl i ↦ turned_swapped g a b once_ab i
      | inr i ↦ sym (turned_swapped g b a (distinct-turn a b once_ab) i)
    ]
    ∙ ap (turned g) (sym s.is)

-- ---- circles

pub record AreCircles (x : Events) : Type 0 where
  -- an event stands in its ring
  pub here : (e : ℕ) → is_event x e ≡ true → StandsIn e (x.rings e)
  pub own : (e g : ℕ) → StandsIn g (x.rings e) → StandsIn e (x.rings e)
  -- the ring of another event of a ring is this ring, read from that event on
  pub turns : (e g : ℕ) → StandsIn g (x.rings e) → x.rings g ≡ turned g (x.rings e)
  pub once : (e : ℕ) → Distinct (x.rings e)
  -- who stands in a ring was made
  pub low : (e g : ℕ) → StandsIn g (x.rings e) → g ≤ x.made

-- the ring of e is as it was, and so are those of the others in it
pub record IsSame (x y : Events) (e : ℕ) : Type 0 where
  pub ring : y.rings e ≡ x.rings e
  pub mates : (g : ℕ) → StandsIn g (x.rings e) → y.rings g ≡ x.rings g
  pub event : y.events e ≡ x.events e

-- it is one of these alone, and no thread claimed it
pub record IsFresh (x y : Events) (e : ℕ) : Type 0 where
  pub members : List ℕ
  pub once : Distinct members
  pub within : StandsIn e members
  pub turns : (g : ℕ) → StandsIn g members → y.rings g ≡ turned g members
  pub low : (g : ℕ) → StandsIn g members → g ≤ y.made
  pub free : is_claimed x e ≡ false

-- it is gone, and no thread claimed it
pub record IsGone (x y : Events) (e : ℕ) : Type 0 where
  pub free : is_claimed x e ≡ false
  pub ring : y.rings e ≡ []
  pub no_event : is_event y e ≡ false

abbrev pub Comes : Events → Events → ℕ → Type 0
Comes x y e = IsSame x y e ⊎ (IsFresh x y e ⊎ IsGone x y e)

none_twice : Distinct []
none_twice = tt

pub circles_come : (x y : Events) → AreCircles x → x.made ≤ y.made → ((e : ℕ) → Comes x y e) → AreCircles y
circles_come x y c more comes = record { here = λ e h. here_by e h (comes e); own = λ e g h. own_by e g h (comes e); turns = λ e g h. turns_by e g h (comes e); once = λ e. once_by e (comes e); low = λ e g h. low_by e g h (comes e) }
  where
    nowhere : (g : ℕ) (l : List ℕ) → l ≡ [] → StandsIn g l → ⊥
    nowhere g l none h = subst (StandsIn g) none h

    here_by : (e : ℕ) → is_event y e ≡ true → Comes x y e → StandsIn e (y.rings e)
    here_by e h (inl s) = subst (StandsIn e) (sym s.ring) (c.here e (ap is_some (sym s.event) ∙ h))
    here_by e h (inr (inl s)) = subst (StandsIn e) (sym (s.turns e s.within)) (StandsIn-turned e e s.members s.within s.within)
    here_by e h (inr (inr s)) = absurd (true≢false (sym h ∙ s.no_event))

    own_by : (e g : ℕ) → StandsIn g (y.rings e) → Comes x y e → StandsIn e (y.rings e)
    own_by e g h (inl s) = subst (StandsIn e) (sym s.ring) (c.own e g (subst (StandsIn g) s.ring h))
    own_by e g h (inr (inl s)) = subst (StandsIn e) (sym (s.turns e s.within)) (StandsIn-turned e e s.members s.within s.within)
    own_by e g h (inr (inr s)) = absurd (nowhere g (y.rings e) s.ring h)

    inside : (e g : ℕ) (s : IsFresh x y e) → StandsIn g (y.rings e) → StandsIn g s.members
    inside e g s h = StandsIn-unturned g e s.members s.within (subst (StandsIn g) (s.turns e s.within) h)

    turns_by : (e g : ℕ) → StandsIn g (y.rings e) → Comes x y e → y.rings g ≡ turned g (y.rings e)
    turns_by e g h (inl s) = let k = subst (StandsIn g) s.ring h in s.mates g k ∙ c.turns e g k ∙ ap (turned g) (sym s.ring)
    turns_by e g h (inr (inl s)) = let k = inside e g s h in s.turns g k ∙ sym (turned_again e g s.members s.once s.within k) ∙ ap (turned g) (sym (s.turns e s.within))
    turns_by e g h (inr (inr s)) = absurd (nowhere g (y.rings e) s.ring h)

    once_by : (e : ℕ) → Comes x y e → Distinct (y.rings e)
    once_by e (inl s) = subst Distinct (sym s.ring) (c.once e)
    once_by e (inr (inl s)) = subst Distinct (sym (s.turns e s.within)) (turned_once e s.members s.within s.once)
    once_by e (inr (inr s)) = subst Distinct (sym s.ring) none_twice

    low_by : (e g : ℕ) → StandsIn g (y.rings e) → Comes x y e → g ≤ y.made
    low_by e g h (inl s) = let k = c.low e g (subst (StandsIn g) s.ring h) in omega (arith, k, more)
    low_by e g h (inr (inl s)) = s.low g (inside e g s h)
    low_by e g h (inr (inr s)) = absurd (nowhere g (y.rings e) s.ring h)

-- ---- rings that no thread claims

has_none : (o : Option Event) → has_claim o ≡ false → claimant_by o ≡ None
has_none None h = refl
has_none (Some v) h = by_claim v.claim h
  where
    by_claim : (o : Option Tid) → is_some o ≡ false → option_map (λ (t : Tid). t.0) o ≡ None
    by_claim None h = refl
    by_claim (Some t) h = absurd (true≢false h)

pub none_any : (p : ℕ → Bool) (xs : List ℕ) → list_any p xs ≡ false → (e : ℕ) → StandsIn e xs → p e ≡ false
none_any p [] h e there = absurd there
none_any p (x ∷ xs) h e (inl same) = ap p same ∙ (or_parts (p x) (list_any p xs) h).0
none_any p (x ∷ xs) h e (inr there) = none_any p xs (or_parts (p x) (list_any p xs) h).1 e there

all_none : (p : ℕ → Bool) (xs : List ℕ) → ((e : ℕ) → StandsIn e xs → p e ≡ false) → list_any p xs ≡ false
all_none p [] none = refl
all_none p (x ∷ xs) none = rw (none x (inl refl)) (all_none p xs (λ e h. none e (inr h)))

pub unclaimed_in : (x : Events) (e g : ℕ) → is_claimed x e ≡ false → StandsIn g (x.rings e) → claimant x g ≡ None
unclaimed_in x e g free h = has_none (x.events g) (none_any (λ y. has_claim (x.events y)) (x.rings e) free g h)

-- what a refusal leaves
pub free_event : (x : Events) (e : ℕ) → ring_refusal x e ≡ None → (is_event x e ≡ true) × (is_claimed x e ≡ false)
free_event x e h = by_tests (is_event x e) (is_claimed x e) h
  where
    by_tests : (there has : Bool) → (if not there then Some EINVAL else (if has then Some EBUSY else None)) ≡ None → (there ≡ true) × (has ≡ false)
    by_tests false has h = absurd (cc h)
    by_tests true true h = absurd (cc h)
    by_tests true false h = (refl, refl)

two_events : (x : Events) (a b : ℕ) → concat_refusal x a b ≡ None → (is_event x a ≡ true) × (is_event x b ≡ true) × (ring_holds a (x.rings b) ≡ false) × (is_claimed x a ≡ false) × (is_claimed x b ≡ false)
two_events x a b h = by_tests (is_event x a) (is_event x b) (ring_holds a (x.rings b)) (is_claimed x a) (is_claimed x b) h
  where
    by_tests : (one two together one_has two_has : Bool) → (if not (one && two) then Some EINVAL else (if together then Some EINVAL else (if one_has || two_has then Some EBUSY else None))) ≡ None → (one ≡ true) × (two ≡ true) × (together ≡ false) × (one_has ≡ false) × (two_has ≡ false)
    by_tests false two together one_has two_has h = absurd (cc h)
    by_tests true false together one_has two_has h = absurd (cc h)
    by_tests true true true one_has two_has h = absurd (cc h)
    by_tests true true false true two_has h = absurd (cc h)
    by_tests true true false false true h = absurd (cc h)
    by_tests true true false false false h = (refl, refl, refl, refl, refl)

module _ (x : Events) (c : AreCircles x) where
  -- of two events of a ring each stands in the ring of the other
  pub mates : (e g : ℕ) → StandsIn g (x.rings e) → StandsIn e (x.rings g)
  mates e g h = subst (StandsIn e) (sym (c.turns e g h)) (StandsIn-turned e g (x.rings e) h (c.own e g h))

  -- who is not in the ring of a has nobody of it in the own ring
  pub apart : (a e g : ℕ) → (StandsIn e (x.rings a) → ⊥) → StandsIn g (x.rings e) → StandsIn g (x.rings a) → ⊥
  apart a e g out h k =
      out (StandsIn-unturned e g (x.rings a) k (subst (StandsIn e) (c.turns a g k) (mates e g h)))

  -- so no thread claims the ring of another event of a ring that no thread claims
  pub free_mate : (a e : ℕ) → is_claimed x a ≡ false → StandsIn e (x.rings a) → is_claimed x e ≡ false
  free_mate a e free h = all_none (λ y. has_claim (x.events y)) (x.rings e) (λ g k. none_any (λ y. has_claim (x.events y)) (x.rings a) free g (StandsIn-unturned g e (x.rings a) h (subst (StandsIn g) (c.turns a e h) k)))

  -- a ring begins with its event
  pub begins : (e : ℕ) → StandsIn e (x.rings e) → x.rings e ≡ e ∷ rest_of (x.rings e)
  begins e h = let s = split e (x.rings e) h in let is = c.turns e e h ∙ turned-is e (x.rings e) s in is ∙ ap (λ (l : List ℕ). e ∷ rest_of l) (sym is)

  rest_once : (e : ℕ) → StandsIn e (x.rings e) → ((y : ℕ) → StandsIn y (rest_of (x.rings e)) → y ≢ e) × Distinct (rest_of (x.rings e))
  rest_once e h = let once : Distinct (e ∷ rest_of (x.rings e)) = subst Distinct (begins e h) (c.once e) in (once.0, once.1)

  in_rest : (e g : ℕ) → StandsIn e (x.rings e) → StandsIn g (rest_of (x.rings e)) → StandsIn g (x.rings e)
  in_rest e g h k = subst (StandsIn g) (sym (begins e h)) (inr k)

  in_ring : (e g : ℕ) → StandsIn e (x.rings e) → StandsIn g (x.rings e) → (g ≡ e) ⊎ StandsIn g (rest_of (x.rings e))
  in_ring e g h k = by_place (subst (StandsIn g) (begins e h) k)
    where
      by_place : StandsIn g (e ∷ rest_of (x.rings e)) → (g ≡ e) ⊎ StandsIn g (rest_of (x.rings e))
      by_place k = k

  -- the next number is that of no event, and stands in no ring
  next_out : (e : ℕ) → StandsIn (x.made + 1) (x.rings e) → ⊥
  next_out e h = let low = c.low e (x.made + 1) h in omega (arith, low)

  next_free : is_claimed x (x.made + 1) ≡ false
  next_free = all_none (λ y. has_claim (x.events y)) (x.rings (x.made + 1)) (λ g h. absurd (next_out (x.made + 1) (c.own (x.made + 1) g h)))

  next_none : claimant x (x.made + 1) ≡ None
  next_none = by_event (x.events (x.made + 1)) refl
    where
      by_event : (o : Option Event) → x.events (x.made + 1) ≡ o → claimant x (x.made + 1) ≡ None
      by_event None same = ap claimant_by same
      by_event (Some v) same = absurd (next_out (x.made + 1) (c.here (x.made + 1) (ap is_some same)))

  -- ---- what comes of each ring

  -- one more event
  pending_none : (spec : EventSpec) (e : ℕ) → claimant_by (put x.events (x.made + 1) (Some (pending spec)) e) ≡ claimant x e
  pending_none spec e = put_by (λ o. claimant_by o ≡ claimant x e) x.events (x.made + 1) (Some (pending spec)) e (λ here. sym next_none ∙ ap (claimant x) (sym here)) (λ other. refl)

  alone_comes : (spec : EventSpec) (e : ℕ) → Comes x (alone spec x) e
  alone_comes spec e = elim (cases_eq e (x.made + 1)) [
    | inl own ↦ inr (inl (record {
      members = (x.made + 1) ∷ [];
      once = ((λ y h. absurd h), none_twice);
      within = inl own;
      turns = λ g h. circle-in ((x.made + 1) ∷ []) x.rings g h;
      low = λ g h. is_next g h;
      free = ap (is_claimed x) own ∙ next_free;
    }))
    | inr other ↦ inl (record {
      ring = circle-out ((x.made + 1) ∷ []) x.rings e (λ h. not_next e other h);
      mates = λ g h. circle-out ((x.made + 1) ∷ []) x.rings g (λ k. not_next g (λ same. next_out e (subst (λ (i : ℕ). StandsIn i (x.rings e)) same h)) k);
      event = put_other x.events (x.made + 1) (Some (pending spec)) e other;
    })
  ]
    where
      is_next : (g : ℕ) → StandsIn g ((x.made + 1) ∷ []) → g ≤ x.made + 1
      is_next g (inl same) = omega (arith, same)
      is_next g (inr h) = absurd h

      not_next : (g : ℕ) → g ≢ (x.made + 1) → StandsIn g ((x.made + 1) ∷ []) → ⊥
      not_next g other (inl same) = other same
      not_next g other (inr h) = absurd h

  module _ (a : ℕ) (free : is_claimed x a ≡ false) (there : is_event x a ≡ true) where
    own_a : StandsIn a (x.rings a)
    own_a = c.here a there

    chained_comes : (spec : EventSpec) (e : ℕ) → Comes x (chained spec a x) e
    chained_comes spec e = elim (stands_or_not e (x.rings a ++ (x.made + 1) ∷ [])) [
      | inl within ↦ inr (inl (record {
        members = x.rings a ++ (x.made + 1) ∷ [];
        once = distinct-join (x.rings a) ((x.made + 1) ∷ []) (c.once a) ((λ y h. absurd h), none_twice) (λ i h j k same. not_both i j h k same);
        within = within;
        turns = λ g h. circle-in (x.rings a ++ (x.made + 1) ∷ []) x.rings g h;
        low = λ g h. elim (StandsIn-append_cases g (x.rings a) ((x.made + 1) ∷ []) h) [ inl k ↦ (let low = c.low a g k in omega (arith, low)) | inr k ↦ is_next g k ];
        free = elim (StandsIn-append_cases e (x.rings a) ((x.made + 1) ∷ []) within) [ inl k ↦ free_mate a e free k | inr k ↦ at_next e k ];
      }))
      | inr out ↦ inl (record {
        ring = circle-out (x.rings a ++ (x.made + 1) ∷ []) x.rings e out;
        mates = λ g h. circle-out (x.rings a ++ (x.made + 1) ∷ []) x.rings g (λ k. elim (StandsIn-append_cases g (x.rings a) ((x.made + 1) ∷ []) k) [ inl i ↦ apart a e g (λ j. out (StandsIn-append_left e (x.rings a) ((x.made + 1) ∷ []) j)) h i | inr i ↦ next_mate e g h i ]);
        event = put_other x.events (x.made + 1) (Some (pending spec)) e (λ same. out (StandsIn-append_right e (x.rings a) ((x.made + 1) ∷ []) (inl same)));
      })
    ]
      where
        not_both : (i j : ℕ) → StandsIn i (x.rings a) → StandsIn j ((x.made + 1) ∷ []) → i ≢ j
        not_both i j h (inl at) same = next_out a (subst (λ (k : ℕ). StandsIn k (x.rings a)) (same ∙ at) h)
        not_both i j h (inr k) same = absurd k

        is_next : (g : ℕ) → StandsIn g ((x.made + 1) ∷ []) → g ≤ x.made + 1
        is_next g (inl same) = omega (arith, same)
        is_next g (inr h) = absurd h

        at_next : (e : ℕ) → StandsIn e ((x.made + 1) ∷ []) → is_claimed x e ≡ false
        at_next e (inl same) = ap (is_claimed x) same ∙ next_free
        at_next e (inr h) = absurd h

        next_mate : (e g : ℕ) → StandsIn g (x.rings e) → StandsIn g ((x.made + 1) ∷ []) → ⊥
        next_mate e g h (inl same) = next_out e (subst (λ (k : ℕ). StandsIn k (x.rings e)) same h)
        next_mate e g h (inr k) = absurd k

    isolated_comes : (e : ℕ) → Comes x (isolated a x) e
    isolated_comes e = elim (cases_eq e a) [
      | inl own ↦ inr (inl (record {
        members = a ∷ [];
        once = ((λ y h. absurd h), none_twice);
        within = inl own;
        turns = λ g h. circle-in (a ∷ []) (circle (rest_of (x.rings a)) x.rings) g h;
        low = λ g h. is_low g h;
        free = ap (is_claimed x) own ∙ free;
      }))
      | inr other ↦ by_rest other (stands_or_not e (rest_of (x.rings a)))
    ]
      where
        is_low : (g : ℕ) → StandsIn g (a ∷ []) → g ≤ x.made
        is_low g (inl same) = let low = c.low a a own_a in omega (arith, low, same)
        is_low g (inr h) = absurd h

        not_own : (g : ℕ) → g ≢ a → StandsIn g (a ∷ []) → ⊥
        not_own g other (inl same) = other same
        not_own g other (inr h) = absurd h

        outside : (g : ℕ) → (StandsIn g (x.rings a) → ⊥) → circle (a ∷ []) (circle (rest_of (x.rings a)) x.rings) g ≡ x.rings g
        outside g out = circle-out (a ∷ []) (circle (rest_of (x.rings a)) x.rings) g (not_own g (λ same. out (subst (λ (i : ℕ). StandsIn i (x.rings a)) (sym same) own_a))) ∙ circle-out (rest_of (x.rings a)) x.rings g (λ k. out (in_rest a g own_a k))

        by_rest : e ≢ a → StandsIn e (rest_of (x.rings a)) ⊎ (StandsIn e (rest_of (x.rings a)) → ⊥) → Comes x (isolated a x) e
        by_rest other (inl within) = inr (inl (record {
          members = rest_of (x.rings a);
          once = (rest_once a own_a).1;
          within = within;
          turns = λ g h. circle-out (a ∷ []) (circle (rest_of (x.rings a)) x.rings) g (not_own g ((rest_once a own_a).0 g h)) ∙ circle-in (rest_of (x.rings a)) x.rings g h;
          low = λ g h. c.low a g (in_rest a g own_a h);
          free = free_mate a e free (in_rest a e own_a within);
        }))
        by_rest other (inr out) =
            let out_a : StandsIn e (x.rings a) → ⊥ = λ h. elim (in_ring a e own_a h) [ inl same ↦ other same | inr k ↦ out k ] in
            inl (record { ring = outside e out_a; mates = λ g h. outside g (λ k. apart a e g out_a h k); event = refl })

    freed_comes : (e : ℕ) → Comes x (freed a x) e
    freed_comes e = elim (cases_eq e a) [
      | inl own ↦ inr (inr (record {
        free = ap (is_claimed x) own ∙ free;
        ring = ap (put (circle (rest_of (x.rings a)) x.rings) a []) own ∙ put_here (circle (rest_of (x.rings a)) x.rings) a [];
        no_event = ap (λ (i : ℕ). is_some (put x.events a None i)) own ∙ ap is_some (put_here x.events a None);
      }))
      | inr other ↦ by_rest other (stands_or_not e (rest_of (x.rings a)))
    ]
      where
        outside : (g : ℕ) → (StandsIn g (x.rings a) → ⊥) → put (circle (rest_of (x.rings a)) x.rings) a [] g ≡ x.rings g
        outside g out = put_other (circle (rest_of (x.rings a)) x.rings) a [] g (λ same. out (subst (λ (i : ℕ). StandsIn i (x.rings a)) (sym same) own_a)) ∙ circle-out (rest_of (x.rings a)) x.rings g (λ k. out (in_rest a g own_a k))

        by_rest : e ≢ a → StandsIn e (rest_of (x.rings a)) ⊎ (StandsIn e (rest_of (x.rings a)) → ⊥) → Comes x (freed a x) e
        by_rest other (inl within) = inr (inl (record {
          members = rest_of (x.rings a);
          once = (rest_once a own_a).1;
          within = within;
          turns = λ g h. put_other (circle (rest_of (x.rings a)) x.rings) a [] g ((rest_once a own_a).0 g h) ∙ circle-in (rest_of (x.rings a)) x.rings g h;
          low = λ g h. c.low a g (in_rest a g own_a h);
          free = free_mate a e free (in_rest a e own_a within);
        }))
        by_rest other (inr out) =
            let out_a : StandsIn e (x.rings a) → ⊥ = λ h. elim (in_ring a e own_a h) [ inl same ↦ other same | inr k ↦ out k ] in
            inl (record { ring = outside e out_a; mates = λ g h. outside g (λ k. apart a e g out_a h k); event = put_other x.events a None e other })

    ring_freed_comes : (e : ℕ) → Comes x (ring_freed a x) e
    ring_freed_comes e = elim (stands_or_not e (x.rings a)) [
      | inl within ↦ inr (inr (record { free = free_mate a e free within; ring = each-in (x.rings a) (λ (l : List ℕ). []) x.rings e within; no_event = ap is_some (each-in (x.rings a) (λ (o : Option Event). None) x.events e within) }))
      | inr out ↦ inl (record {
        ring = each-out (x.rings a) (λ (l : List ℕ). []) x.rings e out;
        mates = λ g h. each-out (x.rings a) (λ (l : List ℕ). []) x.rings g (λ k. apart a e g out h k);
        event = each-out (x.rings a) (λ (o : Option Event). None) x.events e out;
      })
    ]

    -- ---- claims stay

    freed_claims : (e : ℕ) → claimant (freed a x) e ≡ claimant x e
    freed_claims e = put_by (λ o. claimant_by o ≡ claimant x e) x.events a None e (λ here. sym (unclaimed_in x a a free own_a) ∙ ap (claimant x) (sym here)) (λ other. refl)

    ring_freed_claims : (e : ℕ) → claimant (ring_freed a x) e ≡ claimant x e
    ring_freed_claims e = elim (stands_or_not e (x.rings a)) [
      | inl within ↦ ap claimant_by (each-in (x.rings a) (λ (o : Option Event). None) x.events e within) ∙ sym (unclaimed_in x a e free within)
      | inr out ↦ ap claimant_by (each-out (x.rings a) (λ (o : Option Event). None) x.events e out)
    ]

  joined_comes : (a b : ℕ) → concat_refusal x a b ≡ None → (e : ℕ) → Comes x (concatenated a b x) e
  joined_comes a b may e = elim (stands_or_not e (x.rings a ++ x.rings b)) [
    | inl within ↦ inr (inl (record {
      members = x.rings a ++ x.rings b;
      once = distinct-join (x.rings a) (x.rings b) (c.once a) (c.once b) (λ i h j k same. apart b a i out_b h (subst (λ (n : ℕ). StandsIn n (x.rings b)) (sym same) k));
      within = within;
      turns = λ g h. circle-in (x.rings a ++ x.rings b) x.rings g h;
      low = λ g h. elim (StandsIn-append_cases g (x.rings a) (x.rings b) h) [ inl k ↦ c.low a g k | inr k ↦ c.low b g k ];
      free = elim (StandsIn-append_cases e (x.rings a) (x.rings b) within) [ inl k ↦ free_mate a e known.3 k | inr k ↦ free_mate b e known.4 k ];
    }))
    | inr out ↦ inl (record {
      ring = circle-out (x.rings a ++ x.rings b) x.rings e out;
      mates = λ g h. circle-out (x.rings a ++ x.rings b) x.rings g (λ k. elim (StandsIn-append_cases g (x.rings a) (x.rings b) k) [ inl i ↦ apart a e g (λ j. out (StandsIn-append_left e (x.rings a) (x.rings b) j)) h i | inr i ↦ apart b e g (λ j. out (StandsIn-append_right e (x.rings a) (x.rings b) j)) h i ]);
      event = refl;
    })
  ]
    where
      known : (is_event x a ≡ true) × (is_event x b ≡ true) × (ring_holds a (x.rings b) ≡ false) × (is_claimed x a ≡ false) × (is_claimed x b ≡ false)
      known = two_events x a b may

      out_b : StandsIn a (x.rings b) → ⊥
      out_b h = true≢false (sym (ring_holds-in a (x.rings b) h) ∙ known.2)

  -- ---- every call on rings

  pub comes_by : (q : Arrangement) → MayArrange x q → (e : ℕ) → Comes x (arranged q x) e
  comes_by (Alone spec) may e = alone_comes spec e
  comes_by (Chained spec a) may e = let p = free_event x a may in chained_comes a p.1 p.0 spec e
  comes_by (Joined a b) may e = joined_comes a b may e
  comes_by (Isolated a) may e = let p = free_event x a may in isolated_comes a p.1 p.0 e
  comes_by (Freed a) may e = let p = free_event x a may in freed_comes a p.1 p.0 e
  comes_by (RingFreed a) may e = let p = free_event x a may in ring_freed_comes a p.1 p.0 e

  pub claims_by : (q : Arrangement) → MayArrange x q → (e : ℕ) → claimant (arranged q x) e ≡ claimant x e
  claims_by (Alone spec) may e = pending_none spec e
  claims_by (Chained spec a) may e = pending_none spec e
  claims_by (Joined a b) may e = refl
  claims_by (Isolated a) may e = refl
  claims_by (Freed a) may e = let p = free_event x a may in freed_claims a p.1 p.0 e
  claims_by (RingFreed a) may e = let p = free_event x a may in ring_freed_claims a p.1 p.0 e

  made_by : (q : Arrangement) → x.made ≤ (arranged q x).made
  made_by (Alone spec) = omega arith
  made_by (Chained spec a) = omega arith
  made_by (Joined a b) = omega arith
  made_by (Isolated a) = omega arith
  made_by (Freed a) = omega arith
  made_by (RingFreed a) = omega arith

  pub circles_by : (q : Arrangement) → MayArrange x q → AreCircles (arranged q x)
  circles_by q may = circles_come x (arranged q x) c (made_by q) (comes_by q may)
