-- The first circle is found from the threads in the system, one after another.
use Rattle.std.proofs.Common.{◌≡◌, ◌≢◌, ◌↔◌, ℕ, ◌+◌, ◌<◌, ◌≤◌, List, length, map, get_or, Contains, Option, Some, None, IsSome, is_some, option_and_then, refl, sym, ap, ◌∙◌, arith, subst, inl, inr}
use Rattle.std.specs.List.Sorted.{IsStrictlyIncreasing}
use Rattle.std.proofs.lemmas.Bool.{cases_lt}
use Rattle.std.proofs.lemmas.List.{length-map, get_or-map}
use Rattle.std.proofs.lemmas.List.Kept.{AllPairs-from_increasing}
use Rattle.std.proofs.lemmas.Option.{same_Some}
use Rattle.pth_base.specs.declared.ids.Tid.{Tid}
use Rattle.pth_base.specs.Naming.{by_slot, seen}
use Rattle.pth_base.specs.Table.{table}
use Rattle.pth_threads.specs.Threads.{ThreadsOf, number_of, tid_from, slot_of}
use Rattle.pth_model.specs.Changes.{blocked_in}
use Rattle.pth_model.specs.RingWaits.{awaited_in}
use Rattle.pth_model.specs.State.{State}
use Rattle.pth_world.specs.Shows.{StandsFor}
use Rattle.pth_world.specs.World.{WorldOf}
use Rattle.pth_audit.specs.Blocking.{IsCircle, IsLeast, IsFirstCircle, IsBack, along, blocks_on, another, has_it, wanted}
use Rattle.pth_audit.proofs.Circles.{along-none, circle_back, circle_made, some_next}
use Rattle.pth_audit.proofs.Few.{IsIn, few, is_in_at, place_of, apart_from_places}

module _ (b : ℕ → Option ℕ) (ts : List ℕ) (all : (u v : ℕ) → b u ≡ Some v → IsIn u ts) where
  -- the threads of a circle are among all, and are no more
  among : (us : List ℕ) → IsCircle b us → (i : ℕ) → i < length us → IsIn (get_or us i 0) ts
  among us c i low = (let n = some_next b us c i low in all (get_or us i 0) n.0 n.1)

  no_more : (us : List ℕ) → IsCircle b us → length us ≤ length ts
  no_more us c = few us ts (apart_from_places us c.distinct) (λ x is. (let p = place_of x us is in subst (λ y. IsIn y ts) p.2 (among us c p.0 p.1)))

  -- those before place i do not lead back
  abbrev pub NoneBack : ℕ → Type 0
  NoneBack i = (j : ℕ) → j < i → (k : ℕ) → 1 ≤ k → k ≤ length ts → along b k (get_or ts j 0) ≢ Some (get_or ts j 0)

  pub none_next : (i : ℕ) → NoneBack i → IsBack b (length ts) (get_or ts i 0) None → NoneBack (i + 1)
  none_next i before here j low = elim (cases_lt j i) [
    | inl early ↦ before j early
    | inr late ↦ (let same : i ≡ j = omega (arith, late, low) in subst (λ k. (n : ℕ) → 1 ≤ n → n ≤ length ts → along b n (get_or ts k 0) ≢ Some (get_or ts k 0)) same here)
  ]

  -- a thread of a circle leads back, so it stands at a place that is not before i
  not_before : (i : ℕ) → NoneBack i → (us : List ℕ) → IsCircle b us → (n : ℕ) → n < length us → (j : ℕ) → get_or ts j 0 ≡ get_or us n 0 → i ≤ j
  not_before i before us c n low j same = elim (cases_lt j i) [
    | inl early ↦ absurd (before j early (length us) c.some (no_more us c) (subst (λ u. along b (length us) u ≡ Some u) (sym same) (circle_back b us c n low)))
    | inr late ↦ late
  ]

  pub no_circle : NoneBack (length ts) → IsFirstCircle b None
  no_circle before us c =
      let p = place_of (get_or us 0 0) ts (among us c 0 (omega (arith, c.some))) in
      omega (arith, not_before (length ts) before us c 0 (omega (arith, c.some)) p.0 p.2, p.1)

  pub least : IsStrictlyIncreasing ts → (i : ℕ) → NoneBack i → IsLeast b (get_or ts i 0)
  least rising i before us c n low =
      let p = place_of (get_or us n 0) ts (among us c n low) in
      let past = not_before i before us c n low p.0 p.2 in
      elim (cases_lt i p.0) [
        | inl later ↦ (let h : get_or ts i 0 < get_or ts p.0 0 = AllPairs-from_increasing ts rising i p.0 0 later p.1 in let e = p.2 in omega arith)
        | inr same ↦ (let at : i ≡ p.0 = omega (arith, past, same) in let e = ap (λ k. get_or ts k 0) at ∙ p.2 in omega (arith, e))
      ]

-- ---- the threads of a world

module _ {P S H : Type 0} (w : WorldOf P S H) (s : State P S H) (st : StandsFor w s) where
  -- who is not in the system blocks on nobody
  unknown_blocks : (t : ℕ) → slot_of w.threads.records t ≡ None → blocks_on s t ≡ None
  unfolding seen
  unknown_blocks t none =
      let progress : s.control.threads.progress t ≡ None = ap (λ f. f t) st.control.threads.progress ∙ ap (by_slot None (table None w.threads.progress)) none in
      ap (λ p. another t (option_and_then (has_it s.resources.store.mutexes) (wanted (awaited_in (blocked_in p))))) progress

  some_slot : (o : Option ℕ) (t v : ℕ) → slot_of w.threads.records t ≡ o → blocks_on s t ≡ Some v → IsSome (slot_of w.threads.records t)
  some_slot (Some u) t v is blocks = ap is_some is
  some_slot None t v is blocks = absurd (let e = sym (unknown_blocks t is) ∙ blocks in cc e)

  -- the list of all threads has each one that blocks on another
  pub blocking_listed : (ts : List Tid) → ((t : Tid) → Contains ts t ↔ IsSome (slot_of w.threads.records t.0)) → (u v : ℕ) → blocks_on s u ≡ Some v → IsIn u (map number_of ts)
  blocking_listed ts listed u v blocks =
      let p = (listed (tid_from u)).1 (some_slot (slot_of w.threads.records u) u v refl blocks) in
      let low : p.0 < length (map number_of ts) = omega (arith, p.1, length-map ts number_of) in
      subst (λ x. IsIn x (map number_of ts)) (get_or-map number_of ts p.0 (tid_from u) 0 p.1 ∙ ap number_of p.2) (is_in_at (map number_of ts) p.0 low)

-- the list as a call gave it
pub listed_as : {P S H : Type 0} (w : WorldOf P S H) (x : ThreadsOf) (ts given : List Tid) → x ≡ w.threads.records → ts ≡ given → ((t : Tid) → Contains given t ↔ IsSome (slot_of x t.0)) → (t : Tid) → Contains ts t ↔ IsSome (slot_of w.threads.records t.0)
listed_as w x ts given same is listed t = rw is (subst (λ (y : ThreadsOf). Contains given t ↔ IsSome (slot_of y t.0)) same (listed t))

module _ (b : ℕ → Option ℕ) (ts : List Tid) (all : (u v : ℕ) → b u ≡ Some v → IsIn u (map number_of ts)) (rising : IsStrictlyIncreasing (map number_of ts)) where
  -- the thread at a place, in both lists
  pub same_there : (i : ℕ) → i < length ts → get_or (map number_of ts) i 0 ≡ (get_or ts i (tid_from 0)).0
  same_there i low = get_or-map number_of ts i (tid_from 0) 0 low

  -- the walk from the thread at place i led back: these are the threads along it
  pub first_circle : (i n : ℕ) (circle : List Tid) → i < length ts → NoneBack b (map number_of ts) all i → IsBack b (length (map number_of ts)) (get_or ts i (tid_from 0)).0 (Some n)
      → (length circle ≡ n) × ((k : ℕ) → k < n → along b k (get_or ts i (tid_from 0)).0 ≡ Some (get_or (map number_of circle) k 0)) → IsFirstCircle b (Some circle)
  first_circle i n circle low before back gone =
      let t = (get_or ts i (tid_from 0)).0 in
      let made = circle_made b t n (map number_of circle) back.0 (length-map circle number_of ∙ gone.0) gone.1 back.2 back.3 in
      let head : get_or (map number_of ts) i 0 ≡ get_or (map number_of circle) 0 0 = same_there i low ∙ same_Some t (get_or (map number_of circle) 0 0) (sym (along-none b t) ∙ gone.1 0 back.0) in
      (made, subst (IsLeast b) head (least b (map number_of ts) all rising i before))
