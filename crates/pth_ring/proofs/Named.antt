-- What is done to rings of places is done to rings of numbers.
use Rattle.std.proofs.Common.{◌≡◌, ◌≢◌, ℕ, ◌==◌, true, false, Bool, if◌then◌else◌, ◌||◌, cond, List, [], ◌∷◌, ◌++◌, map, Option, Some, None, option_map, find, refl, sym, ◌∙◌, ap, ap₂, inl, inr, subst}
use Rattle.std.specs.List.{list_any}
use Rattle.std.proofs.lemmas.Bool.{cases_eq}
use mathlib.Core.Path.{fun_ext}
use Rattle.pth_base.specs.Table.{put}
use Rattle.pth_base.specs.Naming.{IsTied, by_slot, seen}
use Rattle.pth_base.specs.Chain.{StandsIn}
use Rattle.pth_base.proofs.Tables.{same_self, not_same, put_here, put_other}
use Rattle.pth_base.proofs.Chains.{stands_or_not}
use Rattle.pth_ring.specs.Ring.{ring_holds, from, before, turned, circle, each, rest_of, head_event, turned_once}
use Rattle.pth_ring.specs.Arena.{rings_by_number}
use Rattle.pth_ring.proofs.Turns.{circle-in, circle-out, each-in, each-out}

-- each of these places has a number
abbrev pub AllUsed : (ℕ → ℕ) → List ℕ → Type 0
AllUsed t xs = (v : ℕ) → StandsIn v xs → t v ≢ 0

pub map-append : (t : ℕ → ℕ) (xs ys : List ℕ) → map t (xs ++ ys) ≡ map t xs ++ map t ys
map-append t [] ys = refl
map-append t (x ∷ xs) ys = ap (λ l. t x ∷ l) (map-append t xs ys)

module _ (s : ℕ → Option ℕ) (t : ℕ → ℕ) (tied : IsTied s t) where
  -- numbers tell places in use apart
  pub same_place : (u v : ℕ) → t u ≢ 0 → t v ≢ 0 → t u ≡ t v → u ≡ v
  same_place u v hu hv k = one (tied.slot u hu) (ap s k ∙ tied.slot v hv)
    where
      one : s (t u) ≡ Some u → s (t u) ≡ Some v → u ≡ v
      one a b = cc

  pub test_is : (u v : ℕ) → t u ≢ 0 → t v ≢ 0 → (t u == t v) ≡ (u == v)
  test_is u v hu hv = elim (cases_eq u v) [
    | inl k ↦ ap (λ w. t u == t w) (sym k) ∙ same_self (t u) ∙ sym (ap (λ w. u == w) (sym k) ∙ same_self u)
    | inr n ↦ not_same (t u) (t v) (λ k. n (same_place u v hu hv k)) ∙ sym (not_same u v n)
  ]

  choose_map : (b : Bool) (p q : List ℕ) → map t (if b then p else q) ≡ (if b then map t p else map t q)
  choose_map true p q = refl
  choose_map false p q = refl

  pub from_named : (u : ℕ) (xs : List ℕ) → t u ≢ 0 → AllUsed t xs → from (t u) (map t xs) ≡ map t (from u xs)
  from_named u [] hu all = refl
  from_named u (x ∷ xs) hu all =
      ap₂ (λ (b : Bool) (l : List ℕ). if b then t x ∷ map t xs else l) (test_is x u (all x (inl refl)) hu) (from_named u xs hu (λ v k. all v (inr k))) ∙ sym (choose_map (x == u) (x ∷ xs) (from u xs))

  before_named : (u : ℕ) (xs : List ℕ) → t u ≢ 0 → AllUsed t xs → before (t u) (map t xs) ≡ map t (before u xs)
  before_named u [] hu all = refl
  before_named u (x ∷ xs) hu all =
      ap₂ (λ (b : Bool) (l : List ℕ). if b then [] else t x ∷ l) (test_is x u (all x (inl refl)) hu) (before_named u xs hu (λ v k. all v (inr k))) ∙ sym (choose_map (x == u) [] (x ∷ before u xs))

  pub turned_named : (u : ℕ) (xs : List ℕ) → t u ≢ 0 → AllUsed t xs → turned (t u) (map t xs) ≡ map t (turned u xs)
  unfolding turned
  turned_named u xs hu all = ap₂ (λ (a b : List ℕ). a ++ b) (from_named u xs hu all) (before_named u xs hu all) ∙ sym (map-append t (from u xs) (before u xs))

  pub has_named : (u : ℕ) (xs : List ℕ) → StandsIn u xs → StandsIn (t u) (map t xs)
  has_named u [] h = h
  has_named u (x ∷ xs) (inl k) = inl (ap t k)
  has_named u (x ∷ xs) (inr h) = inr (has_named u xs h)

  pub named_has : (n : ℕ) (xs : List ℕ) → StandsIn n (map t xs) → (u : ℕ) × (n ≡ t u) × StandsIn u xs
  named_has n [] h = absurd h
  named_has n (x ∷ xs) (inl k) = (x, k, inl refl)
  named_has n (x ∷ xs) (inr h) = let r = named_has n xs h in (r.0, r.1, inr r.2)

  -- a number that stands among the numbers of these places is of one of them
  pub has-place : (u : ℕ) (xs : List ℕ) → t u ≢ 0 → AllUsed t xs → StandsIn (t u) (map t xs) → StandsIn u xs
  has-place u xs used all h = let w = named_has (t u) xs h in subst (λ v. StandsIn v xs) (sym (same_place u w.0 used (all w.0 w.2) w.1)) w.2

  some_same : (u v : ℕ) → Some u ≡ Some v → u ≡ v
  some_same u v k = cc

  no_slot : (n u : ℕ) → s n ≡ None → s n ≡ Some u → ⊥
  no_slot n u a b = cc

  -- the rings with these places as one are, by number, the rings with these numbers as one
  named_at : (xs : List ℕ) (r : ℕ → List ℕ) (n : ℕ) (o : Option ℕ) → s n ≡ o → AllUsed t xs → map t (by_slot [] (circle xs r) o) ≡ circle (map t xs) (rings_by_number s t r) n
  unfolding rings_by_number
  named_at xs r n None is all = sym (circle-out (map t xs) (rings_by_number s t r) n out ∙ ap (λ o. map t (by_slot [] r o)) is)
    where
      out : StandsIn n (map t xs) → ⊥
      out h = let w = named_has n xs h in no_slot n w.0 is (ap s w.1 ∙ tied.slot w.0 (all w.0 w.2))
  named_at xs r n (Some u) is all = elim (stands_or_not u xs) [
    | inl h ↦ ap (map t) (circle-in xs r u h) ∙ sym (turned_named u xs (all u h) all) ∙ ap (λ w. turned w (map t xs)) number ∙ sym (circle-in (map t xs) (rings_by_number s t r) n (subst (λ w. StandsIn w (map t xs)) number (has_named u xs h)))
    | inr out ↦ ap (map t) (circle-out xs r u out) ∙ sym (circle-out (map t xs) (rings_by_number s t r) n (away out) ∙ ap (λ o. map t (by_slot [] r o)) is)
  ]
    where
      number : t u ≡ n
      number = tied.tid n u is

      away : (StandsIn u xs → ⊥) → StandsIn n (map t xs) → ⊥
      away out h =
          let w = named_has n xs h in
          let k : Some u ≡ Some w.0 = sym is ∙ ap s w.1 ∙ tied.slot w.0 (all w.0 w.2) in
          out (subst (λ v. StandsIn v xs) (sym (some_same u w.0 k)) w.2)

  pub rings_by_number-circle : (xs : List ℕ) (r : ℕ → List ℕ) → AllUsed t xs → rings_by_number s t (circle xs r) ≡ circle (map t xs) (rings_by_number s t r)
  unfolding rings_by_number
  rings_by_number-circle xs r all = fun_ext (λ n. named_at xs r n (s n) refl all)

  -- what a place has, its number has
  pub rings_by_number-at : (r : ℕ → List ℕ) (u : ℕ) → t u ≢ 0 → rings_by_number s t r (t u) ≡ map t (r u)
  unfolding rings_by_number
  rings_by_number-at r u used = ap (λ o. map t (by_slot [] r o)) (tied.slot u used)

  pub ring_holds-named : (u : ℕ) (xs : List ℕ) → t u ≢ 0 → AllUsed t xs → ring_holds (t u) (map t xs) ≡ ring_holds u xs
  ring_holds-named u [] used all = refl
  ring_holds-named u (x ∷ xs) used all = ap₂ (λ (a b : Bool). a || b) (test_is x u (all x (inl refl)) used) (ring_holds-named u xs used (λ v k. all v (inr k)))

  each_at : {A : Type 0} (d : A) (xs : List ℕ) (g : A → A) (f : ℕ → A) (n : ℕ) (o : Option ℕ) → s n ≡ o → AllUsed t xs → by_slot d (each xs g f) o ≡ each (map t xs) g (seen d s f) n
  unfolding seen
  each_at d xs g f n None is all = sym (each-out (map t xs) g (seen d s f) n out ∙ ap (by_slot d f) is)
    where
      out : StandsIn n (map t xs) → ⊥
      out h = let w = named_has n xs h in no_slot n w.0 is (ap s w.1 ∙ tied.slot w.0 (all w.0 w.2))
  each_at {A = A} d xs g f n (Some u) is all = elim (stands_or_not u xs) [
    | inl h ↦ each-in xs g f u h ∙ sym (each-in (map t xs) g (seen d s f) n (subst (λ w. StandsIn w (map t xs)) number (has_named u xs h)) ∙ ap g (ap (by_slot d f) is))
    | inr out ↦ each-out xs g f u out ∙ sym (each-out (map t xs) g (seen d s f) n (away out) ∙ ap (by_slot d f) is)
  ]
    where
      number : t u ≡ n
      number = tied.tid n u is

      away : (StandsIn u xs → ⊥) → StandsIn n (map t xs) → ⊥
      away out h =
          let w = named_has n xs h in
          let k : Some u ≡ Some w.0 = sym is ∙ ap s w.1 ∙ tied.slot w.0 (all w.0 w.2) in
          out (subst (λ v. StandsIn v xs) (sym (some_same u w.0 k)) w.2)

  -- what is changed at these places is changed at their numbers
  pub each-named : {A : Type 0} (d : A) (xs : List ℕ) (g : A → A) (f : ℕ → A) → AllUsed t xs → seen d s (each xs g f) ≡ each (map t xs) g (seen d s f)
  unfolding seen
  each-named d xs g f all = fun_ext (λ n. each_at d xs g f n (s n) refl all)

-- ---- what is asked of these places is asked of their numbers

module _ {A : Type 0} (t : ℕ → ℕ) (f g : ℕ → A) (p : A → Bool) where
  -- the numbers have what the places have
  abbrev pub Agree : List ℕ → Type 0
  Agree xs = (v : ℕ) → StandsIn v xs → g (t v) ≡ f v

  pub any-named : (xs : List ℕ) → Agree xs → list_any (λ y. p (g y)) (map t xs) ≡ list_any (λ y. p (f y)) xs
  any-named [] all = refl
  any-named (x ∷ xs) all = ap₂ (λ (a b : Bool). a || b) (ap p (all x (inl refl))) (any-named xs (λ v k. all v (inr k)))

  pub find-named : (xs : List ℕ) → Agree xs → find (λ y. p (g y)) (map t xs) ≡ option_map t (find (λ y. p (f y)) xs)
  find-named [] all = refl
  find-named (x ∷ xs) all =
      ap₂ (λ (b : Bool) (o : Option ℕ). cond b (Some (t x)) o) (ap p (all x (inl refl))) (find-named xs (λ v k. all v (inr k))) ∙ sym (either (p (f x)))
    where
      either : (b : Bool) → option_map t (cond b (Some x) (find (λ y. p (f y)) xs)) ≡ cond b (Some (t x)) (option_map t (find (λ y. p (f y)) xs))
      either true = refl
      either false = refl

pub head_event-named : (t : ℕ → ℕ) (xs : List ℕ) → head_event (map t xs) ≡ option_map t (head_event xs)
head_event-named t [] = refl
head_event-named t (x ∷ xs) = refl

pub rest-named : (t : ℕ → ℕ) (xs : List ℕ) → rest_of (map t xs) ≡ map t (rest_of xs)
rest-named t [] = refl
rest-named t (x ∷ xs) = refl

pub turned_once-named : (t : ℕ → ℕ) (xs : List ℕ) → turned_once (map t xs) ≡ map t (turned_once xs)
turned_once-named t [] = refl
turned_once-named t (x ∷ xs) = sym (map-append t xs (x ∷ []))

map_kept : (t : ℕ → ℕ) (u m : ℕ) (xs : List ℕ) → (StandsIn u xs → ⊥) → map (put t u m) xs ≡ map t xs
map_kept t u m [] out = refl
map_kept t u m (x ∷ xs) out = ap₂ (λ (a : ℕ) (l : List ℕ). a ∷ l) (put_other t u m x (λ k. out (inl (sym k)))) (map_kept t u m xs (λ h. out (inr h)))

map_slot : (t : ℕ → ℕ) (u m : ℕ) (r : ℕ → List ℕ) (o : Option ℕ) → ((v : ℕ) → StandsIn u (r v) → ⊥) → map (put t u m) (by_slot [] r o) ≡ map t (by_slot [] r o)
map_slot t u m r None out = refl
map_slot t u m r (Some v) out = map_kept t u m (r v) (out v)

-- a number and a place that stand in no ring change none
pub rings_by_number-grown : (s : ℕ → Option ℕ) (t : ℕ → ℕ) (n u : ℕ) (r : ℕ → List ℕ) → s n ≡ None → r u ≡ [] → ((v : ℕ) → StandsIn u (r v) → ⊥) → rings_by_number (put s n (Some u)) (put t u n) r ≡ rings_by_number s t r
unfolding rings_by_number
rings_by_number-grown s t n u r free none out = fun_ext (λ m. at m)
  where
    at : (m : ℕ) → map (put t u n) (by_slot [] r (put s n (Some u) m)) ≡ map t (by_slot [] r (s m))
    at m = map_slot t u n r (put s n (Some u) m) out ∙ elim (cases_eq m n) [
      | inl k ↦ ap (λ w. map t (by_slot [] r (put s n (Some u) w))) k ∙ ap (λ o. map t (by_slot [] r o)) (put_here s n (Some u)) ∙ ap (map t) none ∙ sym (ap (λ w. map t (by_slot [] r (s w))) k ∙ ap (λ o. map t (by_slot [] r o)) free)
      | inr d ↦ ap (λ o. map t (by_slot [] r o)) (put_other s n (Some u) m d)
    ]

-- one that is gone from its place is gone under its number
pub rings_by_number-gone : (s : ℕ → Option ℕ) (t : ℕ → ℕ) (n u : ℕ) (r : ℕ → List ℕ) → IsTied s t → s n ≡ Some u → ((v : ℕ) → v ≢ u → StandsIn u (r v) → ⊥) → rings_by_number (put s n None) (put t u 0) (put r u []) ≡ put (rings_by_number s t r) n []
unfolding rings_by_number
rings_by_number-gone s t n u r tied is out = fun_ext (λ m. elim (cases_eq m n) [ inl k ↦ here m k | inr d ↦ other m d (s m) refl ])
  where
    here : (m : ℕ) → m ≡ n → map (put t u 0) (by_slot [] (put r u []) (put s n None m)) ≡ put (rings_by_number s t r) n [] m
    here m k = ap (λ w. map (put t u 0) (by_slot [] (put r u []) (put s n None w))) k ∙ ap (λ o. map (put t u 0) (by_slot [] (put r u []) o)) (put_here s n None) ∙ sym (ap (put (rings_by_number s t r) n []) k ∙ put_here (rings_by_number s t r) n [])

    place : (m v : ℕ) → m ≢ n → s m ≡ Some v → v ≢ u
    place m v d h k = d (sym (tied.tid m v h) ∙ ap t k ∙ tied.tid n u is)

    slot : (m : ℕ) (o : Option ℕ) → m ≢ n → s m ≡ o → map (put t u 0) (by_slot [] (put r u []) o) ≡ map t (by_slot [] r o)
    slot m None d h = refl
    slot m (Some v) d h = ap (map (put t u 0)) (put_other r u [] v (place m v d h)) ∙ map_kept t u 0 (r v) (out v (place m v d h))

    other : (m : ℕ) → m ≢ n → (o : Option ℕ) → s m ≡ o → map (put t u 0) (by_slot [] (put r u []) (put s n None m)) ≡ put (rings_by_number s t r) n [] m
    other m d o h = ap (λ o. map (put t u 0) (by_slot [] (put r u []) o)) (put_other s n None m d ∙ h) ∙ slot m o d h ∙ sym (put_other (rings_by_number s t r) n [] m d ∙ ap (λ o. map t (by_slot [] r o)) h)
