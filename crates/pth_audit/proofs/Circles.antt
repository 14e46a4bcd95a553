-- Circles of threads, and how a walk finds them.
use Rattle.std.proofs.Common.{◌≡◌, ◌≢◌, ℕ, zero, suc, ◌+◌, ◌-◌, ◌<◌, ◌≤◌, ◌==◌, true, false, List, [], ◌∷◌, ◌++◌, length, get_or, Option, Some, None, option_and_then, refl, sym, ap, ◌∙◌, arith, subst, inl, inr, add-one}
use Rattle.std.proofs.lemmas.Bool.{cases_lt}
use Rattle.std.proofs.lemmas.Bool.Decides.{nat_tests}
use Rattle.std.proofs.lemmas.List.{length-append, get_or_append_left, get_or_push}
use Rattle.pth_audit.specs.Blocking.{IsCircle, along, IsBack}

pub same_number : (a b : ℕ) → true ≡ (a == b) → a ≡ b
same_number a b h = grind (arith, nat_tests)

pub other_number : (a b : ℕ) → false ≡ (a == b) → a ≢ b
other_number a b h same = (let e : true ≡ (a == b) = grind (arith, nat_tests) in cc (h, e))

module _ (b : ℕ → Option ℕ) where
  -- ---- one step after another

  pub along-none : (t : ℕ) → along b 0 t ≡ Some t
  unfolding along
  along-none t = refl

  pub along-more : (n t : ℕ) → along b (n + 1) t ≡ option_and_then b (along b n t)
  unfolding along
  along-more n t = rw add-one refl

  pub along-step : (n t u : ℕ) → along b n t ≡ Some u → along b (n + 1) t ≡ b u
  along-step n t u at = along-more n t ∙ ap (option_and_then b) at

  -- a walk that has ended goes no further
  along-over : (n m t : ℕ) → along b n t ≡ None → along b (n + m) t ≡ None
  along-over n zero t over = subst (λ k. along b k t ≡ None) (let e : n ≡ n + 0 = omega arith in e) over
  along-over n (suc m) t over =
      subst (λ k. along b k t ≡ None) (let e : n + m + 1 ≡ n + suc m = omega arith in e) (along-more (n + m) t ∙ ap (option_and_then b) (along-over n m t over))

  pub ended : (n k t : ℕ) → n ≤ k → along b n t ≡ None → along b k t ≡ None
  ended n k t le over = subst (λ i. along b i t ≡ None) (let e : n + (k - n) ≡ k = omega arith in e) (along-over n (k - n) t over)

  -- a walk and one from where it leads are one walk
  along-along : (n m t u : ℕ) → along b n t ≡ Some u → along b (n + m) t ≡ along b m u
  along-along n zero t u at = subst (λ k. along b k t ≡ Some u) (let e : n ≡ n + 0 = omega arith in e) at ∙ sym (along-none u)
  along-along n (suc m) t u at =
      subst (λ k. along b k t ≡ along b (m + 1) u) (let e : n + m + 1 ≡ n + suc m = omega arith in e) (along-more (n + m) t ∙ ap (option_and_then b) (along-along n m t u at) ∙ sym (along-more m u))
      ∙ ap (λ k. along b k u) (let e : m + 1 ≡ suc m = omega arith in e)

  -- ---- a walk that leads back

  not_some : (t : ℕ) (o : Option ℕ) → o ≡ None → o ≢ Some t
  not_some t o none some = (let e = sym none ∙ some in cc e)

  -- it ends before
  pub never_back : (most n t u : ℕ) → along b n t ≡ Some u → b u ≡ None → ((k : ℕ) → 1 ≤ k → k ≤ n → along b k t ≢ Some t) → IsBack b most t None
  never_back most n t u at none before k some within = elim (cases_lt n k) [
    | inl past ↦ not_some t (along b k t) (ended (n + 1) k t (omega (arith, past)) (along-step n t u at ∙ none))
    | inr early ↦ before k some (omega (arith, early))
  ]

  -- it went on, and is not back
  pub still_away : (n t u v : ℕ) → along b n t ≡ Some u → b u ≡ Some v → v ≢ t → ((k : ℕ) → 1 ≤ k → k ≤ n → along b k t ≢ Some t) → (k : ℕ) → 1 ≤ k → k ≤ n + 1 → along b k t ≢ Some t
  still_away n t u v at next other before k some within = elim (cases_lt n k) [
    | inl past ↦ (
        let here : n + 1 ≡ k = omega (arith, past, within) in
        subst (λ i. along b i t ≢ Some t) here (λ back. other (let e = sym (along-step n t u at ∙ next) ∙ back in cc e)))
    | inr early ↦ before k some (omega (arith, early))
  ]

  -- the threads along a walk that leads back for the first time are a circle
  pub circle_made : (t n : ℕ) (ts : List ℕ) → 1 ≤ n → length ts ≡ n → ((k : ℕ) → k < n → along b k t ≡ Some (get_or ts k 0)) → along b n t ≡ Some t → ((k : ℕ) → 1 ≤ k → k < n → along b k t ≢ Some t) → IsCircle b ts
  circle_made t n ts some long at back first = record {
    some = omega (arith, some, long);
    distinct = λ i j low within same.
        let from_j : along b (n - j) (get_or ts j 0) ≡ Some t = sym (along-along j (n - j) t (get_or ts j 0) (at j (omega (arith, within, long)))) ∙ ap (λ k. along b k t) (let e : j + (n - j) ≡ n = omega (arith, within, long) in e) ∙ back in
        let from_i : along b (i + (n - j)) t ≡ Some t = along-along i (n - j) t (get_or ts i 0) (at i (omega (arith, low, within, long))) ∙ ap (along b (n - j)) same ∙ from_j in
        first (i + (n - j)) (omega (arith, within, long)) (omega (arith, low, within, long)) from_i;
    next = λ i within. sym (along-step i t (get_or ts i 0) (at i (omega (arith, within, long)))) ∙ at (i + 1) (omega (arith, within, long));
    last =
        subst (λ k. b (get_or ts (k - 1) 0) ≡ Some (get_or ts 0 0)) (sym long) (
        sym (along-step (n - 1) t (get_or ts (n - 1) 0) (at (n - 1) (omega (arith, some))))
        ∙ ap (λ k. along b k t) (let e : n - 1 + 1 ≡ n = omega (arith, some) in e)
        ∙ back ∙ sym (along-none t) ∙ at 0 (omega (arith, some)));
  }

  -- ---- a circle leads back to each of its threads

  module _ (us : List ℕ) (c : IsCircle b us) where
    pub some_next : (i : ℕ) → i < length us → (v : ℕ) × (b (get_or us i 0) ≡ Some v)
    some_next i within = elim (cases_lt (i + 1) (length us)) [
      | inl more ↦ (get_or us (i + 1) 0, c.next i more)
      | inr end ↦ (let e : length us - 1 ≡ i = omega (arith, within, end) in (get_or us 0 0, subst (λ k. b (get_or us k 0) ≡ Some (get_or us 0 0)) e c.last))
    ]

    towards : (d i : ℕ) → i + d < length us → along b d (get_or us i 0) ≡ Some (get_or us (i + d) 0)
    towards zero i within = along-none (get_or us i 0) ∙ ap (λ k. Some (get_or us k 0)) (let e : i ≡ i + 0 = omega arith in e)
    towards (suc d) i within =
        ap (λ k. along b k (get_or us i 0)) (let e : suc d ≡ d + 1 = omega arith in e)
        ∙ along-step d (get_or us i 0) (get_or us (i + d) 0) (towards d i (omega (arith, within)))
        ∙ c.next (i + d) (omega (arith, within))
        ∙ ap (λ k. Some (get_or us k 0)) (let e : i + d + 1 ≡ i + suc d = omega arith in e)

    pub circle_back : (i : ℕ) → i < length us → along b (length us) (get_or us i 0) ≡ Some (get_or us i 0)
    circle_back i within =
        let u = get_or us i 0 in
        let d = length us - 1 - i in
        let end : along b d u ≡ Some (get_or us (length us - 1) 0) = towards d i (omega (arith, within)) ∙ ap (λ k. Some (get_or us k 0)) (let e : i + d ≡ length us - 1 = omega (arith, within) in e) in
        let round : along b (d + 1) u ≡ Some (get_or us 0 0) = along-step d u (get_or us (length us - 1) 0) end ∙ c.last in
        ap (λ k. along b k u) (let e : length us ≡ d + 1 + i = omega (arith, within) in e)
        ∙ along-along (d + 1) i u (get_or us 0 0) round
        ∙ towards i 0 (omega (arith, within))
        ∙ ap (λ k. Some (get_or us k 0)) (let e : 0 + i ≡ i = omega arith in e)

-- ---- threads that were gone along

-- so many threads were gone along, of a walk that leads back after some steps
pub record IsGoneAlong (b : ℕ → Option ℕ) (steps t i : ℕ) (ts : List ℕ) (at : Option ℕ) : Type 0 where
  pub long : length ts ≡ i
  pub gone : (k : ℕ) → k < i → along b k t ≡ Some (get_or ts k 0)
  pub here : at ≡ along b i t

module _ (b : ℕ → Option ℕ) (steps t : ℕ) (back : along b steps t ≡ Some t) where
  pub gone_none : IsGoneAlong b steps t 0 [] (Some t)
  gone_none = record { long = refl; gone = λ k low. absurd (omega (arith, low)); here = sym (along-none b t) }

  pub gone_more : (i u : ℕ) (ts : List ℕ) (next : Option ℕ) → next ≡ b u → IsGoneAlong b steps t i ts (Some u) → IsGoneAlong b steps t (i + 1) (ts ++ u ∷ []) next
  gone_more i u ts next is g = record {
    long = length-append ts (u ∷ []) ∙ ap (λ n. n + 1) g.long;
    gone = λ k low. elim (cases_lt k i) [
      | inl early ↦ g.gone k early ∙ ap (λ n. Some n) (sym (get_or_append_left ts (u ∷ []) 0 k (omega (arith, early, g.long))))
      | inr late ↦ (
          let same : i ≡ k = omega (arith, late, low) in
          let at_end : get_or (ts ++ u ∷ []) k 0 ≡ u = get_or_push ts u 0 k (g.long ∙ same) in
          subst (λ n. along b n t ≡ Some u) same (sym g.here) ∙ ap (λ n. Some n) (sym at_end))
    ];
    here = is ∙ sym (along-step b i t u (sym g.here));
  }

-- a walk that leads back has not ended on the way
pub goes_on : (b : ℕ → Option ℕ) (steps t i u : ℕ) → along b steps t ≡ Some t → i < steps → along b i t ≡ Some u → b u ≡ None → ⊥
goes_on b steps t i u back low at none =
    (let e = sym back ∙ ended b (i + 1) steps t (omega (arith, low)) (along-step b i t u at ∙ none) in cc e)
