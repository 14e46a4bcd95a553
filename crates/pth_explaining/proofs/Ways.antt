-- A circle, followed from thread to thread.
use Rattle.std.proofs.Common.{◌≡◌, ◌∙◌, ◌≤◌, ◌-◌, ◌==◌, ℕ, zero, suc, Bool, true, false, if◌then◌else◌, List, [], ◌∷◌, ◌++◌, Option, Some, None, option_and_then, option_map, append_assoc, ap, sym, refl, subst, arith}
use Rattle.pth_base.proofs.Tables.{same_self}
use Rattle.pth_explaining.specs.Circles.{way}

-- two equal numbers
pub same : {u t : ℕ} → u ≡ t → (u == t) ≡ true
same {u} {t} is = subst (λ (v : ℕ). (u == v) ≡ true) is (same_self u)

module _ (next : ℕ → Option ℕ) (t : ℕ) (xs : List ℕ) where
  -- the threads that were passed, and those of a way that is left
  abbrev pub with_rest : Option (List ℕ) → Option (List ℕ)
  with_rest o = option_map (λ (ts : List ℕ). xs ++ ts) o

  step : ℕ → ℕ → Option ℕ → Option (List ℕ)
  step k u o = with_rest (option_map (λ (ts : List ℕ). u ∷ ts) (option_and_then (λ v. if v == t then Some [] else way next k t v) o))

  -- nobody blocks the last thread
  pub ends_none : (n u : ℕ) → 1 ≤ n → next u ≡ None → with_rest (way next n t u) ≡ None
  unfolding way step
  ends_none zero u some none = absurd (omega (arith, some))
  ends_none (suc k) u some none = ap (step k u) none

  -- the last thread blocks on the first
  pub ends_back : (n u v : ℕ) → 1 ≤ n → next u ≡ Some v → (v == t) ≡ true → with_rest (way next n t u) ≡ Some (xs ++ u ∷ [])
  unfolding way step
  ends_back zero u v some at back = absurd (omega (arith, some))
  ends_back (suc k) u v some at back =
      ap (step k u) at ∙ ap (λ (b : Bool). with_rest (option_map (λ (ts : List ℕ). u ∷ ts) (if b then Some [] else way next k t v))) back

  joined : (u : ℕ) (o : Option (List ℕ)) → with_rest (option_map (λ (ts : List ℕ). u ∷ ts) o) ≡ option_map (λ (ts : List ℕ). (xs ++ u ∷ []) ++ ts) o
  joined u None = refl
  joined u (Some ts) = ap (λ (l : List ℕ). Some l) (sym (append_assoc xs (u ∷ []) ts))

  -- the way goes on
  pub goes_on : (n u v : ℕ) → 1 ≤ n → next u ≡ Some v → (v == t) ≡ false
      → with_rest (way next n t u) ≡ option_map (λ (ts : List ℕ). (xs ++ u ∷ []) ++ ts) (way next (n - 1) t v)
  unfolding way step
  goes_on zero u v some at other = absurd (omega (arith, some))
  goes_on (suc k) u v some at other =
      ap (step k u) at ∙ ap (λ (b : Bool). with_rest (option_map (λ (ts : List ℕ). u ∷ ts) (if b then Some [] else way next k t v))) other
      ∙ joined u (way next k t v)
      ∙ ap (λ (n : ℕ). option_map (λ (ts : List ℕ). (xs ++ u ∷ []) ++ ts) (way next n t v)) (let e : k ≡ suc k - 1 = omega arith in e)

  -- no step is left
  pub ends_over : (n u : ℕ) → n ≡ 0 → with_rest (way next n t u) ≡ None
  unfolding way
  ends_over zero u over = refl
  ends_over (suc n) u over = absurd (omega (arith, over))
