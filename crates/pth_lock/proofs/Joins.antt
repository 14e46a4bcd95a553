-- Lists that are joined, when one of them changes.
use Rattle.std.proofs.Common.{◌≡◌, ◌≢◌, ℕ, zero, suc, ◌<◌, ◌≤◌, Bool, List, [], ◌++◌, filter, refl, sym, ◌∙◌, ap, subst, arith, inl, inr, append_assoc, append-nil}
use Rattle.std.specs.List.Sorted.{IsPermutation}
use Rattle.std.proofs.lemmas.List.Sorted.{IsPermutation-append_left, IsPermutation-append_right, IsPermutation-append_comm, IsPermutation-trans, IsPermutation-refl}
use Rattle.std.proofs.lemmas.List.Elements.{filter-append}
use Rattle.std.proofs.lemmas.Bool.{cases_lt}
use mathlib.Core.Path.{fun_ext}
use Rattle.pth_lock.specs.Holds.{joined}

-- equal lists
pub same_elements : {A : Type 0} (xs ys : List A) → xs ≡ ys → IsPermutation xs ys
same_elements xs ys same = subst (IsPermutation xs) same (IsPermutation-refl xs)

module _ {A : Type 0} where
  pub joined-zero : (f : ℕ → List A) → joined f 0 ≡ []
  unfolding joined
  joined-zero f = refl

  pub joined-suc : (f : ℕ → List A) (n : ℕ) → joined f (suc n) ≡ joined f n ++ f n
  unfolding joined
  joined-suc f n = refl

  pub joined_same : (f g : ℕ → List A) (n : ℕ) → ((i : ℕ) → f i ≡ g i) → joined f n ≡ joined g n
  joined_same f g n same = ap (λ (h : ℕ → List A). joined h n) (fun_ext same)

  -- none has an element
  pub joined_none : (f : ℕ → List A) (n : ℕ) → ((i : ℕ) → i < n → f i ≡ []) → joined f n ≡ []
  joined_none f zero none = joined-zero f
  joined_none f (suc n) none = joined-suc f n ∙ ap (λ (xs : List A). joined f n ++ xs) (none n (omega arith)) ∙ append-nil (joined f n) ∙ joined_none f n (λ i low. none i (omega arith))

  -- one alone has elements
  one_next : (f : ℕ → List A) (m n : ℕ) → ((i : ℕ) → i ≢ m → f i ≡ []) → m < n → joined f n ≡ f m → joined f (suc n) ≡ f m
  one_next f m n none low is = let apart : n ≢ m = omega arith in joined-suc f n ∙ ap (λ (xs : List A). joined f n ++ xs) (none n apart) ∙ append-nil (joined f n) ∙ is

  one_last : (f : ℕ → List A) (m n : ℕ) → ((i : ℕ) → i ≢ m → f i ≡ []) → n ≡ m → joined f (suc n) ≡ f m
  one_last f m n none same =
      joined-suc f n
      ∙ ap (λ (xs : List A). xs ++ f n) (joined_none f n (λ i low. let apart : i ≢ m = omega arith in none i apart))
      ∙ ap f same

  pub joined_one : (f : ℕ → List A) (m n : ℕ) → ((i : ℕ) → i ≢ m → f i ≡ []) → m < n → joined f n ≡ f m
  joined_one f m zero none low = absurd (omega arith)
  joined_one f m (suc n) none low = elim (cases_lt m n) [ inl below ↦ one_next f m n none below (joined_one f m n none below) | inr high ↦ one_last f m n none (omega arith) ]

  -- those that pass a test
  pub joined_filter : (test : A → Bool) (f : ℕ → List A) (n : ℕ) → filter test (joined f n) ≡ joined (λ i. filter test (f i)) n
  joined_filter test f zero = ap (filter test) (joined-zero f) ∙ sym (joined-zero (λ i. filter test (f i)))
  joined_filter test f (suc n) =
      ap (filter test) (joined-suc f n) ∙ filter-append test (joined f n) (f n)
      ∙ ap (λ (xs : List A). xs ++ filter test (f n)) (joined_filter test f n)
      ∙ sym (joined-suc (λ i. filter test (f i)) n)

  -- one has more elements
  module _ (f g : ℕ → List A) (m : ℕ) (es : List A) (others : (i : ℕ) → i ≢ m → g i ≡ f i) (more : IsPermutation (g m) (es ++ f m)) where
    before : (n : ℕ) → n ≤ m → joined g n ≡ joined f n
    before zero few = joined-zero g ∙ sym (joined-zero f)
    before (suc n) few =
        let apart : n ≢ m = omega arith in
        joined-suc g n ∙ ap (λ (xs : List A). xs ++ g n) (before n (omega arith)) ∙ ap (λ (xs : List A). joined f n ++ xs) (others n apart) ∙ sym (joined-suc f n)

    -- they come to the front
    to_front : (xs ys : List A) → IsPermutation (xs ++ (es ++ ys)) (es ++ (xs ++ ys))
    to_front xs ys =
        subst (λ (zs : List A). IsPermutation zs (es ++ (xs ++ ys))) (append_assoc xs es ys)
        (subst (IsPermutation ((xs ++ es) ++ ys)) (append_assoc es xs ys) (IsPermutation-append_left ys (xs ++ es) (es ++ xs) (IsPermutation-append_comm xs es)))

    at_last : IsPermutation (joined g (suc m)) (es ++ joined f (suc m))
    at_last =
        let few : m ≤ m = omega arith in
        subst (λ (zs : List A). IsPermutation zs (es ++ joined f (suc m))) (ap (λ (xs : List A). xs ++ g m) (sym (before m few)) ∙ sym (joined-suc g m))
        (subst (λ (zs : List A). IsPermutation (joined f m ++ g m) (es ++ zs)) (sym (joined-suc f m))
        (IsPermutation-trans (joined f m ++ g m) (joined f m ++ (es ++ f m)) (es ++ (joined f m ++ f m))
        (IsPermutation-append_right (joined f m) (g m) (es ++ f m) more)
        (to_front (joined f m) (f m))))

    last : (n : ℕ) → n ≡ m → IsPermutation (joined g (suc n)) (es ++ joined f (suc n))
    last n same = subst (λ (k : ℕ). IsPermutation (joined g (suc k)) (es ++ joined f (suc k))) (sym same) at_last

    further : (n : ℕ) → m < n → IsPermutation (joined g n) (es ++ joined f n) → IsPermutation (joined g (suc n)) (es ++ joined f (suc n))
    further n low h =
        let apart : n ≢ m = omega arith in
        subst (λ (zs : List A). IsPermutation zs (es ++ joined f (suc n))) (ap (λ (xs : List A). joined g n ++ xs) (sym (others n apart)) ∙ sym (joined-suc g n))
        (subst (IsPermutation (joined g n ++ f n)) (append_assoc es (joined f n) (f n) ∙ ap (λ (zs : List A). es ++ zs) (sym (joined-suc f n)))
        (IsPermutation-append_left (f n) (joined g n) (es ++ joined f n) h))

    pub joined_more : (n : ℕ) → m < n → IsPermutation (joined g n) (es ++ joined f n)
    joined_more zero low = absurd (omega arith)
    joined_more (suc n) low = elim (cases_lt m n) [ inl below ↦ further n below (joined_more n below) | inr high ↦ last n (omega arith) ]
