-- How many of the first numbers have a value.
use Rattle.std.proofs.Common.{◌≡◌, ℕ, zero, suc, ◌+◌, ◌<◌, ◌≤◌, Bool, if◌then◌else◌, Option, Some, None, is_some, option_map, refl, sym, ◌∙◌, ap, ap₂, arith, inl, inr, add-one}
use Rattle.std.proofs.lemmas.Bool.{cases_lt}
use Rattle.pth_base.specs.Table.{put}
use Rattle.pth_base.proofs.Tables.{put_here, put_other, put_by}
use Rattle.pth_numbered.specs.Numbered.{number_known}

-- 1 where there is one
abbrev one_at : {A : Type 0} → Option A → ℕ
one_at o = if is_some o then 1 else 0

pub number_same : {A B : Type 0} (f : ℕ → Option A) (g : ℕ → Option B) (n : ℕ) → ((i : ℕ) → i ≤ n → is_some (f i) ≡ is_some (g i)) → number_known f n ≡ number_known g n
unfolding number_known
number_same f g zero same = refl
number_same f g (suc n) same = ap₂ (λ (b : Bool) (k : ℕ). (if b then 1 else 0) + k) (same (suc n) (omega arith)) (number_same f g n (λ i le. same i (omega arith)))

-- one more, with the next number
pub number-new : {A : Type 0} (f : ℕ → Option A) (n : ℕ) (x : A) → number_known (put f (n + 1) (Some x)) (n + 1) ≡ number_known f n + 1
unfolding number_known
number-new f n x =
    let here : put f (suc n) (Some x) (suc n) ≡ Some x = put_here f (suc n) (Some x) in
    let kept : number_known (put f (suc n) (Some x)) n ≡ number_known f n = number_same (put f (suc n) (Some x)) f n (λ i le. ap is_some (put_other f (suc n) (Some x) i (omega arith))) in
    rw add-one (rw (here, kept) (omega arith))

-- the number at t is there no longer
pub number-gone : {A : Type 0} (f : ℕ → Option A) (n t : ℕ) (x : A) → f t ≡ Some x → 0 < t → t ≤ n → number_known (put f t None) n + 1 ≡ number_known f n
unfolding number_known
number-gone f zero t x e some le = absurd (omega arith)
number-gone f (suc n) t x e some le = elim (cases_lt t (suc n)) [
  | inl low ↦ (
      let kept : put f t None (suc n) ≡ f (suc n) = put_other f t None (suc n) (omega arith) in
      let less = number-gone f n t x e some (omega arith) in
      rw kept (omega (arith, less)))
  | inr high ↦ (
      let at : t ≡ suc n = omega arith in
      let here : put f t None (suc n) ≡ None = ap (put f t None) (sym at) ∙ put_here f t None in
      let there : f (suc n) ≡ Some x = ap f (sym at) ∙ e in
      let kept : number_known (put f t None) n ≡ number_known f n = number_same (put f t None) f n (λ i low. ap is_some (put_other f t None i (omega arith))) in
      rw (here, there, kept) (omega arith))
]

-- a change of one value
pub number-change : {A : Type 0} (f : ℕ → Option A) (n t : ℕ) (g : A → A) → number_known (put f t (option_map g (f t))) n ≡ number_known f n
number-change f n t g = number_same (put f t (option_map g (f t))) f n (λ i le. let Q : Option _ → Type 0 = λ o. is_some o ≡ is_some (f i) in put_by Q f t (option_map g (f t)) i (λ same. rw same (kept_by g (f t))) (λ other. refl))
  where
    kept_by : {A : Type 0} (g : A → A) (o : Option A) → is_some (option_map g o) ≡ is_some o
    kept_by g (Some x) = refl
    kept_by g None = refl

-- another value in place of one
pub number-other : {A : Type 0} (f : ℕ → Option A) (n t : ℕ) (x y : A) → f t ≡ Some x → number_known (put f t (Some y)) n ≡ number_known f n
number-other f n t x y e = rw e at (number-change f n t (λ z. y))
