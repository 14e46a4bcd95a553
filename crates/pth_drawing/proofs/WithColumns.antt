-- Stretches that are drawn from left to right are those of the columns.
use Rattle.std.proofs.Common.{◌≡◌, ◌∙◌, ℕ, ◌+◌, ◌==◌, ◌&&◌, Bool, true, false, if◌then◌else◌, List, [], ◌∷◌, ◌++◌, length, Option, Some, None, refl, sym, ap, arith}
use Rattle.std.proofs.lemmas.Bool.{false≢true, and_parts, and_from}
use Rattle.std.proofs.lemmas.Bool.Decides.{nat_tests}
use Rattle.pth_base.proofs.Tables.{same_self, same_means}
use Rattle.pth_drawing.specs.declared.chart.Shown.{Shown}
use Rattle.pth_drawing.specs.declared.chart.Shown.TheVariants.{Running, Waiting, Ready}
use Rattle.pth_drawing.specs.declared.chart.Stretch.{Stretch}
use Rattle.pth_drawing.specs.Drawing.{is_same, with_column, stretches_from}
use Rattle.pth_drawing.specs.Tracks.{leads_to, with_columns}

-- ---- states

pub is_same_self : (s : Shown) → is_same s s ≡ true
is_same_self Running = refl
is_same_self Waiting = refl
is_same_self Ready = refl

pub is_same_means : (s x : Shown) → is_same s x ≡ true → s ≡ x
is_same_means Running Running is = refl
is_same_means Waiting Waiting is = refl
is_same_means Ready Ready is = refl
is_same_means Running Waiting is = absurd (false≢true is)
is_same_means Running Ready is = absurd (false≢true is)
is_same_means Waiting Running is = absurd (false≢true is)
is_same_means Waiting Ready is = absurd (false≢true is)
is_same_means Ready Running is = absurd (false≢true is)
is_same_means Ready Waiting is = absurd (false≢true is)

pub is_same_flip : (s x : Shown) → is_same s x ≡ is_same x s
is_same_flip Running Running = refl
is_same_flip Waiting Waiting = refl
is_same_flip Ready Ready = refl
is_same_flip Running Waiting = refl
is_same_flip Running Ready = refl
is_same_flip Waiting Running = refl
is_same_flip Waiting Ready = refl
is_same_flip Ready Running = refl
is_same_flip Ready Waiting = refl

-- ---- one column more at the left

abbrev pub stretch : Shown → (first columns : ℕ) → Stretch
stretch s i n = record { shown = s; first = i; columns = n }

-- a stretch begins beside a column, and is drawn as the same
abbrev pub joins : ℕ → Shown → Stretch → Bool
joins i s x = x.first == i + 1 && is_same x.shown s

abbrev pub with_column_if : Bool → ℕ → Shown → Stretch → List Stretch → List Stretch
with_column_if b i r z zs = if b then stretch r i (z.columns + 1) ∷ zs else stretch r i 1 ∷ z ∷ zs

joined : (i : ℕ) (r : Shown) (n : ℕ) (zs : List Stretch) → with_column i r (stretch r (i + 1) n ∷ zs) ≡ stretch r i (n + 1) ∷ zs
joined i r n zs = ap (λ b. with_column_if b i r (stretch r (i + 1) n) zs) (and_from (i + 1 == i + 1) (is_same r r) (same_self (i + 1)) (is_same_self r))

-- ---- one column more at the right

abbrev pub with_columns_if : Bool → Shown → (first n : ℕ) → Stretch → List Stretch
with_columns_if b s k n x = if b then stretch x.shown x.first (x.columns + n) ∷ [] else x ∷ stretch s k n ∷ []

tests_alike : (r s : Shown) (i n k : ℕ) → (is_same r s && (i + (n + 1) == k)) ≡ (is_same r s && (i + 1 + n == k))
tests_alike r s i n k = ap (λ (m : ℕ). is_same r s && (m == k)) (omega arith)

tests_swapped : (r s : Shown) (i k : ℕ) → (is_same r s && (i + 1 == k)) ≡ (k == i + 1 && is_same s r)
tests_swapped r s i k = grind (arith, nat_tests, is_same_flip r s)

-- the last stretch begins beside the column at the left
joined_last : (s : Shown) (k i : ℕ) (r : Shown) (n : ℕ) → with_columns s k 1 (stretch r i (n + 1) ∷ []) ≡ with_column i r (with_columns s k 1 (stretch r (i + 1) n ∷ []))
unfolding with_columns
joined_last s k i r n = ap (λ b. with_columns_if b s k 1 (stretch r i (n + 1))) (tests_alike r s i n k) ∙ by (is_same r s && (i + 1 + n == k))
  where
    by : (b : Bool) → with_columns_if b s k 1 (stretch r i (n + 1)) ≡ with_column i r (with_columns_if b s k 1 (stretch r (i + 1) n))
    by true = sym (joined i r (n + 1) [])
    by false = sym (joined i r n (stretch s k 1 ∷ []))

-- it doesn't
apart_last : (s : Shown) (k i : ℕ) (r : Shown) (z : Stretch) → joins i r z ≡ false → stretch r i 1 ∷ with_columns s k 1 (z ∷ []) ≡ with_column i r (with_columns s k 1 (z ∷ []))
unfolding with_columns
apart_last s k i r z apart = by (leads_to s k z)
  where
    by : (b : Bool) → stretch r i 1 ∷ with_columns_if b s k 1 z ≡ with_column i r (with_columns_if b s k 1 z)
    by true = sym (ap (λ b. with_column_if b i r (stretch z.shown z.first (z.columns + 1)) []) apart)
    by false = sym (ap (λ b. with_column_if b i r z (stretch s k 1 ∷ [])) apart)

-- a column at the left and one at the right are drawn in any order
left_and_right : (s : Shown) (k i : ℕ) (r : Shown) (zs : List Stretch) → with_columns s k 1 (with_column i r zs) ≡ with_column i r (with_columns s k 1 zs)
unfolding with_columns
left_and_right s k i r [] = ap (λ b. if b then stretch r i (1 + 1) ∷ [] else stretch r i 1 ∷ stretch s k 1 ∷ []) (tests_swapped r s i k)
left_and_right s k i r (z ∷ []) = by (joins i r z) refl
  where
    by : (b : Bool) → joins i r z ≡ b → with_columns s k 1 (with_column_if b i r z []) ≡ with_column i r (with_columns s k 1 (z ∷ []))
    by true is =
        let parts = and_parts (z.first == i + 1) (is_same z.shown r) is in
        let first : z.first ≡ i + 1 = same_means z.first (i + 1) parts.0 in
        let shown : z.shown ≡ r = is_same_means z.shown r parts.1 in
        joined_last s k i r z.columns ∙ ap (λ (x : Stretch). with_column i r (with_columns s k 1 (x ∷ []))) (sym (ap (λ (x : Shown). stretch x z.first z.columns) shown ∙ ap (λ (j : ℕ). stretch r j z.columns) first))
    by false is = apart_last s k i r z is
left_and_right s k i r (z ∷ y ∷ ys) = by (joins i r z)
  where
    by : (b : Bool) → with_columns s k 1 (with_column_if b i r z (y ∷ ys)) ≡ with_column_if b i r z (with_columns s k 1 (y ∷ ys))
    by true = refl
    by false = refl

-- one column more, at the right of all
pub stretches_more : (i k : ℕ) (row : List (Option Shown)) (s : Shown) → i + length row ≡ k → stretches_from i (row ++ Some s ∷ []) ≡ with_columns s k 1 (stretches_from i row)
unfolding stretches_from with_columns
stretches_more i k [] s at = ap (λ (j : ℕ). stretch s j 1 ∷ []) (omega arith)
stretches_more i k (None ∷ row) s at = stretches_more (i + 1) k row s (omega arith)
stretches_more i k (Some r ∷ row) s at = ap (with_column i r) (stretches_more (i + 1) k row s (omega arith)) ∙ sym (left_and_right s k i r (stretches_from (i + 1) row))

-- one in which nothing is drawn
pub stretches_none : (i : ℕ) (row : List (Option Shown)) → stretches_from i (row ++ None ∷ []) ≡ stretches_from i row
unfolding stretches_from
stretches_none i [] = refl
stretches_none i (None ∷ row) = stretches_none (i + 1) row
stretches_none i (Some r ∷ row) = ap (with_column i r) (stretches_none (i + 1) row)

-- ---- columns one after the other

pub data IsCons : List Stretch → Type 0 where
  cons : (x : Stretch) (xs : List Stretch) → IsCons (x ∷ xs)

is_some : (s : Shown) (k n : ℕ) (xs : List Stretch) → IsCons (with_columns s k n xs)
unfolding with_columns
is_some s k n [] = cons (stretch s k n) []
is_some s k n (x ∷ []) = by (leads_to s k x)
  where
    by : (b : Bool) → IsCons (with_columns_if b s k n x)
    by true = cons (stretch x.shown x.first (x.columns + n)) []
    by false = cons x (stretch s k n ∷ [])
is_some s k n (x ∷ y ∷ ys) = cons x (with_columns s k n (y ∷ ys))

after_first : (s : Shown) (k n : ℕ) (x : Stretch) (xs : List Stretch) → IsCons xs → with_columns s k n (x ∷ xs) ≡ x ∷ with_columns s k n xs
unfolding with_columns
after_first s k n x [] none = elim none [ ]
after_first s k n x (y ∷ ys) some = refl

more_alone : (s : Shown) (i n : ℕ) → stretch s i (n + 1) ∷ [] ≡ with_columns s (i + n) 1 (stretch s i n ∷ [])
unfolding with_columns
more_alone s i n = sym (ap (λ b. with_columns_if b s (i + n) 1 (stretch s i n)) (and_from (is_same s s) (i + n == i + n) (is_same_self s) (same_self (i + n))))

-- so many columns, and then one more
pub columns_more : (s : Shown) (i n : ℕ) (xs : List Stretch) → with_columns s i (n + 1) xs ≡ with_columns s (i + n) 1 (with_columns s i n xs)
unfolding with_columns
columns_more s i n [] = more_alone s i n
columns_more s i n (x ∷ []) = by (leads_to s i x) refl
  where
    by : (b : Bool) → leads_to s i x ≡ b → with_columns_if b s i (n + 1) x ≡ with_columns s (i + n) 1 (with_columns_if b s i n x)
    by true is =
        let parts = and_parts (is_same x.shown s) (x.first + x.columns == i) is in
        let end : x.first + x.columns ≡ i = same_means (x.first + x.columns) i parts.1 in
        let here : (x.first + (x.columns + n) == i + n) ≡ true = grind (arith, nat_tests) in
        ap (λ (m : ℕ). stretch x.shown x.first m ∷ []) (omega arith)
        ∙ sym (ap (λ b. with_columns_if b s (i + n) 1 (stretch x.shown x.first (x.columns + n))) (and_from (is_same x.shown s) (x.first + (x.columns + n) == i + n) parts.0 here))
    by false is = ap (λ (l : List Stretch). x ∷ l) (more_alone s i n)
columns_more s i n (x ∷ y ∷ ys) = ap (λ (l : List Stretch). x ∷ l) (columns_more s i n (y ∷ ys)) ∙ sym (after_first s (i + n) 1 x (with_columns s i n (y ∷ ys)) (is_some s i n (y ∷ ys)))
