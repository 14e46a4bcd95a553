-- Stretches tile the columns in which a thread is drawn.
use Rattle.std.proofs.Common.{◌≡◌, ◌∙◌, ◌⊎◌, inl, inr, ℕ, suc, ◌+◌, ◌-◌, ◌<◌, ◌≤◌, ◌==◌, nat_lt, Bool, true, false, if◌then◌else◌, List, [], ◌∷◌, length, map, All, Option, Some, None, slice_get, refl, sym, ap, arith}
use Rattle.std.specs.List.{filter}
use Rattle.std.proofs.lemmas.Bool.{false≢true, and_parts, and_from, cases_lt, cases_eq, lt-ltb, le-ltb, eq-eqb}
use Rattle.std.proofs.lemmas.Bool.Decides.{nat_tests}
use Rattle.std.proofs.lemmas.List.Elements.{All-nil, All-cons, All-head, All-tail}
use Rattle.pth_base.proofs.Tables.{same_means, not_same}
use Rattle.pth_drawing.specs.declared.chart.Shown.{Shown}
use Rattle.pth_drawing.specs.declared.chart.Stretch.{Stretch}
use Rattle.pth_drawing.specs.Drawing.{is_same, with_column, stretches_from}
use Rattle.pth_drawing.specs.Tiling.{has_column, shown_at, drawn_as, LiesWithin, AreLongest}
use Rattle.pth_drawing.proofs.WithColumns.{stretch, joins, with_column_if, is_same_means, is_same_self}

-- ---- one column more at the left

-- what a stretch adds
shown_if : Bool → Shown → List Shown → List Shown
shown_if b s l = if b then s ∷ l else l

shown_first : (j : ℕ) (x : Stretch) (xs : List Stretch) → shown_at j (x ∷ xs) ≡ shown_if (has_column j x) x.shown (shown_at j xs)
unfolding shown_if
shown_first j x xs = by (has_column j x)
  where
    by : (b : Bool) → map (λ (x : Stretch). x.shown) (if b then x ∷ filter (has_column j) xs else filter (has_column j) xs) ≡ shown_if b x.shown (shown_at j xs)
    by true = refl
    by false = refl

-- a stretch of one column
has_one : (i j : ℕ) (s : Shown) → has_column j (stretch s i 1) ≡ (j == i)
has_one i j s = grind (arith, nat_tests)

-- a stretch with a column more at its left
has_more : (i j n : ℕ) (s : Shown) (b : Bool) → (j == i) ≡ b → has_column j (stretch s i (n + 1)) ≡ (if b then true else has_column j (stretch s (i + 1) n))
has_more i j n s true is = grind (arith, nat_tests)
has_more i j n s false is = grind (arith, nat_tests)

has_not : (i j n : ℕ) (s : Shown) → (j == i) ≡ true → has_column j (stretch s (i + 1) n) ≡ false
has_not i j n s is = grind (arith, nat_tests)

joined_shown : (i j n : ℕ) (s : Shown) (l : List Shown) (b : Bool) → (j == i) ≡ b
    → shown_if (has_column j (stretch s i (n + 1))) s l ≡ shown_if b s (shown_if (has_column j (stretch s (i + 1) n)) s l)
unfolding shown_if
joined_shown i j n s l true is = ap (λ b. if b then s ∷ l else l) (has_more i j n s true is) ∙ ap (λ b. s ∷ (if b then s ∷ l else l)) (sym (has_not i j n s is))
joined_shown i j n s l false is = ap (λ b. if b then s ∷ l else l) (has_more i j n s false is)

with_column_shown : (i j : ℕ) (s : Shown) (xs : List Stretch) → shown_at j (with_column i s xs) ≡ shown_if (j == i) s (shown_at j xs)
with_column_shown i j s [] = shown_first j (stretch s i 1) [] ∙ ap (λ b. shown_if b s []) (has_one i j s)
with_column_shown i j s (z ∷ zs) = by (joins i s z) refl
  where
    joined : z ≡ stretch s (i + 1) z.columns → shown_at j (stretch s i (z.columns + 1) ∷ zs) ≡ shown_if (j == i) s (shown_at j (z ∷ zs))
    joined is =
        shown_first j (stretch s i (z.columns + 1)) zs
        ∙ joined_shown i j z.columns s (shown_at j zs) (j == i) refl
        ∙ ap (shown_if (j == i) s) (sym (shown_first j (stretch s (i + 1) z.columns) zs) ∙ ap (λ (x : Stretch). shown_at j (x ∷ zs)) (sym is))

    by : (b : Bool) → joins i s z ≡ b → shown_at j (with_column_if b i s z zs) ≡ shown_if (j == i) s (shown_at j (z ∷ zs))
    by true is =
        let parts = and_parts (z.first == i + 1) (is_same z.shown s) is in
        let first : z.first ≡ i + 1 = same_means z.first (i + 1) parts.0 in
        joined (ap (λ (x : Shown). stretch x z.first z.columns) (is_same_means z.shown s parts.1) ∙ ap (λ (k : ℕ). stretch s k z.columns) first)
    by false is = shown_first j (stretch s i 1) (z ∷ zs) ∙ ap (λ b. shown_if b s (shown_at j (z ∷ zs))) (has_one i j s)

-- ---- all columns

-- what is drawn in a column of a row that is counted from i on
drawn_from : ℕ → ℕ → List (Option Shown) → List Shown
drawn_from i j row = if nat_lt j i then [] else drawn_as (slice_get row (j - i))

drawn_ahead : (i j : ℕ) (row : List (Option Shown)) → j < i → drawn_from i j row ≡ []
unfolding drawn_from
drawn_ahead i j row low = ap (λ b. if b then [] else drawn_as (slice_get row (j - i))) (lt-ltb j i low)

drawn_on : (i j : ℕ) (row : List (Option Shown)) → i ≤ j → drawn_from i j row ≡ drawn_as (slice_get row (j - i))
unfolding drawn_from
drawn_on i j row high = ap (λ b. if b then [] else drawn_as (slice_get row (j - i))) (le-ltb j i high)

drawn_here : (i j : ℕ) (o : Option Shown) (row : List (Option Shown)) → j ≡ i → drawn_from i j (o ∷ row) ≡ drawn_as (Some o)
drawn_here i j o row is =
    let none : j - i ≡ 0 = omega arith in
    drawn_on i j (o ∷ row) (omega arith) ∙ ap (λ (k : ℕ). drawn_as (slice_get (o ∷ row) k)) none

drawn_later : (i j : ℕ) (o : Option Shown) (row : List (Option Shown)) → (j ≡ i → ⊥) → drawn_from (i + 1) j row ≡ drawn_from i j (o ∷ row)
drawn_later i j o row apart = by (cases_lt j i)
  where
    by : (j < i) ⊎ (i ≤ j) → drawn_from (i + 1) j row ≡ drawn_from i j (o ∷ row)
    by (inl low) = drawn_ahead (i + 1) j row (omega arith) ∙ sym (drawn_ahead i j (o ∷ row) low)
    by (inr high) =
        let one : j - i ≡ suc (j - (i + 1)) = omega arith in
        drawn_on (i + 1) j row (omega arith) ∙ sym (drawn_on i j (o ∷ row) high ∙ ap (λ (k : ℕ). drawn_as (slice_get (o ∷ row) k)) one)

drawn_nothing : (i j : ℕ) → [] ≡ drawn_from i j []
unfolding drawn_from
drawn_nothing i j = by (nat_lt j i)
  where
    by : (b : Bool) → [] ≡ (if b then [] else drawn_as None)
    by true = refl
    by false = refl

tile_from : (i j : ℕ) (row : List (Option Shown)) → shown_at j (stretches_from i row) ≡ drawn_from i j row
unfolding stretches_from shown_if
tile_from i j [] = drawn_nothing i j
tile_from i j (None ∷ row) = tile_from (i + 1) j row ∙ by (cases_eq j i)
  where
    by : (j ≡ i) ⊎ (j ≡ i → ⊥) → drawn_from (i + 1) j row ≡ drawn_from i j (None ∷ row)
    by (inl is) = drawn_ahead (i + 1) j row (omega arith) ∙ sym (drawn_here i j None row is)
    by (inr apart) = drawn_later i j None row apart
tile_from i j (Some s ∷ row) = with_column_shown i j s (stretches_from (i + 1) row) ∙ ap (shown_if (j == i) s) (tile_from (i + 1) j row) ∙ by (cases_eq j i)
  where
    by : (j ≡ i) ⊎ (j ≡ i → ⊥) → shown_if (j == i) s (drawn_from (i + 1) j row) ≡ drawn_from i j (Some s ∷ row)
    by (inl is) =
        ap (λ b. shown_if b s (drawn_from (i + 1) j row)) (eq-eqb j i is)
        ∙ ap (λ (l : List Shown). s ∷ l) (drawn_ahead (i + 1) j row (omega arith))
        ∙ sym (drawn_here i j (Some s) row is)
    by (inr apart) = ap (λ b. shown_if b s (drawn_from (i + 1) j row)) (not_same j i apart) ∙ drawn_later i j (Some s) row apart

pub tile : (row : List (Option Shown)) (j : ℕ) → shown_at j (stretches_from 0 row) ≡ drawn_as (slice_get row j)
tile row j =
    let all : j - 0 ≡ j = omega arith in
    tile_from 0 j row ∙ drawn_on 0 j row (omega arith) ∙ ap (λ (k : ℕ). drawn_as (slice_get row k)) all

-- ---- within the columns

column_within : (i n : ℕ) (s : Shown) (xs : List Stretch) → i + 1 ≤ n → All (LiesWithin n) xs → All (LiesWithin n) (with_column i s xs)
column_within i n s [] room all = All-cons (LiesWithin n) (stretch s i 1) [] (omega arith, room) all
column_within i n s (z ∷ zs) room all = by (joins i s z) refl
  where
    by : (b : Bool) → joins i s z ≡ b → All (LiesWithin n) (with_column_if b i s z zs)
    by true is =
        let first : z.first ≡ i + 1 = same_means z.first (i + 1) (and_parts (z.first == i + 1) (is_same z.shown s) is).0 in
        let end : LiesWithin n z = All-head (LiesWithin n) z zs all in
        All-cons (LiesWithin n) (stretch s i (z.columns + 1)) zs (omega arith, omega (arith, end.1)) (All-tail (LiesWithin n) z zs all)
    by false is = All-cons (LiesWithin n) (stretch s i 1) (z ∷ zs) (omega arith, room) all

within_from : (i n : ℕ) (row : List (Option Shown)) → i + length row ≤ n → All (LiesWithin n) (stretches_from i row)
unfolding stretches_from
within_from i n [] room = All-nil (LiesWithin n)
within_from i n (None ∷ row) room = within_from (i + 1) n row (omega arith)
within_from i n (Some s ∷ row) room = column_within i n s (stretches_from (i + 1) row) (omega arith) (within_from (i + 1) n row (omega arith))

pub within : (row : List (Option Shown)) → All (LiesWithin (length row)) (stretches_from 0 row)
within row = within_from 0 (length row) row (omega arith)

-- ---- as long as can be

-- the stretch after a column at the left
lengthened : (i : ℕ) (s : Shown) (z : Stretch) (zs : List Stretch) → z.first ≡ i + 1 → z.shown ≡ s → AreLongest (z ∷ zs) → AreLongest (stretch s i (z.columns + 1) ∷ zs)
unfolding AreLongest
lengthened i s z [] first shown all = tt
lengthened i s z (y ∷ ys) first shown all = ((λ goes. all.0 (omega (arith, goes.0), shown ∙ goes.1)), all.1)

column_longest : (i : ℕ) (s : Shown) (xs : List Stretch) → AreLongest xs → AreLongest (with_column i s xs)
unfolding AreLongest
column_longest i s [] all = tt
column_longest i s (z ∷ zs) all = by (joins i s z) refl
  where
    by : (b : Bool) → joins i s z ≡ b → AreLongest (with_column_if b i s z zs)
    by true is =
        let parts = and_parts (z.first == i + 1) (is_same z.shown s) is in
        lengthened i s z zs (same_means z.first (i + 1) parts.0) (is_same_means z.shown s parts.1) all
    by false is = ((λ goes. false≢true (sym is ∙ and_from (z.first == i + 1) (is_same z.shown s) (eq-eqb z.first (i + 1) (sym goes.0)) (ap (is_same z.shown) goes.1 ∙ is_same_self z.shown))), all)

longest_from : (i : ℕ) (row : List (Option Shown)) → AreLongest (stretches_from i row)
unfolding stretches_from AreLongest
longest_from i [] = tt
longest_from i (None ∷ row) = longest_from (i + 1) row
longest_from i (Some s ∷ row) = column_longest i s (stretches_from (i + 1) row) (longest_from (i + 1) row)

pub longest : (row : List (Option Shown)) → AreLongest (stretches_from 0 row)
longest row = longest_from 0 row
