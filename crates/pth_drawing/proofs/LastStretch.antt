-- What columns more do to the last stretch.
use Rattle.std.proofs.Common.{◌≡◌, ◌∙◌, ℕ, ◌+◌, ◌-◌, ◌<◌, Bool, true, false, List, [], ◌∷◌, ◌++◌, length, set, get_or, refl, sym, ap, append_assoc, arith}
use Rattle.std.proofs.lemmas.List.{set_at, get_or_at, length_push}
use Rattle.pth_drawing.specs.declared.chart.Shown.{Shown}
use Rattle.pth_drawing.specs.declared.chart.Stretch.{Stretch}
use Rattle.pth_drawing.specs.Tracks.{leads_to, with_columns}
use Rattle.pth_drawing.proofs.DrawnTurns.{Split, split, empty, last}
use Rattle.pth_drawing.proofs.WithColumns.{stretch, with_columns_if}

module _ (s : Shown) (i n : ℕ) where
  by_last : (ys : List Stretch) (y : Stretch) → with_columns s i n (ys ++ y ∷ []) ≡ ys ++ with_columns_if (leads_to s i y) s i n y
  unfolding with_columns
  by_last [] y = refl
  by_last (z ∷ []) y = refl
  by_last (z ∷ w ∷ ws) y = ap (λ (l : List Stretch). z ∷ l) (by_last (w ∷ ws) y)

  -- it is lengthened
  pub lengthened : (xs : List Stretch) (k : ℕ) (x : Stretch) → 0 < k → k ≡ length xs → x ≡ get_or xs (k - 1) x → leads_to s i x ≡ true
      → set xs (k - 1) (stretch x.shown x.first (x.columns + n)) ≡ with_columns s i n xs
  lengthened xs k x some is here leads = by (split xs)
    where
      by : Split xs → set xs (k - 1) (stretch x.shown x.first (x.columns + n)) ≡ with_columns s i n xs
      by (empty e) = absurd (omega (arith, ap length e))
      by (last ys y e) =
          let len : length ys ≡ k - 1 = omega (arith, ap length e, length_push ys y) in
          let same : x ≡ y = here ∙ ap (λ (l : List Stretch). get_or l (k - 1) x) e ∙ get_or_at ys y [] x (k - 1) len in
          ap (λ (l : List Stretch). set l (k - 1) (stretch x.shown x.first (x.columns + n))) e
          ∙ set_at ys y [] (stretch x.shown x.first (x.columns + n)) (k - 1) len
          ∙ ap (λ (b : Bool). ys ++ with_columns_if b s i n x) (sym leads)
          ∙ ap (λ (z : Stretch). ys ++ with_columns_if (leads_to s i z) s i n z) same
          ∙ sym (by_last ys y)
          ∙ ap (with_columns s i n) (sym e)

  -- it is not
  pub begun_after : (xs : List Stretch) (k : ℕ) (x : Stretch) → k ≡ length xs → x ≡ get_or xs (k - 1) x → 0 < k → leads_to s i x ≡ false
      → xs ++ stretch s i n ∷ [] ≡ with_columns s i n xs
  begun_after xs k x is here some apart = by (split xs)
    where
      by : Split xs → xs ++ stretch s i n ∷ [] ≡ with_columns s i n xs
      by (empty e) = absurd (omega (arith, ap length e))
      by (last ys y e) =
          let len : length ys ≡ k - 1 = omega (arith, ap length e, length_push ys y) in
          let same : x ≡ y = here ∙ ap (λ (l : List Stretch). get_or l (k - 1) x) e ∙ get_or_at ys y [] x (k - 1) len in
          ap (λ (l : List Stretch). l ++ stretch s i n ∷ []) e
          ∙ append_assoc ys (y ∷ []) (stretch s i n ∷ [])
          ∙ ap (λ (z : Stretch). ys ++ z ∷ stretch s i n ∷ []) (sym same)
          ∙ ap (λ (b : Bool). ys ++ with_columns_if b s i n x) (sym apart)
          ∙ ap (λ (z : Stretch). ys ++ with_columns_if (leads_to s i z) s i n z) same
          ∙ sym (by_last ys y)
          ∙ ap (with_columns s i n) (sym e)

  -- there is none
  pub begun_first : (xs : List Stretch) → length xs ≡ 0 → xs ++ stretch s i n ∷ [] ≡ with_columns s i n xs
  unfolding with_columns
  begun_first [] none = refl
  begun_first (x ∷ xs) none = absurd (omega arith)
