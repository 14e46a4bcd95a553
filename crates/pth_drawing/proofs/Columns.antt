-- A chart lies within its columns, and it has no more of them than were asked for.
use Rattle.std.proofs.Common.{◌≡◌, ◌&&◌, ◌==◌, ◌+◌, ◌-◌, ◌≤◌, ◌<◌, ℕ, Bool, true, false, List, [], ◌∷◌, ◌++◌, All, Option, Some, None, IfSome, arith, refl, drop, if◌then◌else◌, length, slice_get, suc, length-append, length-take, subst, sym, ◌^◌}
use Rattle.std.proofs.lemmas.Bool.{eqb-true}
use Rattle.std.proofs.lemmas.List.{length-drop, length-map, length_push}
use Rattle.std.proofs.lemmas.List.Elements.{All-cons, All-get_or, All-map, All-nil, All-weaker}
use Rattle.pth_base.specs.declared.mark.Mark.{Mark}
use Rattle.pth_drawing.specs.Bounds.{IsLaneWithin, IsStretchWithin, IsWithinColumns, most_turns}
use Rattle.pth_drawing.specs.Drawing.{chart, columns_of, ends_in, is_canceled_in, is_cut, is_same, lane_of, moment_at, moments_from, moved_in, places, places_from, row_of, stretches_from, whole_row, with_column, with_end}
use Rattle.pth_drawing.specs.States.{Turn, dispatched, shown_after, shown_in, turn_begun, turns_after, turns_of}
use Rattle.pth_drawing.specs.declared.chart.End.{End}
use Rattle.pth_drawing.specs.declared.chart.Moment.{Moment}
use Rattle.pth_drawing.specs.declared.chart.Shown.{Shown}
use Rattle.pth_drawing.specs.declared.chart.Stretch.{Stretch}

-- a stretch begins at a column or behind it, and ends before another
record Lies (i n : ℕ) (s : Stretch) : Type 0 where
  after : i ≤ s.first
  before : s.first + s.columns ≤ n

lies_later : (i n : ℕ) (s : Stretch) → Lies (i + 1) n s → Lies i n s
lies_later i n s h = record { after = let a = h.after in omega arith; before = h.before }

with_column_lies : (i n : ℕ) (s : Shown) (xs : List Stretch) → i + 1 ≤ n → All (Lies (i + 1) n) xs → All (Lies i n) (with_column i s xs)
with_column_lies i n s [] lt h = All-cons (Lies i n) _ [] (record { after = omega arith; before = omega arith }) (All-nil (Lies i n))
with_column_lies i n s (x ∷ xs) lt h = go (x.first == i + 1 && is_same x.shown s) refl
  where
    later : All (Lies i n) (x ∷ xs)
    later = All-weaker (Lies (i + 1) n) (Lies i n) (lies_later i n) (x ∷ xs) h

    first_of : Lies (i + 1) n x
    first_of = All-get_or (Lies (i + 1) n) (x ∷ xs) 0 x (omega arith) h

    rest : All (Lies i n) xs
    rest = λ k d low. later (suc k) d (omega arith)

    and_left : (a b : Bool) → (a && b) ≡ true → a ≡ true
    and_left true b h = refl
    and_left false b h = h

    go : (b : Bool) → (x.first == i + 1 && is_same x.shown s) ≡ b
        → All (Lies i n) (if b then record { shown = s; first = i; columns = x.columns + 1 } ∷ xs else record { shown = s; first = i; columns = 1 } ∷ x ∷ xs)
    go true is =
        let at = eqb-true x.first (i + 1) (and_left _ _ is) in
        All-cons (Lies i n) _ xs (record { after = omega arith; before = let b = first_of.before in omega arith }) rest
    go false is = All-cons (Lies i n) _ (x ∷ xs) (record { after = omega arith; before = omega arith }) later

stretches_lie : (i n : ℕ) (row : List (Option Shown)) → i + length row ≡ n → All (Lies i n) (stretches_from i row)
unfolding stretches_from
stretches_lie i n [] e = All-nil (Lies i n)
stretches_lie i n (None ∷ row) e = All-weaker (Lies (i + 1) n) (Lies i n) (lies_later i n) _ (stretches_lie (i + 1) n row (omega arith))
stretches_lie i n (Some s ∷ row) e = with_column_lies i n s _ (omega arith) (stretches_lie (i + 1) n row (omega arith))

place_lies : (i n : ℕ) (b : Bool) (later : List ℕ) → i < n → All (λ (p : ℕ). p < n) later → All (λ (p : ℕ). p < n) (if b then i ∷ later else later)
place_lies i n true later lt h = All-cons (λ (p : ℕ). p < n) i later lt h
place_lies i n false later lt h = h

places_lie : (test : Turn → Bool) (i n : ℕ) (columns : List Turn) → i + length columns ≡ n → All (λ (p : ℕ). p < n) (places_from test i columns)
unfolding places_from
places_lie test i n [] e = All-nil (λ (p : ℕ). p < n)
places_lie test i n (c ∷ cs) e = place_lies i n (test c) (places_from test (i + 1) cs) (omega arith) (places_lie test (i + 1) n cs (omega arith))

moment_lies : (i n : ℕ) (o : Option ℕ) (later : List Moment) → i < n → All (λ (m : Moment). m.column < n) later → All (λ (m : Moment). m.column < n) (moment_at i o ++ later)
moment_lies i n None later lt h = h
moment_lies i n (Some at) later lt h = All-cons (λ (m : Moment). m.column < n) _ later lt h

moments_lie : (i n : ℕ) (columns : List Turn) → i + length columns ≡ n → All (λ (m : Moment). m.column < n) (moments_from i columns)
unfolding moments_from
moments_lie i n [] e = All-nil (λ (m : Moment). m.column < n)
moments_lie i n (c ∷ cs) e = moment_lies i n (moved_in c.before) (moments_from (i + 1) cs) (omega arith) (moments_lie (i + 1) n cs (omega arith))

-- the first of some numbers that are all below another
first_below : (xs : List ℕ) (n : ℕ) → All (λ (p : ℕ). p < n) xs → IfSome (slice_get xs 0) (λ p. p < n)
first_below [] n h = tt
first_below (x ∷ xs) n h = h 0 x (omega arith)

-- the end is one column more, or none
end_more : (cut : Bool) (n : ℕ) → (n ≤ with_end cut n) × (with_end cut n ≤ n + 1)
end_more true n = (omega arith, omega arith)
end_more false n = (omega arith, omega arith)

length_row : (cut : Bool) (marks : List Mark) (columns : List Turn) (t : ℕ) → length (whole_row cut marks columns t) ≡ with_end cut (length columns)
length_row true marks columns t = let e = length-map columns (shown_in t) in omega (arith, length-append (row_of t columns) [])
length_row false marks columns t = let e = length-map columns (shown_in t) in omega (arith, length_push (row_of t columns) (shown_after t marks))

below_end : (cut : Bool) (n : ℕ) (xs : List ℕ) → All (λ (p : ℕ). p < n) xs → All (λ (p : ℕ). p < with_end cut n) xs
below_end cut n xs h = All-weaker (λ (p : ℕ). p < n) (λ (p : ℕ). p < with_end cut n) (λ p low. omega (arith, (end_more cut n).0)) xs h

lane_lies : (cut : Bool) (marks : List Mark) (columns : List Turn) (t : ℕ) → IsLaneWithin (with_end cut (length columns)) (lane_of cut marks columns t)
lane_lies cut marks columns t =
    let n : ℕ = with_end cut (length columns) in record {
      stretches = All-weaker (Lies 0 n) (IsStretchWithin n) (λ s h. h.before) _
          (stretches_lie 0 n (whole_row cut marks columns t) (omega (arith, length_row cut marks columns t)));
      canceled = below_end cut (length columns) _ (places_lie (is_canceled_in t) 0 (length columns) columns (omega arith));
      ended = first_below (places (ends_in t) columns) n (below_end cut (length columns) _ (places_lie (ends_in t) 0 (length columns) columns (omega arith)));
    }

pub few_columns : (from turns : ℕ) (marks : List Mark) → turns ≤ most_turns → length (columns_of from turns marks) ≤ most_turns
few_columns from turns marks few = let short = length-take turns (drop (from - 1) (turns_of marks)) in omega arith

-- there are no more turns than marks
turn_or_none : (before after : List Mark) (o : Option ℕ) → length (turn_begun before o after) ≤ 1
turn_or_none before after None = omega arith
turn_or_none before after (Some t) = omega arith

few_turns : (before ms : List Mark) → length (turns_after before ms) ≤ length ms
unfolding turns_after
few_turns before [] = omega arith
few_turns before (m ∷ ms) =
    let all = length-append (turn_begun before (dispatched m) ms) (turns_after (before ++ m ∷ []) ms) in
    omega (arith, all, turn_or_none before ms (dispatched m), few_turns (before ++ m ∷ []) ms)

turns_are : (cut : Bool) (n : ℕ) → (if cut then with_end cut n else with_end cut n - 1) ≡ n
turns_are true n = refl
turns_are false n = omega arith

-- the turns that are drawn have numbers
numbered : (from turns : ℕ) (marks : List Mark) → length marks < 2 ^ 64 → 0 < length (columns_of from turns marks) → from + length (columns_of from turns marks) ≤ 2 ^ 64
numbered from turns marks fits some =
    let short = length-take turns (drop (from - 1) (turns_of marks)) in
    let left = length-drop (from - 1) (turns_of marks) in
    omega (arith, few_turns [] marks)

pub chart_within : (from turns : ℕ) (end : End) (marks : List Mark) → turns ≤ most_turns → length marks < 2 ^ 64 → IsWithinColumns (chart from turns end marks)
unfolding chart
chart_within from turns end marks few fits =
    let columns : List Turn = columns_of from turns marks in
    let cut : Bool = is_cut from turns marks in
    let more = end_more cut (length columns) in
    record {
      columns = omega (arith, more.1, few_columns from turns marks few);
      turns = subst (λ (n : ℕ). 0 < n → from + n ≤ 2 ^ 64) (sym (turns_are cut (length columns))) (numbered from turns marks fits);
      lanes = All-map (IsLaneWithin (with_end cut (length columns))) (lane_of cut marks columns) _ (λ k d low. lane_lies cut marks columns _);
      moments = All-weaker (λ (m : Moment). m.column < length columns) (λ (m : Moment). m.column < with_end cut (length columns)) (λ m low. omega (arith, more.0)) _
          (moments_lie 0 (length columns) columns (omega arith));
    }
