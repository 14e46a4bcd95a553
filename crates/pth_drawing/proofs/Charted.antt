-- The chart of what is drawn.
use Rattle.std.proofs.Common.{◌≡◌, ◌∙◌, ℕ, suc, ◌+◌, ◌-◌, ◌≤◌, ◌==◌, not, Bool, true, false, if◌then◌else◌, List, [], ◌∷◌, ◌++◌, length, map, flat_map, Option, Some, None, is_some, refl, sym, ap, subst, arith}
use Rattle.std.specs.List.{list_any, filter, range_with_len}
use Rattle.std.proofs.lemmas.Bool.{le-ltb, lt-ltb}
use Rattle.std.proofs.lemmas.List.{append-nil, length-map}
use Rattle.pth_base.specs.declared.mark.Mark.{Mark}
use Rattle.pth_drawing.specs.declared.chart.Shown.{Shown}
use Rattle.pth_drawing.specs.declared.chart.Stretch.{Stretch}
use Rattle.pth_drawing.specs.declared.chart.Moment.{Moment}
use Rattle.pth_drawing.specs.declared.chart.Chart.{Chart}
use Rattle.pth_drawing.specs.declared.chart.End.{End}
use Rattle.pth_drawing.specs.declared.drawing.Drawing.{Drawing}
use Rattle.pth_drawing.specs.Charts.{LaneSeen, ChartSeen, chart_seen}
use Rattle.pth_drawing.specs.Drawing.{Row, with_column, stretches_from, stretches_of, row_of, whole_row, with_end, is_cut, lane_of, is_drawn, lanes_of, greatest_of, columns_of, chart, chart_with}
use Rattle.pth_drawing.specs.Follow.{HasLane, Knows, Draws, IsChartOf, lanes_below, AreBelow}
use Rattle.pth_drawing.specs.States.{Turn, turns_of, shown_in}
use Rattle.pth_drawing.specs.Tracks.{TrackSeen, track_in, settle, settled, shown_idle, lane_if}
use Rattle.pth_base.proofs.Tables.{not_same}
use Rattle.pth_drawing.proofs.DrawnThreads.{undrawn_above}
use Rattle.pth_drawing.proofs.Heard.{settled_more, shown_of_known}
use Rattle.pth_drawing.proofs.WithColumns.{stretch, joins}

-- ---- a stretch for each drawn thread

cons_some : {A : Type 0} (x : A) (xs : List A) → (length (x ∷ xs) == 0) ≡ false
cons_some x xs = not_same (suc (length xs)) 0 (λ e. absurd (omega arith))

some_stretch : (b : Bool) (x y : Stretch) (xs ys : List Stretch) → (length (if b then x ∷ xs else y ∷ ys) == 0) ≡ false
some_stretch true x y xs ys = cons_some x xs
some_stretch false x y xs ys = cons_some y ys

with_column_some : (i : ℕ) (s : Shown) (xs : List Stretch) → (length (with_column i s xs) == 0) ≡ false
with_column_some i s [] = cons_some (stretch s i 1) []
with_column_some i s (x ∷ xs) = some_stretch (joins i s x) (stretch s i (x.columns + 1)) (stretch s i 1) xs (x ∷ xs)

stretches_some : (i : ℕ) (row : List (Option Shown)) → (length (stretches_from i row) == 0) ≡ not (list_any is_some row)
unfolding stretches_from
stretches_some i [] = refl
stretches_some i (None ∷ row) = stretches_some (i + 1) row
stretches_some i (Some s ∷ row) = with_column_some i s (stretches_from (i + 1) row)

-- ---- lanes

not_if : {A : Type 0} (b : Bool) (x y : A) → (if not b then x else y) ≡ (if b then y else x)
not_if true x y = refl
not_if false x y = refl

module _ (cut : Bool) (marks : List Mark) (columns : List Turn) (track : ℕ → TrackSeen) (drawn : (t : ℕ) → HasLane t columns (track t))
    (known : cut ≡ false → (t : ℕ) → Knows t marks (track t)) where
  abbrev row : ℕ → Row
  row t = whole_row cut marks columns t

  abbrev n : ℕ
  n = with_end cut (length columns)

  -- the stretches of a track with all columns are those of the row
  row_drawn : (t : ℕ) → settled n (track t) ≡ stretches_of (row t)
  row_drawn t = by cut refl
    where
      by : (b : Bool) → cut ≡ b → settled (with_end b (length columns)) (track t) ≡ stretches_of (whole_row b marks columns t)
      by true is = (drawn t).stretches ∙ ap stretches_of (sym (append-nil (row_of t columns)))
      by false is =
          let x = track t in
          settled_more (shown_idle x.is_there x.has_ended x.is_waiting) x.since (length columns) x.stretches (row_of t columns) (drawn t).since (length-map columns (shown_in t)) (drawn t).stretches
          ∙ ap (λ (o : Option Shown). stretches_of (row_of t columns ++ o ∷ [])) (sym (shown_of_known t marks x (known is t)))

  abbrev lane : ℕ → LaneSeen
  lane t = lane_of cut marks columns t

  abbrev is_seen : ℕ → Bool
  is_seen t = is_drawn cut marks columns t

  lane_drawn : (t : ℕ) → lane_if t (settle n (track t)) ≡ (if is_seen t then lane t ∷ [] else [])
  lane_drawn t =
      let d = drawn t in
      ap (λ (l : List Stretch). if length l == 0 then [] else record { thread = t; stretches = l; canceled = (track t).canceled; ended = (track t).ended } ∷ []) (row_drawn t)
      ∙ ap (λ b. if b then [] else record { thread = t; stretches = stretches_of (row t); canceled = (track t).canceled; ended = (track t).ended } ∷ []) (stretches_some 0 (row t))
      ∙ not_if (is_seen t) _ _
      ∙ ap (λ is. if is_seen t then record { thread = t; stretches = stretches_of (row t); canceled = is; ended = (track t).ended } ∷ [] else []) d.canceled
      ∙ ap (λ o. if is_seen t then record { thread = t; stretches = stretches_of (row t); canceled = (lane t).canceled; ended = o } ∷ [] else []) d.ended

  each_lane : (xs : List ℕ) → flat_map (λ t. lane_if t (settle n (track t))) xs ≡ map lane (filter is_seen xs)
  each_lane [] = refl
  each_lane (t ∷ ts) =
      ap (λ (l : List LaneSeen). l ++ flat_map (λ t. lane_if t (settle n (track t))) ts) (lane_drawn t)
      ∙ ap (λ (l : List LaneSeen). (if is_seen t then lane t ∷ [] else []) ++ l) (each_lane ts)
      ∙ by (is_seen t)
    where
      by : (b : Bool) → (if b then lane t ∷ [] else []) ++ map lane (filter is_seen ts) ≡ map lane (if b then t ∷ filter is_seen ts else filter is_seen ts)
      by true = refl
      by false = refl

  pub lanes_drawn : lanes_below (greatest_of marks + 1) n track ≡ lanes_of cut marks columns
  lanes_drawn = each_lane (range_with_len 0 (greatest_of marks + 1))

  pub none_above : (most : ℕ) → ((t : ℕ) → most ≤ t → is_seen t ≡ false) → AreBelow most n track
  none_above most undrawn t above = lane_drawn t ∙ ap (λ b. if b then lane t ∷ [] else []) (undrawn t above)

-- ---- the chart

module _ (from : ℕ) (cut : Bool) (end : End) where
  abbrev chart_of : ℕ → List LaneSeen → List Moment → ChartSeen
  chart_of n lanes moments = record { from = from; columns = n; is_cut = cut; lanes = lanes; moments = moments; end = end }

module _ (d : Drawing) (from turns : ℕ) (end : End) (marks : List Mark) (f : Draws d from turns marks) where
  abbrev drawn_columns : List Turn
  drawn_columns = columns_of from turns marks

  abbrev track : ℕ → TrackSeen
  track = track_in d.sheet.tracks.by_thread

  abbrev most : ℕ
  most = greatest_of marks + 1

  -- the drawing is over if turns follow the last column
  over_is_cut : d.is_over ≡ is_cut from turns marks
  over_is_cut = by d.is_over refl
    where
      by : (b : Bool) → d.is_over ≡ b → b ≡ is_cut from turns marks
      by true is = sym (lt-ltb (from - 1 + turns) (length (turns_of marks)) (f.over is))
      by false is = sym (le-ltb (from - 1 + turns) (length (turns_of marks)) ((f.within is).within))

  few : AreBelow most (with_end d.is_over d.sheet.count) track
  few =
      subst (λ (n : ℕ). AreBelow most (with_end d.is_over n) track) (sym f.count)
      (none_above d.is_over marks drawn_columns track f.drawn f.known most (λ t above. undrawn_above d.is_over from turns marks t (omega arith)))

  -- what is drawn is the chart of these marks
  pub charted : (c : Chart) → IsChartOf from d.is_over end d.sheet c → chart_seen c ≡ chart from turns end marks
  unfolding chart
  charted c is =
      is most few
      ∙ ap (λ (n : ℕ). chart_of from d.is_over end (with_end d.is_over n) (lanes_below most (with_end d.is_over n) track) d.sheet.moments.items) f.count
      ∙ ap (λ (l : List LaneSeen). chart_of from d.is_over end (with_end d.is_over (length drawn_columns)) l d.sheet.moments.items) (lanes_drawn d.is_over marks drawn_columns track f.drawn f.known)
      ∙ ap (λ (l : List Moment). chart_of from d.is_over end (with_end d.is_over (length drawn_columns)) (lanes_of d.is_over marks drawn_columns) l) f.moments
      ∙ ap (λ (b : Bool). chart_with from b end marks drawn_columns) over_is_cut
