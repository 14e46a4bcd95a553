-- The last column of a lane is the end of the run.
use Rattle.std.proofs.Common.{◌≡◌, ◌∙◌, ℕ, ◌+◌, ◌-◌, Bool, true, false, List, [], ◌∷◌, ◌++◌, length, slice_get, Some, sym, ap, arith}
use Rattle.std.proofs.Math.Seq.{get_or-append_seam}
use Rattle.std.proofs.lemmas.Bool.{false≢true}
use Rattle.std.proofs.lemmas.List.{length-map, length_push}
use Rattle.std.proofs.lemmas.List.Elements.{All-map}
use Rattle.std.proofs.lemmas.Option.{slice_get-get_or}
use Rattle.pth_base.specs.declared.mark.Mark.{Mark}
use Rattle.pth_drawing.specs.Charts.{LaneSeen}
use Rattle.pth_drawing.specs.Drawing.{chart, chart_with, columns_of, is_cut, lane_of, row_of, whole_row}
use Rattle.pth_drawing.specs.States.{Turn, shown_after, shown_in}
use Rattle.pth_drawing.specs.Tiling.{ShowsEnd, drawn_as, shown_at}
use Rattle.pth_drawing.specs.declared.chart.End.{End}
use Rattle.pth_drawing.proofs.Tiles.{tile}

last_of_row : {A : Type 0} (xs : List A) (y : A) → slice_get (xs ++ y ∷ []) (length xs) ≡ Some y
last_of_row xs y = slice_get-get_or (xs ++ y ∷ []) (length xs) y (omega (arith, length_push xs y)) ∙ ap Some (get_or-append_seam xs y [] y)

lane_at_end : (marks : List Mark) (columns : List Turn) (t : ℕ) → shown_at (length columns + 1 - 1) (lane_of false marks columns t).stretches ≡ drawn_as (Some (shown_after t marks))
lane_at_end marks columns t =
    let row = whole_row false marks columns t in
    let last : length columns + 1 - 1 ≡ length (row_of t columns) = let e = length-map columns (shown_in t) in omega arith in
    tile row (length columns + 1 - 1) ∙ ap drawn_as (ap (slice_get row) last ∙ last_of_row (row_of t columns) (shown_after t marks))

pub shows_end : (from turns : ℕ) (end : End) (marks : List Mark) → (chart from turns end marks).is_cut ≡ false → ShowsEnd marks (chart from turns end marks)
unfolding chart
shows_end from turns end marks = by (is_cut from turns marks)
  where
    columns : List Turn
    columns = columns_of from turns marks

    by : (b : Bool) → b ≡ false → ShowsEnd marks (chart_with from b end marks columns)
    by true is = absurd (false≢true (sym is))
    by false is =
        All-map (λ (lane : LaneSeen). shown_at (length columns + 1 - 1) lane.stretches ≡ drawn_as (Some (shown_after lane.thread marks))) (lane_of false marks columns) _
        (λ k d low. lane_at_end marks columns _)
