-- The chart of a run, by its marks: a column for each turn and one for the end, and a lane for each thread that is drawn in one.
use Rattle.std.specs.Prelude.{ℕ, ◌+◌, ◌-◌, ◌==◌, ◌&&◌, nat_lt, max, pos, Bool, true, false, if◌then◌else◌, List, [], ◌∷◌, ◌++◌, fold, length, map, take, drop, slice_get, Option, Some, None, is_some}
use Rattle.std.specs.List.{filter, list_any, range_with_len}
use Rattle.pth_base.specs.declared.answer.Answer.TheVariants.{Int}
use Rattle.pth_base.specs.declared.call.Call.TheVariants as call
use Rattle.pth_base.specs.declared.mark.Mark.{Mark}
use Rattle.pth_base.specs.declared.mark.Mark.TheVariants as mark
use Rattle.pth_laws.specs.Marks.{is_end_of, is_cancellation_of}
use Rattle.pth_drawing.specs.declared.chart.End.{End}
use Rattle.pth_drawing.specs.declared.chart.Moment.{Moment}
use Rattle.pth_drawing.specs.declared.chart.Shown.{Shown}
use Rattle.pth_drawing.specs.declared.chart.Shown.TheVariants.{Running, Waiting, Ready}
use Rattle.pth_drawing.specs.declared.chart.Stretch.{Stretch}
use Rattle.pth_drawing.specs.Charts.{LaneSeen, ChartSeen}
use Rattle.pth_drawing.specs.States.{Turn, turns_of, shown_in, shown_after}

-- ---- columns

-- the turns that are drawn, a column each: so many from a turn on, which is counted from 1
abbrev pub columns_of : (from turns : ℕ) → List Mark → List Turn
columns_of from turns marks = take turns (drop (from - 1) (turns_of marks))

-- turns follow the last of these, so that the end of the run is not drawn
abbrev pub is_cut : (from turns : ℕ) → List Mark → Bool
is_cut from turns marks = nat_lt (from - 1 + turns) (length (turns_of marks))

-- so many columns, and one more for the end, unless the run is cut before it
abbrev pub with_end : (cut : Bool) → ℕ → ℕ
with_end cut n = if cut then n else n + 1

-- the columns that pass a test, counted from i on
unfoldable pub places_from : (Turn → Bool) → ℕ → List Turn → List ℕ
places_from test i [] = []
places_from test i (c ∷ cs) =
    if test c
    then i ∷ places_from test (i + 1) cs
    else places_from test (i + 1) cs

-- the columns that pass a test, counted from 0
abbrev pub places : (Turn → Bool) → List Turn → List ℕ
places test columns = places_from test 0 columns

-- ---- stretches

-- a thread is drawn as the same
abbrev pub is_same : Shown → Shown → Bool
is_same Running Running = true
is_same Waiting Waiting = true
is_same Ready Ready = true
is_same s x = false

-- as what a thread is drawn in each column, from left to right
abbrev pub Row : Type 0
Row = List (Option Shown)

-- a column joins the stretch that begins beside it, if the thread is drawn as the same there, and else it is a stretch of its own
abbrev pub with_column : ℕ → Shown → List Stretch → List Stretch
with_column i s [] = record { shown = s; first = i; columns = 1 } ∷ []
with_column i s (x ∷ xs) =
    if x.first == i + 1 && is_same x.shown s
    then record { shown = s; first = i; columns = x.columns + 1 } ∷ xs
    else record { shown = s; first = i; columns = 1 } ∷ x ∷ xs

-- the stretches of columns that are counted from i on
unfoldable pub stretches_from : ℕ → Row → List Stretch
stretches_from i [] = []
stretches_from i (None ∷ row) = stretches_from (i + 1) row
stretches_from i (Some s ∷ row) = with_column i s (stretches_from (i + 1) row)

-- the stretches of a row
abbrev pub stretches_of : Row → List Stretch
stretches_of row = stretches_from 0 row

-- ---- lanes

-- as what t is drawn in each turn
abbrev pub row_of : ℕ → List Turn → Row
row_of t columns = map (shown_in t) columns

-- and how it stands at the end, unless the run is cut before it
abbrev pub whole_row : (cut : Bool) → List Mark → List Turn → ℕ → Row
whole_row cut marks columns t = row_of t columns ++ (if cut then [] else shown_after t marks ∷ [])

-- t is canceled in a turn, or ends in it
abbrev pub is_canceled_in : ℕ → Turn → Bool
is_canceled_in t turn = list_any (is_cancellation_of t) turn.during

abbrev pub ends_in : ℕ → Turn → Bool
ends_in t turn = list_any (is_end_of t) turn.during

-- the lane of t
abbrev pub lane_of : (cut : Bool) → List Mark → List Turn → ℕ → LaneSeen
lane_of cut marks columns t = record {
  thread = t;
  stretches = stretches_of (whole_row cut marks columns t);
  canceled = places (is_canceled_in t) columns;
  ended = slice_get (places (ends_in t) columns) 0;
}

-- t is drawn in a column at least
abbrev pub is_drawn : (cut : Bool) → List Mark → List Turn → ℕ → Bool
is_drawn cut marks columns t = list_any is_some (whole_row cut marks columns t)

-- the greatest number so far of a thread that is dispatched or that a spawn is answered, 1 at least
abbrev pub greatest_after : ℕ → Mark → ℕ
greatest_after n (mark.Dispatch turn at t rank waited allowed) = max n t.0
greatest_after n (mark.Answered u (call.Spawn b v a) (Int (pos t))) = max n t
greatest_after n m = n

-- the greatest number of a thread that these marks bring
abbrev pub greatest_of : List Mark → ℕ
greatest_of marks = fold greatest_after 1 marks

-- the lanes of the threads that are drawn, by rising number
abbrev pub lanes_of : (cut : Bool) → List Mark → List Turn → List LaneSeen
lanes_of cut marks columns = map (lane_of cut marks columns) (filter (is_drawn cut marks columns) (range_with_len 0 (greatest_of marks + 1)))

-- ---- moments

-- the moment to which time moved last since the last Dispatch, after a mark
abbrev pub moved_after : Option ℕ → Mark → Option ℕ
moved_after last (mark.Dispatch turn at t rank waited allowed) = None
moved_after last (mark.Moved at) = Some at
moved_after last m = last

-- the moment to which time moved last before a turn, since the turn before it
abbrev pub moved_in : List Mark → Option ℕ
moved_in marks = fold moved_after None marks

-- the moment above a column, if time moved
abbrev pub moment_at : ℕ → Option ℕ → List Moment
moment_at i None = []
moment_at i (Some at) = record { column = i; at = at } ∷ []

-- the moments of columns that are counted from i on
unfoldable pub moments_from : ℕ → List Turn → List Moment
moments_from i [] = []
moments_from i (c ∷ cs) = moment_at i (moved_in c.before) ++ moments_from (i + 1) cs

-- ---- the chart

abbrev pub chart_with : (from : ℕ) → (cut : Bool) → End → List Mark → List Turn → ChartSeen
chart_with from cut end marks columns = record {
  from = from;
  columns = with_end cut (length columns);
  is_cut = cut;
  lanes = lanes_of cut marks columns;
  moments = moments_from 0 columns;
  end = end;
}

-- so many turns of a run, from one of them on, and its end unless it is cut before
unfoldable pub chart : (from turns : ℕ) → End → List Mark → ChartSeen
chart from turns end marks = chart_with from (is_cut from turns marks) end marks (columns_of from turns marks)
