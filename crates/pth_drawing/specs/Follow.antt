-- What a drawing has of the marks so far.
use Rattle.std.specs.Prelude.{◌∷◌, ◌≡◌, ℕ, ◌+◌, ◌-◌, ◌≤◌, ◌<◌, Bool, true, false, List, [], ◌++◌, length, slice_get, flat_map, Option, None}
use Rattle.std.specs.Global.{Global}
use Rattle.std.specs.List.{range_with_len}
use Rattle.std.specs.declared.vec.Vec.{Vec}
use Rattle.pth_base.specs.declared.mark.Mark.{Mark}
use Rattle.pth_drawing.specs.declared.chart.Chart.{Chart}
use Rattle.pth_drawing.specs.declared.chart.End.{End}
use Rattle.pth_drawing.specs.declared.sheet.Sheet.{Sheet}
use Rattle.pth_drawing.specs.declared.chart.Lane.{Lane}
use Rattle.pth_drawing.specs.declared.drawing.Drawing.{Drawing}
use Rattle.pth_drawing.specs.Charts.{LaneSeen, ChartSeen, chart_seen}
use Rattle.pth_drawing.specs.Drawing.{columns_of, row_of, stretches_of, places, is_canceled_in, ends_in, moved_after, moved_in, moment_at, moments_from, with_end, chart}
use Rattle.pth_drawing.specs.States.{Turn, turns_of, dispatched, has_ended, is_waiting}
use Rattle.pth_transcript.specs.Threads.{is_there}
use Rattle.pth_drawing.specs.Tracks.{TrackSeen, track_in, ChangesAt, settled, settle, run, lane_if, seen_in}

-- ---- tracks

-- a track has what is drawn of its thread
pub record HasLane (t : ℕ) (columns : List Turn) (x : TrackSeen) : Type 0 where
  pub stretches : settled (length columns) x ≡ stretches_of (row_of t columns)
  pub since : x.since ≤ length columns
  pub canceled : x.canceled ≡ places (is_canceled_in t) columns
  pub ended : x.ended ≡ slice_get (places (ends_in t) columns) 0

-- a track has as what its thread stands after these marks
pub record Knows (t : ℕ) (marks : List Mark) (x : TrackSeen) : Type 0 where
  pub is_there : x.is_there ≡ is_there t marks
  pub has_ended : x.has_ended ≡ has_ended t marks
  pub is_waiting : x.is_waiting ≡ is_waiting t marks

-- ---- columns

-- there is a column more, in which t runs, under a moment if there is one
pub record IsColumnMore (old : Sheet) (t : ℕ) (moved : Option ℕ) (new : Sheet) : Type 0 where
  pub count : new.count ≡ old.count + 1
  pub moments : new.moments.items ≡ old.moments.items ++ moment_at old.count moved
  pub tracks : ChangesAt t (run old.count) old.tracks.by_thread new.tracks.by_thread

-- the lanes of the threads below a number
abbrev pub lanes_below : (most columns : ℕ) → (ℕ → TrackSeen) → List LaneSeen
lanes_below most columns track = flat_map (λ t. lane_if t (settle columns (track t))) (range_with_len 0 most)

-- all threads that have a lane are below a number
abbrev pub AreBelow : (most columns : ℕ) → (ℕ → TrackSeen) → Type 0
AreBelow most columns track = (t : ℕ) → most ≤ t → lane_if t (settle columns (track t)) ≡ []

-- lanes are those of all threads
abbrev pub AreLanesOf : (ℕ → TrackSeen) → (columns : ℕ) → Vec Lane Global → Type 0
AreLanesOf track columns lanes = (most : ℕ) → AreBelow most columns track → seen_in lanes ≡ lanes_below most columns track

abbrev pub chart_below : (from : ℕ) → (cut : Bool) → End → Sheet → (most : ℕ) → ChartSeen
chart_below from cut end sheet most = record {
  from = from;
  columns = with_end cut sheet.count;
  is_cut = cut;
  lanes = lanes_below most (with_end cut sheet.count) (track_in sheet.tracks.by_thread);
  moments = sheet.moments.items;
  end = end;
}

-- a chart is what is drawn, with the lanes of all threads
abbrev pub IsChartOf : (from : ℕ) → (cut : Bool) → End → Sheet → Chart → Type 0
IsChartOf from cut end sheet c =
    (most : ℕ) → AreBelow most (with_end cut sheet.count) (track_in sheet.tracks.by_thread) → chart_seen c ≡ chart_below from cut end sheet most

-- ---- the drawing

-- a mark that begins no turn and moves no time
pub record IsOther (m : Mark) : Type 0 where
  pub begins_none : dispatched m ≡ None
  pub moves_none : (last : Option ℕ) → moved_after last m ≡ last

-- no turn began after the last column yet, and as many as `ahead` says are to begin before the first one
pub record IsWithin (d : Drawing) (from turns begun : ℕ) : Type 0 where
  pub ahead : d.ahead ≡ from - 1 - begun
  pub within : begun ≤ from - 1 + turns

-- a drawing has what these marks tell, as far as it is drawn
pub record Draws (d : Drawing) (from turns : ℕ) (marks : List Mark) : Type 0 where
  pub wanted : d.turns ≡ turns
  pub count : d.sheet.count ≡ length (columns_of from turns marks)
  pub moments : d.sheet.moments.items ≡ moments_from 0 (columns_of from turns marks)
  pub drawn : (t : ℕ) → HasLane t (columns_of from turns marks) (track_in d.sheet.tracks.by_thread t)
  pub over : d.is_over ≡ true → from - 1 + turns < length (turns_of marks)
  pub within : d.is_over ≡ false → IsWithin d from turns (length (turns_of marks))
  pub moved : d.is_over ≡ false → d.moved ≡ moved_in marks
  pub known : d.is_over ≡ false → (t : ℕ) → Knows t marks (track_in d.sheet.tracks.by_thread t)

-- whatever marks a drawing has, another one has them with a mark more
abbrev pub GoesOn : Drawing → Mark → Drawing → Type 0
GoesOn d m new = (from turns : ℕ) (marks : List Mark) → Draws d from turns marks → Draws new from turns (marks ++ m ∷ [])

-- whatever marks a drawing has from a turn on, a chart is theirs
abbrev pub Shows : Drawing → (from : ℕ) → End → Chart → Type 0
Shows d from end c = (turns : ℕ) (marks : List Mark) → Draws d from turns marks → chart_seen c ≡ chart from turns end marks
