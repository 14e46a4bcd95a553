-- Charts that lie within so many columns.
use Rattle.std.specs.Prelude.{◌+◌, ◌<◌, ◌≤◌, ◌^◌, ℕ, IfSome}
use Rattle.std.specs.List.{All}
use Rattle.pth_drawing.specs.Charts.{ChartSeen, LaneSeen, turns_in}
use Rattle.pth_drawing.specs.declared.chart.Stretch.{Stretch}

-- how many turns are drawn at most
abbrev pub most_turns : ℕ
most_turns = 2000

-- how many columns a chart has at most: the turns, and the end
abbrev pub most_columns : ℕ
most_columns = 2001

-- a stretch lies within so many columns
abbrev pub IsStretchWithin : (columns : ℕ) → Stretch → Type 0
IsStretchWithin columns s = s.first + s.columns ≤ columns

-- a lane lies within so many columns
pub record IsLaneWithin (columns : ℕ) (lane : LaneSeen) : Type 0 where
  pub stretches : All (IsStretchWithin columns) lane.stretches
  pub canceled : All (λ column. column < columns) lane.canceled
  pub ended : IfSome lane.ended (λ column. column < columns)

-- a chart has no more columns than may be, its turns have numbers, and all of it lies within the columns
pub record IsWithinColumns (chart : ChartSeen) : Type 0 where
  pub columns : chart.columns ≤ most_columns
  pub turns : 0 < turns_in chart → chart.from + turns_in chart ≤ 2 ^ 64
  pub lanes : All (IsLaneWithin chart.columns) chart.lanes
  pub moments : All (λ m. m.column < chart.columns) chart.moments
