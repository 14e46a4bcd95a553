-- What stretches are to the columns of a lane.
use Rattle.std.specs.Prelude.{◌≡◌, ◌<◌, ◌≤◌, ℕ, ◌+◌, ◌-◌, ◌&&◌, nat_lt, nat_le, Bool, List, [], ◌∷◌, map, Option, Some, None}
use Rattle.std.specs.List.{All, filter}
use Rattle.pth_base.specs.declared.mark.Mark.{Mark}
use Rattle.pth_drawing.specs.Charts.{ChartSeen}
use Rattle.pth_drawing.specs.States.{shown_after}
use Rattle.pth_drawing.specs.declared.chart.Shown.{Shown}
use Rattle.pth_drawing.specs.declared.chart.Stretch.{Stretch}

-- a stretch has a column
abbrev pub has_column : ℕ → Stretch → Bool
has_column i x = nat_le x.first i && nat_lt i (x.first + x.columns)

-- as what the stretches that have a column are drawn, one after the other
abbrev pub shown_at : ℕ → List Stretch → List Shown
shown_at i xs = map (λ x. x.shown) (filter (has_column i) xs)

-- as what a thread is drawn in a column, if it is drawn there and there is such a column
abbrev pub drawn_as : Option (Option Shown) → List Shown
drawn_as None = []
drawn_as (Some None) = []
drawn_as (Some (Some s)) = s ∷ []

-- a stretch has a column at least, and lies within so many
abbrev pub LiesWithin : (columns : ℕ) → Stretch → Type 0
LiesWithin columns x = (0 < x.columns) × (x.first + x.columns ≤ columns)

-- a stretch goes over into another
abbrev pub GoesInto : Stretch → Stretch → Type 0
GoesInto x y = (x.first + x.columns ≡ y.first) × (x.shown ≡ y.shown)

-- no stretch goes over into the one that comes next
unfoldable pub AreLongest : List Stretch → Type 0
AreLongest [] = Unit {0}
AreLongest (x ∷ []) = Unit {0}
AreLongest (x ∷ y ∷ ys) = ¬ (GoesInto x y) × AreLongest (y ∷ ys)

-- the last column of each lane shows how its thread stands after the last mark
abbrev pub ShowsEnd : List Mark → ChartSeen → Type 0
ShowsEnd marks c = All (λ lane. shown_at (c.columns - 1) lane.stretches ≡ drawn_as (Some (shown_after lane.thread marks))) c.lanes
