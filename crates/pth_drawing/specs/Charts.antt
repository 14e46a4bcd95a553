-- What is drawn of a run, as lists.
use Rattle.std.specs.Prelude.{ℕ, ◌-◌, Bool, if◌then◌else◌, List, Option, map}
use Rattle.pth_drawing.specs.declared.chart.Chart.{Chart}
use Rattle.pth_drawing.specs.declared.chart.End.{End}
use Rattle.pth_drawing.specs.declared.chart.Lane.{Lane}
use Rattle.pth_drawing.specs.declared.chart.Moment.{Moment}
use Rattle.pth_drawing.specs.declared.chart.Stretch.{Stretch}

-- a thread's lane
pub record LaneSeen : Type 0 where
  pub thread : ℕ
  pub stretches : List Stretch
  pub canceled : List ℕ
  pub ended : Option ℕ

-- a run
pub record ChartSeen : Type 0 where
  -- the turn of the first column, counted from 1
  pub from : ℕ
  pub columns : ℕ
  -- turns follow the last column, which else is that of the end
  pub is_cut : Bool
  pub lanes : List LaneSeen
  pub moments : List Moment
  -- how the run ended
  pub end : End

-- how many columns are turns
abbrev pub turns_in : ChartSeen → ℕ
turns_in chart = if chart.is_cut then chart.columns else chart.columns - 1

abbrev pub lane_seen : Lane → LaneSeen
lane_seen l = record { thread = l.thread; stretches = l.stretches.items; canceled = l.canceled.items; ended = l.ended }

abbrev pub chart_seen : Chart → ChartSeen
chart_seen c = record {
  from = c.from;
  columns = c.columns;
  is_cut = c.is_cut;
  lanes = map lane_seen c.lanes.items;
  moments = c.moments.items;
  end = c.end;
}
