-- Charts within columns.
use Rattle.std.proofs.Common.{◌<◌, ◌≤◌, ℕ, All, IfSome, Option, Some, None, subst, arith}
use Rattle.std.proofs.lemmas.List.Elements.{All-weaker}
use Rattle.std.proofs.lemmas.List.{get_or-map, length-map}
use Rattle.pth_drawing.specs.Bounds.{IsLaneWithin, IsStretchWithin, IsWithinColumns, most_columns}
use Rattle.pth_drawing.specs.Charts.{LaneSeen, chart_seen, lane_seen}
use Rattle.pth_drawing.specs.declared.chart.Chart.{Chart}
use Rattle.pth_drawing.specs.declared.chart.Lane.{Lane}

some_below : (o : Option ℕ) (a b : ℕ) → a ≤ b → IfSome o (λ n. n < a) → IfSome o (λ n. n < b)
some_below None a b le h = tt
some_below (Some n) a b le h = omega arith

-- a lane that lies within some columns lies within more
more_columns : (a b : ℕ) (lane : LaneSeen) → a ≤ b → IsLaneWithin a lane → IsLaneWithin b lane
more_columns a b lane le h = record {
  stretches = All-weaker (IsStretchWithin a) (IsStretchWithin b) (λ s p. omega arith) lane.stretches h.stretches;
  canceled = All-weaker (λ (n : ℕ). n < a) (λ (n : ℕ). n < b) (λ n p. omega arith) lane.canceled h.canceled;
  ended = some_below lane.ended a b le h.ended;
}

-- each lane lies within as many columns as there may be
pub lanes_within : (chart : Chart) → IsWithinColumns (chart_seen chart) → All (λ (lane : Lane). IsLaneWithin most_columns (lane_seen lane)) chart.lanes.items
lanes_within chart h = λ k d lt.
    let seen = h.lanes k (lane_seen d) (rw length-map lt) in
    more_columns chart.columns most_columns _ h.columns (subst (IsLaneWithin chart.columns) (get_or-map lane_seen chart.lanes.items k d (lane_seen d) lt) seen)
