-- The picture of a chart, as a text in SVG. Lengths are in pixels, and places are counted from the upper left corner.
use Rattle.std.specs.Prelude.{◌+◌, ◌*◌, ◌/◌, ◌==◌, ℕ, if◌then◌else◌, List, [], ◌∷◌, ◌++◌, codes, decimal, flat_map, fold, length, max, Option, Some, None}
use Rattle.std.specs.Fmt.{signed_decimal}
use Rattle.std.specs.List.{concat, range_with_len}
use Rattle.pth_drawing.specs.Charts.{ChartSeen, LaneSeen, turns_in}
use Rattle.pth_drawing.specs.Svg.{attribute}
use Rattle.pth_drawing.specs.declared.chart.End.{End}
use Rattle.pth_drawing.specs.declared.chart.End.TheVariants as end
use Rattle.pth_drawing.specs.declared.chart.Moment.{Moment}
use Rattle.pth_drawing.specs.declared.chart.Shown.{Shown}
use Rattle.pth_drawing.specs.declared.chart.Shown.TheVariants as shown
use Rattle.pth_drawing.specs.declared.chart.Stretch.{Stretch}

-- the left edge of a column
abbrev pub left_of : (column : ℕ) → ℕ
left_of column = 60 + 12 * column

-- ---- the head

-- how wide a picture of so many columns is: as wide as the legend at least
abbrev pub width_of : (columns : ℕ) → ℕ
width_of columns = max 520 (72 + 12 * columns)

-- a white ground
unfoldable pub opening_line : (width height : ℕ) → List ℕ
opening_line width height = concat (codes "<svg xmlns=\"http://www.w3.org/2000/svg\""
    ∷ attribute (codes "width") width ∷ attribute (codes "height") height
    ∷ codes " viewBox=\"0 0 " ∷ decimal width ∷ codes " " ∷ decimal height
    ∷ codes "\">\n<rect width=\"100%\" height=\"100%\" fill=\"white\"/>\n" ∷ [])

-- how text, ticks, stretches, crosses and bars look
unfoldable pub style_line : List ℕ
style_line = concat (codes "<style>text{font:10px monospace;fill:#111827}.turn{stroke:#d1d5db}"
    ∷ codes ".running{fill:#2563eb}.waiting{fill:#f59e0b}.ready{fill:#9ca3af}"
    ∷ codes ".canceled{stroke:#dc2626;stroke-width:2}.ended{stroke:#111827;stroke-width:3}</style>\n" ∷ [])

-- ---- the axis of turns

-- a line through all lanes at the left edge of a column, and the number of its turn below
unfoldable pub tick_line : (top bottom column turn : ℕ) → List ℕ
tick_line top bottom column turn = concat (codes "<path class=\"turn\" d=\"M" ∷ decimal (left_of column) ∷ codes " " ∷ decimal top
    ∷ codes "V" ∷ decimal (bottom + 4) ∷ codes "\"/>\n<text" ∷ attribute (codes "x") (left_of column) ∷ attribute (codes "y") (bottom + 14)
    ∷ codes ">" ∷ decimal turn ∷ codes "</text>\n" ∷ [])

-- the first turn that is drawn has a tick, and so has each tenth one after it
abbrev pub axis_lines : (top bottom from turns : ℕ) → List ℕ
axis_lines top bottom from turns = flat_map (λ k. tick_line top bottom (10 * k) (from + 10 * k)) (range_with_len 0 ((turns + 9) / 10))

-- ---- the moments, upright above the first lane

-- the greatest moment
abbrev pub greatest_moment : List Moment → ℕ
greatest_moment moments = fold (λ n m. max n m.at) 0 moments

-- the upper edge of the first lane: below the longest moment, with six pixels for each digit
abbrev pub top_of : List Moment → ℕ
top_of moments = 14 + 6 * length (decimal (greatest_moment moments))

-- a moment stands upright above its column
unfoldable pub moment_line : (top : ℕ) → Moment → List ℕ
moment_line top m = concat (codes "<text x=\"4\" transform=\"translate(" ∷ decimal (left_of m.column + 10) ∷ codes " " ∷ decimal top
    ∷ codes ")rotate(-90)\">" ∷ decimal m.at ∷ codes "</text>\n" ∷ [])

-- ---- a lane, whose upper edge is at `top`

-- the name of its thread
unfoldable pub name_line : (top thread : ℕ) → List ℕ
name_line top thread = concat (codes "<text x=\"4\"" ∷ attribute (codes "y") (top + 14)
    ∷ codes ">t" ∷ decimal thread ∷ codes "</text>\n" ∷ [])

-- what a thread is drawn as, in a word
abbrev pub shown_word : Shown → List ℕ
shown_word shown.Running = codes "running"
shown_word shown.Waiting = codes "waiting"
shown_word shown.Ready = codes "ready"

-- how far below the lane's upper edge a stretch begins, and how high it is: that of a thread which is ready is a thin line
abbrev pub depth_of : Shown → ℕ
depth_of shown.Running = 3
depth_of shown.Waiting = 3
depth_of shown.Ready = 9

abbrev pub thickness_of : Shown → ℕ
thickness_of shown.Running = 14
thickness_of shown.Waiting = 14
thickness_of shown.Ready = 2

unfoldable pub stretch_line : (top : ℕ) → Stretch → List ℕ
stretch_line top s = concat (codes "<rect class=\"" ∷ shown_word s.shown ∷ codes "\""
    ∷ attribute (codes "x") (left_of s.first) ∷ attribute (codes "y") (top + depth_of s.shown)
    ∷ attribute (codes "width") (12 * s.columns) ∷ attribute (codes "height") (thickness_of s.shown) ∷ codes "/>\n" ∷ [])

-- a cross in the column in which the thread is canceled
unfoldable pub cross_line : (top column : ℕ) → List ℕ
cross_line top column = concat (codes "<path class=\"canceled\" d=\"M" ∷ decimal (left_of column + 2)
    ∷ codes " " ∷ decimal (top + 6) ∷ codes "l8 8m0 -8l-8 8\"/>\n" ∷ [])

-- a bar at the end of the column in which the thread ends, if it ends in one
unfoldable pub bar_line : (top column : ℕ) → List ℕ
bar_line top column = concat (codes "<line class=\"ended\""
    ∷ attribute (codes "x1") (left_of column + 11) ∷ attribute (codes "y1") (top + 3)
    ∷ attribute (codes "x2") (left_of column + 11) ∷ attribute (codes "y2") (top + 17) ∷ codes "/>\n" ∷ [])

abbrev pub end_lines : (top : ℕ) → Option ℕ → List ℕ
end_lines top None = []
end_lines top (Some column) = bar_line top column

unfoldable pub lane_lines : (top : ℕ) → LaneSeen → List ℕ
lane_lines top lane = name_line top lane.thread ++ (flat_map (stretch_line top) lane.stretches
    ++ (flat_map (cross_line top) lane.canceled ++ end_lines top lane.ended))

-- lanes, each below the one before it, the first at `top`
abbrev pub lanes_from : (top : ℕ) → List LaneSeen → List ℕ
lanes_from top [] = []
lanes_from top (lane ∷ lanes) = lane_lines top lane ++ lanes_from (top + 20) lanes

-- ---- the foot, below the last lane, whose lower edge is at `bottom`

-- the turn of the first column, if it is not the first turn
abbrev pub from_words : (from : ℕ) → List ℕ
from_words from = if from == 1 then [] else concat (codes "From turn " ∷ decimal from ∷ codes ". " ∷ [])

-- where the picture is cut, if turns follow
abbrev pub cut_words : ChartSeen → List ℕ
cut_words chart = if chart.is_cut then concat (codes "Cut after " ∷ decimal chart.columns ∷ codes " turns. " ∷ []) else []

-- how the run ended
abbrev pub ending_words : End → List ℕ
ending_words (end.Ended v) = codes "ended " ++ signed_decimal v
ending_words end.Killed = codes "killed"
ending_words end.Stalled = codes "stalled"
ending_words (end.StepLimit n) = codes "step limit " ++ decimal n

-- the caption says all of that
abbrev pub caption_words : ChartSeen → List ℕ
caption_words chart = from_words chart.from ++ (cut_words chart ++ (codes "End of the run: " ++ ending_words chart.end))

unfoldable pub caption_line : (bottom : ℕ) → ChartSeen → List ℕ
caption_line bottom chart = codes "<text x=\"4\" y=\"" ++ (decimal (bottom + 30) ++ (codes "\">" ++ (caption_words chart ++ codes "</text>\n")))

-- the legend says what each sign means
unfoldable pub legend_lines : (bottom : ℕ) → List ℕ
legend_lines bottom = concat (codes "<g transform=\"translate(0 " ∷ decimal (bottom + 38) ∷ codes ")\">\n"
    ∷ codes "<rect class=\"running\" x=\"4\" y=\"3\" width=\"12\" height=\"14\"/><text x=\"20\" y=\"14\">runs</text>\n"
    ∷ codes "<rect class=\"waiting\" x=\"60\" y=\"3\" width=\"12\" height=\"14\"/><text x=\"76\" y=\"14\">waits</text>\n"
    ∷ codes "<rect class=\"ready\" x=\"122\" y=\"9\" width=\"12\" height=\"2\"/><text x=\"138\" y=\"14\">ready or suspended</text>\n"
    ∷ codes "<path class=\"canceled\" d=\"M262 6l8 8m0 -8l-8 8\"/><text x=\"276\" y=\"14\">canceled</text>\n"
    ∷ codes "<line class=\"ended\" x1=\"341\" y1=\"3\" x2=\"341\" y2=\"17\"/><text x=\"348\" y=\"14\">ends</text>\n"
    ∷ codes "<text x=\"388\" y=\"14\">upright: microseconds</text>\n</g>\n" ∷ [])

abbrev pub foot_lines : (bottom : ℕ) → ChartSeen → List ℕ
foot_lines bottom chart = caption_line bottom chart ++ legend_lines bottom

-- ---- the whole

-- the picture of a chart whose first lane is at `top`, and whose last one ends at `bottom`
abbrev pub picture_between : (top bottom : ℕ) → ChartSeen → List ℕ
picture_between top bottom chart = opening_line (width_of chart.columns) (bottom + 62) ++ (style_line
    ++ (axis_lines top bottom chart.from (turns_in chart) ++ (flat_map (moment_line top) chart.moments
    ++ (lanes_from top chart.lanes ++ (foot_lines bottom chart ++ codes "</svg>\n")))))

unfoldable pub picture_of : ChartSeen → List ℕ
picture_of chart = picture_between (top_of chart.moments) (top_of chart.moments + 20 * length chart.lanes) chart
