-- Lines of a transcript, and what they tell.
use Rattle.std.specs.Prelude.{ℕ, List, [], map, flat_map}
use Rattle.pth_base.specs.declared.mark.Mark.{Mark}
use Rattle.pth_base.specs.declared.outcome.Outcome.TheVariants as outcome
use Rattle.pth_print.specs.EndLines.{end_line}
use Rattle.pth_print.specs.MarkLines.{mark_line}
use Rattle.pth_transcript.specs.declared.ending.Ending.{Ending}
use Rattle.pth_transcript.specs.declared.ending.Ending.TheVariants as ending
use Rattle.pth_transcript.specs.declared.told.Told.{Told}

-- the line of a mark
abbrev pub told_line : Told → List ℕ
told_line told = mark_line told.audit told.mark

-- the lines of marks
abbrev pub told_lines : List Told → List ℕ
told_lines told = flat_map told_line told

-- the marks of lines
abbrev pub marks_of : List Told → List Mark
marks_of told = map (λ t. t.mark) told

-- the line of an ending
abbrev pub ending_line : Ending → List ℕ
ending_line (ending.Ended v) = end_line (outcome.Ended v) 0 []
ending_line ending.Killed = end_line outcome.Killed 0 []
ending_line (ending.Stalled live) = end_line outcome.Stalled 0 (map (λ t. t.0) live.items)
ending_line (ending.StepLimit n) = end_line outcome.Running n []
