-- How runs ended.
use Rattle.pth_transcript.specs.declared.ending.Ending.{Ending}
use Rattle.pth_transcript.specs.declared.ending.Ending.TheVariants as ending
use Rattle.pth_drawing.specs.declared.chart.End.{End}
use Rattle.pth_drawing.specs.declared.chart.End.TheVariants as end

-- the end that the last line of a transcript shows
abbrev pub end_of : Ending → End
end_of (ending.Ended v) = end.Ended v
end_of ending.Killed = end.Killed
end_of (ending.Stalled live) = end.Stalled
end_of (ending.StepLimit n) = end.StepLimit n
