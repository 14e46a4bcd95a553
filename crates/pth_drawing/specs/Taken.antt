-- What was drawn of a transcript on the way through it.
use Rattle.std.specs.Prelude.{◌≡◌, ◌+◌, ◌<◌, ◌^◌, ◌++◌, ℕ, List, length}
use Rattle.std.specs.List.{All}
use Rattle.pth_transcript.specs.Taking.{Ahead, Takes}
use Rattle.pth_transcript.specs.Transcript.{ending_line, marks_of, told_lines}
use Rattle.pth_transcript.specs.Transcripts.{IsTold, IsToldEnding}
use Rattle.pth_transcript.specs.declared.ending.Ending.{Ending}
use Rattle.pth_transcript.specs.declared.told.Told.{Told}
use Rattle.pth_drawing.specs.Ends.{end_of}
use Rattle.pth_drawing.specs.Follow.{Draws}
use Rattle.pth_drawing.specs.declared.chart.End.{End}
use Rattle.pth_drawing.specs.declared.drawing.Drawing.{Drawing}

-- and the line of an ending was taken behind them
pub record HasDrawn (d : Drawing) (end : End) (from turns : ℕ) (old new : Ahead) (lines : ℕ) : Type 0 where
  pub told : List Told
  pub ending : Ending
  pub takes : Takes old new (told_lines told ++ ending_line ending)
  pub tells : All IsTold told
  pub tells_ending : IsToldEnding ending
  pub draws : Draws d from turns (marks_of told)
  pub is_end : end ≡ end_of ending
  pub count : lines ≡ length told + 1
  pub few : lines < 2 ^ 64
