-- What was taken of a transcript on the way through it.
use Rattle.std.specs.Prelude.{◌≡◌, ◌+◌, ◌<◌, ◌^◌, ◌++◌, ℕ, List, length}
use Rattle.std.specs.List.{All}
use Rattle.pth_base.specs.declared.mark.Mark.{Mark}
use Rattle.pth_transcript.specs.Taking.{Ahead, Takes}
use Rattle.pth_transcript.specs.Transcript.{ending_line, marks_of, told_lines}
use Rattle.pth_transcript.specs.Transcripts.{IsTold, IsToldEnding}
use Rattle.pth_transcript.specs.declared.ending.Ending.{Ending}
use Rattle.pth_transcript.specs.declared.told.Told.{Told}

-- the marks of lines that were taken are kept, and the line of an ending was taken behind them
pub record HasTaken (marks : List Mark) (ending : Ending) (old new : Ahead) (lines : ℕ) : Type 0 where
  pub told : List Told
  pub takes : Takes old new (told_lines told ++ ending_line ending)
  pub tells : All IsTold told
  pub tells_ending : IsToldEnding ending
  pub kept : marks ≡ marks_of told
  pub count : lines ≡ length told + 1
  pub few : lines < 2 ^ 64
