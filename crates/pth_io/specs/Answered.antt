-- What an attempt of the code stands for.
use Rattle.std.specs.Prelude.{Option, Some, None}
use Rattle.pth_base.specs.declared.answer.Answer.{Answer}
use Rattle.pth_io.specs.declared.attempt.Attempt.{Attempt}
use Rattle.pth_io.specs.declared.attempt.Attempt.TheVariants as attempt

abbrev pub answered : Attempt → Option Answer
answered (attempt.Done a) = Some a
answered attempt.NotYet = None
