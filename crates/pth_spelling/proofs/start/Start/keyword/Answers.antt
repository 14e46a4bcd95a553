use Rattle.std.proofs.Common.{◌∙◌, ap, sym}
use Rattle.pth_spelling.specs.Starts.{begins, keyword_in}
use Rattle.pth_spelling.proofs.start.Start.keyword.Goals as goal

pub returns-in-Word : goal.returns-in-Word
unfolding begins
returns-in-Word c = λ ws so. ap keyword_in (sym c.in-Word.is ∙ so)

pub returns-in-Answer : goal.returns-in-Answer
unfolding begins
returns-in-Answer c = λ ws so. ap keyword_in (sym c.in-Answer.is ∙ so)
