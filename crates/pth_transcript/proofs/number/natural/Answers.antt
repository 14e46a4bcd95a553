use Rattle.std.proofs.Common.{◌∙◌}
use Rattle.pth_transcript.proofs.NaturalsBack.{natural_is_read, no_text}
use Rattle.pth_transcript.proofs.number.natural.Goals as goal

pub returns-in-Ok : goal.returns-in-Ok
returns-in-Ok c = c.ok.ensures.value ∙ natural_is_read c.args.word.now c.parse.result (rw c.in-Ok.ensures.cases.0 at c.parse.ensures.value.0)

pub returns-in-Err : goal.returns-in-Err
returns-in-Err c = no_text c.args.word.now c.in-Err.ensures.cases.0
