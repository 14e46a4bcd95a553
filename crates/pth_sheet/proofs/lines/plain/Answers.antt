use Rattle.std.proofs.Common.{refl}
use Rattle.pth_model.specs.Calls.{begun}
use Rattle.pth_model.specs.Resources.{told, answer_told}
use Rattle.pth_model.specs.Rows.{row_of}
use Rattle.pth_sheet.proofs.lines.plain.Goals as goal

pub returns : goal.returns
unfolding begun row_of told answer_told
returns p c = λ s t.
    refl
