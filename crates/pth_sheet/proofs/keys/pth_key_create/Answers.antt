use Rattle.std.proofs.Common.{refl}
use Rattle.pth_model.specs.Calls.{begun}
use Rattle.pth_model.specs.Resources.{told, answer_told}
use Rattle.pth_model.specs.Rows.{row_of}
use Rattle.pth_sheet.proofs.keys.pth_key_create.Goals as goal

pub returns-clause-no_key_free : goal.returns-clause-no_key_free
unfolding begun row_of told answer_told
returns-clause-no_key_free p c = λ s t h g0.
    rw (g0) refl

pub returns-clause-made : goal.returns-clause-made
unfolding begun row_of told answer_told
returns-clause-made p c = λ s t h k g0.
    rw (g0) refl
