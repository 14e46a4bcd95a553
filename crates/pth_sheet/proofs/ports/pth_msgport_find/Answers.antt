use Rattle.std.proofs.Common.{refl}
use Rattle.pth_model.specs.Calls.{begun}
use Rattle.pth_model.specs.Resources.{told, answer_told}
use Rattle.pth_model.specs.Rows.{row_of}
use Rattle.pth_sheet.proofs.ports.pth_msgport_find.Goals as goal

pub returns-clause-no_port : goal.returns-clause-no_port
unfolding begun row_of told answer_told
returns-clause-no_port p c = λ s t name g0.
    rw (g0) refl

pub returns-clause-found : goal.returns-clause-found
unfolding begun row_of told answer_told
returns-clause-found p c = λ s t name p g0.
    rw (g0) refl
