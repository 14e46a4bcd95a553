use Rattle.std.proofs.Common.{refl}
use Rattle.pth_numbered.specs.Operands.{is_zero}
use Rattle.pth_model.specs.Calls.{begun}
use Rattle.pth_model.specs.Resources.{told, answer_told}
use Rattle.pth_model.specs.Rows.{row_of}
use Rattle.pth_sheet.proofs.Cases.{by_cases}
use Rattle.pth_sheet.proofs.cleanups.pth_cleanup_pop.Goals as goal

pub returns-clause-no_routine : goal.returns-clause-no_routine
unfolding begun row_of told answer_told
returns-clause-no_routine p c = λ s t v g0.
    rw (g0) refl

pub returns-clause-popped : goal.returns-clause-popped
unfolding begun row_of told answer_told
returns-clause-popped p c = λ s t v x g0.
    by_cases (is_zero v) (λ b0. rw (g0, b0) refl) (λ b0. rw (g0, b0) refl)
