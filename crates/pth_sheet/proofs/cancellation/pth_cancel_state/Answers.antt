use Rattle.std.proofs.Common.{refl, pos}
use Rattle.pth_numbered.specs.Operands.{◌is_from◌to◌, is_zero}
use Rattle.pth_model.specs.Calls.{begun}
use Rattle.pth_model.specs.Resources.{told, answer_told}
use Rattle.pth_model.specs.Rows.{row_of}
use Rattle.pth_sheet.proofs.Cases.{by_cases}
use Rattle.pth_sheet.proofs.cancellation.pth_cancel_state.Goals as goal

pub returns : goal.returns
unfolding begun row_of told answer_told
returns p c = λ s t n.
    by_cases (n is_from pos 0 to pos 4) (λ b0. by_cases (is_zero n) (λ b1. rw (b0, b1) refl) (λ b1. rw (b0, b1) refl)) (λ b0. rw (b0) refl)
