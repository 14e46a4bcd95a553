use Rattle.std.proofs.Common.{refl}
use Rattle.pth_model.specs.Calls.{begun}
use Rattle.pth_model.specs.Cancellation.{is_to_cancel}
use Rattle.pth_model.specs.Resources.{told, answer_told}
use Rattle.pth_model.specs.Rows.{row_of}
use Rattle.pth_sheet.specs.States.{entry_of}
use Rattle.pth_sheet.proofs.Cases.{by_cases}
use Rattle.pth_sheet.proofs.cancellation.pth_cancel_point.Goals as goal

pub returns : goal.returns
unfolding begun row_of told answer_told
returns p c = λ s t.
    by_cases (is_to_cancel (entry_of s t)) (λ b0. rw (b0) refl) (λ b0. rw (b0) refl)
