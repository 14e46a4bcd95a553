use Rattle.std.proofs.Common.{refl}
use Rattle.pth_model.specs.Calls.{begun}
use Rattle.pth_model.specs.Resources.{told, answer_told}
use Rattle.pth_model.specs.Rows.{row_of}
use Rattle.pth_sheet.specs.States.{is_condition}
use Rattle.pth_sheet.proofs.Cases.{by_cases}
use Rattle.pth_sheet.proofs.conditions.pth_cond_notify.Goals as goal

pub returns : goal.returns
unfolding begun row_of told answer_told
returns p c = λ s t c v.
    by_cases (is_condition s c) (λ b0. rw (b0) refl) (λ b0. rw (b0) refl)
