use Rattle.std.proofs.Common.{refl}
use Rattle.pth_store.specs.Cleanups.{is_full_stack}
use Rattle.pth_model.specs.Calls.{begun}
use Rattle.pth_model.specs.Resources.{told, answer_told}
use Rattle.pth_model.specs.Rows.{row_of}
use Rattle.pth_sheet.specs.States.{cleanups_of}
use Rattle.pth_sheet.proofs.Cases.{by_cases}
use Rattle.pth_sheet.proofs.cleanups.pth_cleanup_push.Goals as goal

pub returns : goal.returns
unfolding begun row_of told answer_told
returns p c = λ s t h v.
    by_cases (is_full_stack (cleanups_of s t)) (λ b0. rw (b0) refl) (λ b0. rw (b0) refl)
