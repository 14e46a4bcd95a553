use Rattle.std.proofs.Common.{refl, ◌||◌}
use Rattle.pth_numbered.specs.Operands.{◌is◌}
use Rattle.pth_model.specs.Calls.{begun}
use Rattle.pth_model.specs.Living.{is_dead}
use Rattle.pth_model.specs.Resources.{told, answer_told}
use Rattle.pth_model.specs.Rows.{row_of}
use Rattle.pth_model.specs.ThreadControl.{is_known, suspends}
use Rattle.pth_sheet.specs.States.{thread_of}
use Rattle.pth_sheet.proofs.Cases.{by_cases}
use Rattle.pth_sheet.proofs.threads.pth_suspend.Goals as goal

pub returns : goal.returns
unfolding begun row_of told answer_told suspends
returns p c = λ s t n.
    by_cases (is_known s.control n) (λ b0. by_cases (n is t || is_dead (thread_of s n).state || (thread_of s n).suspended) (λ b1. rw (b0, b1) refl) (λ b1. rw (b0, b1) refl)) (λ b0. rw (b0) refl)
