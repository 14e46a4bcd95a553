use Rattle.std.proofs.Common.{refl, ◌||◌, not}
use Rattle.pth_numbered.specs.Operands.{◌is◌}
use Rattle.pth_model.specs.Calls.{begun}
use Rattle.pth_model.specs.Resources.{told, answer_told}
use Rattle.pth_model.specs.Rows.{row_of}
use Rattle.pth_model.specs.ThreadControl.{is_known, resumes}
use Rattle.pth_sheet.specs.States.{thread_of}
use Rattle.pth_sheet.proofs.Cases.{by_cases}
use Rattle.pth_sheet.proofs.threads.pth_resume.Goals as goal

pub returns-clause-suspended : goal.returns-clause-suspended
unfolding begun row_of told answer_told resumes
returns-clause-suspended p c = λ s t n q g0.
    by_cases (is_known s.control n) (λ b0. by_cases (n is t || not (thread_of s n).suspended) (λ b1. rw (b0, b1) refl) (λ b1. rw (b0, b1, g0) refl)) (λ b0. rw (b0) refl)

pub returns-clause-running : goal.returns-clause-running
unfolding begun row_of told answer_told resumes
returns-clause-running p c = λ s t n g0.
    by_cases (is_known s.control n) (λ b0. by_cases (n is t || not (thread_of s n).suspended) (λ b1. rw (b0, b1) refl) (λ b1. rw (b0, b1, g0) refl)) (λ b0. rw (b0) refl)
