use Rattle.std.proofs.Common.{refl, ◌||◌, not}
use Rattle.pth_numbered.specs.Operands.{is_zero}
use Rattle.pth_model.specs.Calls.{begun}
use Rattle.pth_model.specs.Resources.{told, answer_told}
use Rattle.pth_model.specs.Rows.{row_of}
use Rattle.pth_model.specs.ThreadControl.{may_run}
use Rattle.pth_sheet.specs.States.{thread_of}
use Rattle.pth_sheet.proofs.Cases.{by_cases}
use Rattle.pth_sheet.proofs.threads.pth_yield.Goals as goal

pub returns : goal.returns
unfolding begun row_of told answer_told
returns p c = λ s t n.
    by_cases (is_zero n) (λ b0. rw (b0) refl) (λ b0. by_cases ((thread_of s n).suspended || not (may_run (thread_of s n).state)) (λ b1. rw (b0, b1) refl) (λ b1. rw (b0, b1) refl))
