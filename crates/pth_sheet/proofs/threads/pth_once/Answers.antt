use Rattle.std.proofs.Common.{refl}
use Rattle.pth_numbered.specs.Operands.{is_below, number}
use Rattle.pth_model.specs.Calls.{begun}
use Rattle.pth_model.specs.Resources.{told, answer_told}
use Rattle.pth_model.specs.Rows.{row_of}
use Rattle.pth_model.specs.State.{once_limit}
use Rattle.pth_sheet.proofs.Cases.{by_cases}
use Rattle.pth_sheet.proofs.threads.pth_once.Goals as goal

pub returns : goal.returns
unfolding begun row_of told answer_told
returns p c = λ s t o h v.
    by_cases (is_below o once_limit) (λ b0. by_cases (s.control.used (number o)) (λ b1. rw (b0, b1) refl) (λ b1. rw (b0, b1) refl)) (λ b0. rw (b0) refl)
