use Rattle.std.proofs.Common.{refl}
use Rattle.pth_port.specs.Mail.{is_port}
use Rattle.pth_model.specs.Calls.{begun}
use Rattle.pth_model.specs.Resources.{told, answer_told}
use Rattle.pth_model.specs.Rows.{row_of}
use Rattle.pth_sheet.specs.States.{mail_of}
use Rattle.pth_sheet.proofs.Cases.{by_cases}
use Rattle.pth_sheet.proofs.ports.pth_msgport_get.Goals as goal

pub returns-clause-no_message : goal.returns-clause-no_message
unfolding begun row_of told answer_told
returns-clause-no_message p c = λ s t p g0.
    by_cases (is_port (mail_of s) p) (λ b0. rw (g0, b0) refl) (λ b0. rw (g0, b0) refl)

pub returns-clause-got : goal.returns-clause-got
unfolding begun row_of told answer_told
returns-clause-got p c = λ s t p m ms g0.
    by_cases (is_port (mail_of s) p) (λ b0. rw (g0, b0, g0) refl) (λ b0. rw (g0, b0) refl)
