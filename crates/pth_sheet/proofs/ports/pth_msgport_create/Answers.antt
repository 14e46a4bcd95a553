use Rattle.std.proofs.Common.{refl, nat_le}
use Rattle.pth_numbered.specs.Numbered.{number_known}
use Rattle.pth_port.specs.Mail.{is_taken, port_limit}
use Rattle.pth_model.specs.Calls.{begun}
use Rattle.pth_model.specs.Resources.{told, answer_told}
use Rattle.pth_model.specs.Rows.{row_of}
use Rattle.pth_sheet.specs.States.{ports_of, mail_of}
use Rattle.pth_sheet.proofs.Cases.{by_cases}
use Rattle.pth_sheet.proofs.ports.pth_msgport_create.Goals as goal

pub returns : goal.returns
unfolding begun row_of told answer_told
returns p c = λ s t name.
    by_cases (is_taken (ports_of s) name) (λ b0. rw (b0) refl) (λ b0. by_cases (nat_le port_limit (number_known (mail_of s).at (ports_of s).made)) (λ b1. rw (b0, b1) refl) (λ b1. rw (b0, b1) refl))
