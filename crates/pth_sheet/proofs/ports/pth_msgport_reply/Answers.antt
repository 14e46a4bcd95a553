use Rattle.std.proofs.Common.{refl}
use Rattle.pth_numbered.specs.Operands.{number}
use Rattle.pth_port.specs.Mail.{is_live, reply_port}
use Rattle.pth_model.specs.Calls.{begun}
use Rattle.pth_model.specs.Resources.{told, answer_told}
use Rattle.pth_model.specs.Rows.{row_of}
use Rattle.pth_sheet.specs.States.{mail_of}
use Rattle.pth_sheet.proofs.Cases.{by_cases}
use Rattle.pth_sheet.proofs.ports.pth_msgport_reply.Goals as goal

pub returns : goal.returns
unfolding begun row_of told answer_told
returns p c = λ s t m v.
    by_cases (is_live (mail_of s) (reply_port ((mail_of s).kept (number m)))) (λ b0. rw (b0) refl) (λ b0. rw (b0) refl)
