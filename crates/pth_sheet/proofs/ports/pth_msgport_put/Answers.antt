use Rattle.std.proofs.Common.{refl, not, ◌&&◌}
use Rattle.pth_numbered.specs.Operands.{is_zero}
use Rattle.pth_model.specs.Calls.{begun}
use Rattle.pth_model.specs.Resources.{told, answer_told}
use Rattle.pth_model.specs.Rows.{row_of}
use Rattle.pth_sheet.specs.States.{is_message_port, is_full_of_messages}
use Rattle.pth_sheet.proofs.Cases.{by_cases}
use Rattle.pth_sheet.proofs.ports.pth_msgport_put.Goals as goal

pub returns : goal.returns
unfolding begun row_of told answer_told
returns p c = λ s t p v r.
    by_cases (is_message_port s p) (λ b0. by_cases (not (is_zero r) && not (is_message_port s r)) (λ b1. rw (b0, b1) refl) (λ b1. by_cases (is_full_of_messages s) (λ b2. rw (b0, b1, b2) refl) (λ b2. rw (b0, b1, b2) refl))) (λ b0. rw (b0) refl)
