use Rattle.std.proofs.Common.{refl, nat_le}
use Rattle.pth_numbered.specs.Operands.{is_zero}
use Rattle.pth_model.specs.Calls.{tried_again, begun, gone_on}
use Rattle.pth_model.specs.Cancellation.{may_be_canceled}
use Rattle.pth_model.specs.Resources.{answer_told, told}
use Rattle.pth_model.specs.RingWaits.{claims}
use Rattle.pth_model.specs.Rows.{row_of}
use Rattle.pth_model.specs.State.{now_of}
use Rattle.pth_model.specs.Times.{is_negative}
use Rattle.pth_sheet.proofs.Cases.{by_cases}
use Rattle.pth_sheet.proofs.standard_replacements.pth_sleep.Goals as goal

pub returns-clause-begins : goal.returns-clause-begins
unfolding begun row_of told answer_told claims
returns-clause-begins p c = λ s t l.
    by_cases (is_negative l) (λ b0. rw (b0) refl) (λ b0. by_cases (is_zero l) (λ b1. rw (b0, b1) refl) (λ b1. rw (b0, b1) refl))

pub returns-clause-goes_on : goal.returns-clause-goes_on
unfolding gone_on tried_again row_of told answer_told
returns-clause-goes_on p c = λ s t l at here.
    by_cases (may_be_canceled s.control t) (λ b0. rw (here, b0, here) refl) (λ b0. by_cases (nat_le at (now_of s.control)) (λ b1. rw (here, b0, here, b1) refl) (λ b1. rw (here, b0, here, b1) refl))
