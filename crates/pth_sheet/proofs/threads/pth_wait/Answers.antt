use Rattle.std.proofs.Common.{refl, nat_lt}
use Rattle.pth_numbered.specs.Operands.{number}
use Rattle.pth_ring.specs.Rings.{is_event, is_claimed, settled_in}
use Rattle.pth_model.specs.Calls.{tried_again, begun, gone_on}
use Rattle.pth_model.specs.Cancellation.{may_be_canceled}
use Rattle.pth_model.specs.Resources.{told, answer_told}
use Rattle.pth_model.specs.Rows.{row_of}
use Rattle.pth_sheet.proofs.Cases.{by_cases}
use Rattle.pth_sheet.proofs.threads.pth_wait.Goals as goal

pub returns-clause-begins : goal.returns-clause-begins
unfolding begun row_of told answer_told
returns-clause-begins p c = λ s t e.
    by_cases (is_event s.control.events (number e)) (λ b0. by_cases (is_claimed s.control.events (number e)) (λ b1. rw (b0, b1) refl) (λ b1. rw (b0, b1) refl)) (λ b0. rw (b0) refl)

pub returns-clause-goes_on : goal.returns-clause-goes_on
unfolding gone_on tried_again row_of told answer_told
returns-clause-goes_on p c = λ s t e here.
    by_cases (may_be_canceled s.control t) (λ b0. rw (here, b0, here) refl) (λ b0. by_cases (nat_lt 0 (settled_in s.control.events (number e))) (λ b1. rw (here, b0, here, b1) refl) (λ b1. rw (here, b0, here, b1) refl))
