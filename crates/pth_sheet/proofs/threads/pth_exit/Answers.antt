use Rattle.std.proofs.Common.{refl}
use Rattle.pth_model.specs.Calls.{tried_again, begun, gone_on}
use Rattle.pth_model.specs.Cancellation.{is_to_cancel, may_be_canceled}
use Rattle.pth_model.specs.Resources.{answer_told, told}
use Rattle.pth_model.specs.RingWaits.{claims}
use Rattle.pth_model.specs.Rows.{row_of}
use Rattle.pth_model.specs.ThreadEnds.{must_wait}
use Rattle.pth_sheet.specs.States.{entry_of}
use Rattle.pth_sheet.proofs.Cases.{by_cases}
use Rattle.pth_sheet.proofs.threads.pth_exit.Goals as goal

pub returns-clause-begins : goal.returns-clause-begins
unfolding begun row_of told answer_told claims
returns-clause-begins p c = λ s t v.
    by_cases (must_wait s.control t) (λ b0. rw (b0) refl) (λ b0. rw (b0) refl)

pub returns-clause-goes_on : goal.returns-clause-goes_on
unfolding gone_on tried_again row_of told answer_told may_be_canceled
returns-clause-goes_on p c = λ s t v here.
    by_cases (is_to_cancel (entry_of s t)) (λ b0. by_cases (must_wait s.control t) (λ b1. rw (here, b0, here, here, b1) refl) (λ b1. rw (here, b0, here, here, b1) refl)) (λ b0. by_cases (must_wait s.control t) (λ b1. rw (here, b0, here, b1) refl) (λ b1. rw (here, b0, here, b1) refl))
