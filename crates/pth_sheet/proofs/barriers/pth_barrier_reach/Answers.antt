use Rattle.std.proofs.Common.{refl}
use Rattle.pth_cond.specs.Barriers.{lacks_one, has_passed}
use Rattle.pth_model.specs.Calls.{tried_again, begun, gone_on}
use Rattle.pth_model.specs.Cancellation.{is_to_cancel, may_be_canceled}
use Rattle.pth_model.specs.Resources.{told, answer_told}
use Rattle.pth_model.specs.RingWaits.{claims}
use Rattle.pth_model.specs.Rows.{row_of}
use Rattle.pth_sheet.specs.States.{entry_of}
use Rattle.pth_sheet.proofs.Cases.{by_cases}
use Rattle.pth_sheet.proofs.barriers.pth_barrier_reach.Goals as goal

pub returns-clause-no_barrier : goal.returns-clause-no_barrier
unfolding begun row_of told answer_told
returns-clause-no_barrier p c = λ s t b g0.
    rw (g0) refl

pub returns-clause-begins : goal.returns-clause-begins
unfolding begun row_of told answer_told claims
returns-clause-begins p c = λ s t b y g0.
    by_cases (lacks_one y) (λ b0. rw (g0, b0) refl) (λ b0. rw (g0, b0) refl)

pub returns-clause-goes_on : goal.returns-clause-goes_on
unfolding gone_on tried_again row_of told answer_told may_be_canceled
returns-clause-goes_on p c = λ s t b r here.
    by_cases (is_to_cancel (entry_of s t)) (λ b0. by_cases (has_passed s.control.barriers b r) (λ b1. rw (here, b0, here, here, b1) refl) (λ b1. rw (here, b0, here, here, b1) refl)) (λ b0. by_cases (has_passed s.control.barriers b r) (λ b1. rw (here, b0, here, b1) refl) (λ b1. rw (here, b0, here, b1) refl))
