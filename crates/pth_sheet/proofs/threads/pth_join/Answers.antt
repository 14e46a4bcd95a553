use Rattle.std.proofs.Common.{refl}
use Rattle.pth_model.specs.Calls.{tried_again, begun, gone_on}
use Rattle.pth_model.specs.Cancellation.{may_be_canceled}
use Rattle.pth_model.specs.Resources.{answer_told, told}
use Rattle.pth_model.specs.RingWaits.{claims}
use Rattle.pth_model.specs.Rows.{row_of}
use Rattle.pth_sheet.specs.States.{has_none_to_join, joins_unknown, joins_detached}
use Rattle.pth_sheet.proofs.Cases.{by_cases}
use Rattle.pth_sheet.proofs.threads.pth_join.Goals as goal

pub returns-clause-waits : goal.returns-clause-waits
unfolding begun row_of told answer_told claims
returns-clause-waits p c = λ s t n g0.
    by_cases (has_none_to_join s t n) (λ b0. rw (g0, b0) refl) (λ b0. by_cases (joins_unknown s n) (λ b1. rw (g0, b0, b1) refl) (λ b1. by_cases (joins_detached s n) (λ b2. rw (g0, b0, b1, b2) refl) (λ b2. rw (g0, b0, b1, b2) refl)))

pub returns-clause-joins : goal.returns-clause-joins
unfolding begun row_of told answer_told
returns-clause-joins p c = λ s t n u g0.
    by_cases (has_none_to_join s t n) (λ b0. rw (g0, b0) refl) (λ b0. by_cases (joins_unknown s n) (λ b1. rw (g0, b0, b1) refl) (λ b1. by_cases (joins_detached s n) (λ b2. rw (g0, b0, b1, b2) refl) (λ b2. rw (g0, b0, b1, b2) refl)))

pub returns-clause-waits_longer : goal.returns-clause-waits_longer
unfolding gone_on tried_again row_of told answer_told
returns-clause-waits_longer p c = λ s t n g0 here.
    by_cases (may_be_canceled s.control t) (λ b0. rw (here, b0, here) refl) (λ b0. by_cases (has_none_to_join s t n) (λ b1. rw (here, b0, here, g0, b1) refl) (λ b1. by_cases (joins_unknown s n) (λ b2. rw (here, b0, here, g0, b1, b2) refl) (λ b2. by_cases (joins_detached s n) (λ b3. rw (here, b0, here, g0, b1, b2, b3) refl) (λ b3. rw (here, b0, here, g0, b1, b2, b3) refl))))

pub returns-clause-joins_later : goal.returns-clause-joins_later
unfolding gone_on tried_again row_of told answer_told
returns-clause-joins_later p c = λ s t n u g0 here.
    by_cases (may_be_canceled s.control t) (λ b0. rw (here, b0, here) refl) (λ b0. by_cases (has_none_to_join s t n) (λ b1. rw (here, b0, here, g0, b1) refl) (λ b1. by_cases (joins_unknown s n) (λ b2. rw (here, b0, here, g0, b1, b2) refl) (λ b2. by_cases (joins_detached s n) (λ b3. rw (here, b0, here, g0, b1, b2, b3) refl) (λ b3. rw (here, b0, here, g0, b1, b2, b3) refl))))
