use Rattle.std.proofs.Common.{refl}
use Rattle.pth_kernel.specs.Kernel.{is_nonblocking, fd_named}
use Rattle.pth_model.specs.Calls.{tried_again, begun, gone_on}
use Rattle.pth_model.specs.Cancellation.{may_be_canceled}
use Rattle.pth_model.specs.Resources.{told, answer_told}
use Rattle.pth_model.specs.RingWaits.{claims}
use Rattle.pth_model.specs.Rows.{row_of}
use Rattle.pth_sheet.specs.States.{is_no_ring_of, ring_is_in_use, has_event_settled}
use Rattle.pth_sheet.proofs.Accepting.{accepts_nothing}
use Rattle.pth_sheet.proofs.Cases.{by_cases}
use Rattle.pth_sheet.proofs.generalized_replacements.pth_accept_ev.Goals as goal

pub returns-clause-refused : goal.returns-clause-refused
unfolding begun row_of told answer_told
returns-clause-refused p c = λ s t f e z g0.
    by_cases (is_no_ring_of s e) (λ b0. rw (g0, b0) refl) (λ b0. rw (g0, b0) refl)

pub returns-clause-answered : goal.returns-clause-answered
unfolding begun row_of told answer_told
returns-clause-answered p c = λ s t f e n g0.
    by_cases (is_no_ring_of s e) (λ b0. rw (g0, b0) refl) (λ b0. rw (g0, b0) refl)

pub returns-clause-waits : goal.returns-clause-waits
unfolding begun row_of told answer_told claims
returns-clause-waits p c = λ s t f e g0.
    by_cases (is_no_ring_of s e) (λ b0. rw (g0, b0) refl) (λ b0. by_cases (is_nonblocking s.control.kernel (fd_named f)) (λ b1. rw (g0, b0, b1) refl) (λ b1. by_cases (ring_is_in_use s e) (λ b2. rw (g0, b0, b1, b2) refl) (λ b2. rw (g0, b0, b1, b2, accepts_nothing s.control.kernel (fd_named f) g0) refl)))

pub returns-clause-refused_later : goal.returns-clause-refused_later
unfolding gone_on tried_again row_of told answer_told
returns-clause-refused_later p c = λ s t f e z g0 here.
    by_cases (may_be_canceled s.control t) (λ b0. rw (here, b0, here) refl) (λ b0. by_cases (has_event_settled s e) (λ b1. rw (here, b0, here, g0, b1) refl) (λ b1. rw (here, b0, here, g0, b1) refl))

pub returns-clause-answered_later : goal.returns-clause-answered_later
unfolding gone_on tried_again row_of told answer_told
returns-clause-answered_later p c = λ s t f e n g0 here.
    by_cases (may_be_canceled s.control t) (λ b0. rw (here, b0, here) refl) (λ b0. by_cases (has_event_settled s e) (λ b1. rw (here, b0, here, g0, b1) refl) (λ b1. rw (here, b0, here, g0, b1) refl))

pub returns-clause-waits_longer : goal.returns-clause-waits_longer
unfolding gone_on tried_again row_of told answer_told
returns-clause-waits_longer p c = λ s t f e g0 here.
    by_cases (may_be_canceled s.control t) (λ b0. rw (here, b0, here) refl) (λ b0. by_cases (has_event_settled s e) (λ b1. rw (here, b0, here, g0, b1) refl) (λ b1. rw (here, b0, here, g0, b1, accepts_nothing s.control.kernel (fd_named f) g0) refl))
