use Rattle.std.proofs.Common.{refl, nat_lt, length}
use Rattle.pth_kernel.specs.Kernel.{is_nonblocking, fd_named}
use Rattle.pth_io.specs.Attempts.{written}
use Rattle.pth_model.specs.Calls.{tried_again, begun, gone_on}
use Rattle.pth_model.specs.Cancellation.{may_be_canceled}
use Rattle.pth_model.specs.Resources.{told, answer_told}
use Rattle.pth_model.specs.RingWaits.{claims}
use Rattle.pth_model.specs.Rows.{row_of}
use Rattle.pth_sheet.proofs.Cases.{by_cases}
use Rattle.pth_sheet.proofs.standard_replacements.pth_write.Goals as goal

pub returns-clause-refused : goal.returns-clause-refused
unfolding begun row_of told answer_told
returns-clause-refused p c = λ s t f bytes z g0.
    rw (g0) refl

pub returns-clause-answered : goal.returns-clause-answered
unfolding begun row_of told answer_told
returns-clause-answered p c = λ s t f bytes n g0.
    rw (g0) refl

pub returns-clause-waits : goal.returns-clause-waits
unfolding begun row_of told answer_told claims
returns-clause-waits p c = λ s t f bytes g0.
    by_cases (is_nonblocking s.control.kernel (fd_named f)) (λ b0. by_cases (nat_lt 0 (written s.control.kernel (fd_named f) (length bytes) 0)) (λ b1. rw (g0, b0, b1) refl) (λ b1. rw (g0, b0, b1) refl)) (λ b0. rw (g0, b0) refl)

pub returns-clause-refused_later : goal.returns-clause-refused_later
unfolding gone_on tried_again row_of told answer_told
returns-clause-refused_later p c = λ s t f bytes total sofar z g0 here.
    by_cases (may_be_canceled s.control t) (λ b0. rw (here, b0, here) refl) (λ b0. rw (here, b0, here, g0) refl)

pub returns-clause-answered_later : goal.returns-clause-answered_later
unfolding gone_on tried_again row_of told answer_told
returns-clause-answered_later p c = λ s t f bytes total sofar n g0 here.
    by_cases (may_be_canceled s.control t) (λ b0. rw (here, b0, here) refl) (λ b0. rw (here, b0, here, g0) refl)

pub returns-clause-waits_longer : goal.returns-clause-waits_longer
unfolding gone_on tried_again row_of told answer_told
returns-clause-waits_longer p c = λ s t f bytes total sofar g0 here.
    by_cases (may_be_canceled s.control t) (λ b0. rw (here, b0, here) refl) (λ b0. rw (here, b0, here, g0) refl)
