use Rattle.std.proofs.Common.{refl, not, ◌||◌, ◌&&◌}
use Rattle.pth_numbered.specs.Operands.{is_zero}
use Rattle.pth_lock.specs.Objects.{object_named}
use Rattle.pth_lock.specs.RwLocks.{holds, may_enter}
use Rattle.pth_model.specs.Calls.{tried_again, begun, gone_on}
use Rattle.pth_model.specs.Cancellation.{may_be_canceled}
use Rattle.pth_model.specs.Resources.{told, answer_told}
use Rattle.pth_model.specs.Rows.{row_of}
use Rattle.pth_model.specs.Rwlocks.{is_open}
use Rattle.pth_sheet.specs.States.{is_no_ring_of, locks_of, ring_is_in_use, has_event_settled}
use Rattle.pth_sheet.proofs.Cases.{by_cases}
use Rattle.pth_sheet.proofs.rwlocks.pth_rwlock_acquire.Goals as goal

pub returns-clause-begins : goal.returns-clause-begins
unfolding begun row_of told answer_told
returns-clause-begins p c = λ s t l write v e.
    by_cases (is_no_ring_of s e) (λ b0. rw (b0) refl) (λ b0. by_cases ((locks_of s).initialised (object_named l)) (λ b1. by_cases (holds (locks_of s) t (object_named l)) (λ b2. rw (b0, b1, b2) refl) (λ b2. by_cases (may_enter (locks_of s) write (object_named l)) (λ b3. rw (b0, b1, b2, b3) refl) (λ b3. by_cases (not (is_zero v) || ring_is_in_use s e) (λ b4. rw (b0, b1, b2, b3, b4) refl) (λ b4. rw (b0, b1, b2, b3, b4) refl)))) (λ b1. rw (b0, b1) refl))

pub returns-clause-goes_on : goal.returns-clause-goes_on
unfolding gone_on tried_again row_of told answer_told
returns-clause-goes_on p c = λ s t l write v e here.
    by_cases (may_be_canceled s.control t) (λ b0. rw (here, b0, here) refl) (λ b0. by_cases (has_event_settled s e) (λ b1. by_cases (is_open s write l && not (holds (locks_of s) t (object_named l))) (λ b2. rw (here, b0, here, b1, b2) refl) (λ b2. rw (here, b0, here, b1, b2) refl)) (λ b1. by_cases (is_open s write l && not (holds (locks_of s) t (object_named l))) (λ b2. rw (here, b0, here, b1, b2) refl) (λ b2. rw (here, b0, here, b1, b2) refl)))
