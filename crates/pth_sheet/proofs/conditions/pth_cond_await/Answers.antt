use Rattle.std.proofs.Common.{refl, not, ◌||◌, is_none}
use Rattle.pth_lock.specs.Mutexes.{owner_of, is_anothers}
use Rattle.pth_model.specs.Calls.{tried_again, begun, gone_on}
use Rattle.pth_model.specs.Cancellation.{may_be_canceled}
use Rattle.pth_model.specs.Conditions.{can_take, is_noticed, leaves_seat, hands_on_seat}
use Rattle.pth_model.specs.Resources.{told, answer_told}
use Rattle.pth_model.specs.Rows.{row_of}
use Rattle.pth_sheet.specs.States.{is_condition, is_no_ring_of, is_mutex, mutex_of, ring_is_in_use, has_event_settled}
use Rattle.pth_sheet.proofs.Cases.{by_cases}
use Rattle.pth_sheet.proofs.conditions.pth_cond_await.Goals as goal

pub returns-clause-begins : goal.returns-clause-begins
unfolding begun row_of told answer_told
returns-clause-begins p c = λ s t c m e g0.
    by_cases (not (is_condition s c) || is_no_ring_of s e) (λ b0. rw (b0, g0) refl) (λ b0. by_cases (is_mutex s m) (λ b1. by_cases (is_none (owner_of (mutex_of s m))) (λ b2. rw (b0, b1, b2, g0) refl) (λ b2. by_cases (is_anothers t (mutex_of s m)) (λ b3. rw (b0, b1, b2, b3, g0) refl) (λ b3. by_cases (ring_is_in_use s e) (λ b4. rw (b0, b1, b2, b3, b4, g0) refl) (λ b4. rw (b0, b1, b2, b3, b4, g0) refl)))) (λ b1. rw (b0, b1, g0) refl))

pub returns-clause-goes_on : goal.returns-clause-goes_on
unfolding gone_on tried_again row_of told answer_told leaves_seat hands_on_seat
returns-clause-goes_on p c = λ s t c m e g0 here.
    by_cases (may_be_canceled s.control t) (λ b0. by_cases (can_take s t m) (λ b1. rw (here, b0, b1) refl) (λ b1. rw (here, b0, b1) refl))
    (λ b0. by_cases (is_noticed s t c) (λ b1. by_cases (can_take s t m) (λ b2. rw (here, b0, b1, b2, g0) refl) (λ b2. rw (here, b0, b1, b2) refl))
    (λ b1. by_cases (has_event_settled s e) (λ b2. by_cases (can_take s t m) (λ b3. rw (here, b0, b1, b2, b3, g0) refl) (λ b3. rw (here, b0, b1, b2, b3) refl)) (λ b2. rw (here, b0, b1, b2, g0) refl)))

pub returns-clause-takes_mutex_back_notified : goal.returns-clause-takes_mutex_back_notified
unfolding gone_on tried_again row_of told answer_told
returns-clause-takes_mutex_back_notified p c = λ s t c m e n g0 here.
    by_cases (can_take s t m) (λ b0. rw (here, b0, g0) refl) (λ b0. rw (here, b0) refl)

pub returns-clause-takes_mutex_back_interrupted : goal.returns-clause-takes_mutex_back_interrupted
unfolding gone_on tried_again row_of told answer_told
returns-clause-takes_mutex_back_interrupted p c = λ s t c m e n g0 here.
    by_cases (can_take s t m) (λ b0. rw (here, b0, g0) refl) (λ b0. rw (here, b0) refl)

pub returns-clause-takes_mutex_back_canceled : goal.returns-clause-takes_mutex_back_canceled
unfolding gone_on tried_again row_of told answer_told
returns-clause-takes_mutex_back_canceled p c = λ s t c m e n g0 here.
    by_cases (can_take s t m) (λ b0. rw (here, b0) refl) (λ b0. rw (here, b0) refl)
