use Rattle.std.proofs.Common.{refl}
use Rattle.pth_model.specs.Calls.{tried_again, begun, gone_on}
use Rattle.pth_model.specs.Cancellation.{may_be_canceled}
use Rattle.pth_model.specs.Io.{is_refused_length}
use Rattle.pth_model.specs.Resources.{told, answer_told}
use Rattle.pth_model.specs.RingWaits.{claims}
use Rattle.pth_model.specs.Rows.{row_of}
use Rattle.pth_sheet.proofs.Cases.{by_cases}
use Rattle.pth_sheet.proofs.standard_replacements.pth_select.Goals as goal

pub returns-clause-refused : goal.returns-clause-refused
unfolding begun row_of told answer_told
returns-clause-refused p c = λ s t r w x l z g0.
    by_cases (is_refused_length s r w x l) (λ b0. rw (g0, b0) refl) (λ b0. rw (g0, b0) refl)

pub returns-clause-answered : goal.returns-clause-answered
unfolding begun row_of told answer_told
returns-clause-answered p c = λ s t r w x l n a b d g0.
    by_cases (is_refused_length s r w x l) (λ b0. rw (g0, b0) refl) (λ b0. rw (g0, b0) refl)

pub returns-clause-waits : goal.returns-clause-waits
unfolding begun row_of told answer_told claims
returns-clause-waits p c = λ s t r w x l g0.
    by_cases (is_refused_length s r w x l) (λ b0. rw (g0, b0) refl) (λ b0. rw (g0, b0) refl)

pub returns-clause-refused_later : goal.returns-clause-refused_later
unfolding gone_on tried_again row_of told answer_told
returns-clause-refused_later p c = λ s t r w x l end z g0 here.
    by_cases (may_be_canceled s.control t) (λ b0. rw (here, b0, here) refl) (λ b0. rw (here, b0, here, g0) refl)

pub returns-clause-answered_later : goal.returns-clause-answered_later
unfolding gone_on tried_again row_of told answer_told
returns-clause-answered_later p c = λ s t r w x l end n a b d g0 here.
    by_cases (may_be_canceled s.control t) (λ b0. rw (here, b0, here) refl) (λ b0. rw (here, b0, here, g0) refl)

pub returns-clause-waits_longer : goal.returns-clause-waits_longer
unfolding gone_on tried_again row_of told answer_told
returns-clause-waits_longer p c = λ s t r w x l end g0 here.
    by_cases (may_be_canceled s.control t) (λ b0. rw (here, b0, here) refl) (λ b0. rw (here, b0, here, g0) refl)
