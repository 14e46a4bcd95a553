use Rattle.std.proofs.Common.{refl}
use Rattle.pth_numbered.specs.Operands.{number}
use Rattle.pth_ring.specs.Rings.{is_event, is_claimed, is_full_of_events}
use Rattle.pth_model.specs.Calls.{begun}
use Rattle.pth_model.specs.Resources.{told, answer_told}
use Rattle.pth_model.specs.Rows.{row_of}
use Rattle.pth_sheet.proofs.Cases.{by_cases}
use Rattle.pth_sheet.proofs.events.pth_event_chained.Goals as goal

pub returns-clause-argument_refused : goal.returns-clause-argument_refused
unfolding begun row_of told answer_told
returns-clause-argument_refused p c = λ s t e l g0.
    rw (g0) refl

pub returns-clause-made : goal.returns-clause-made
unfolding begun row_of told answer_told
returns-clause-made p c = λ s t e l x g0.
    by_cases (is_event s.control.events (number e)) (λ b0. by_cases (is_claimed s.control.events (number e)) (λ b1. rw (g0, b0, b1) refl) (λ b1. by_cases (is_full_of_events s.control.events) (λ b2. rw (g0, b0, b1, b2) refl) (λ b2. rw (g0, b0, b1, b2) refl))) (λ b0. rw (g0, b0) refl)
