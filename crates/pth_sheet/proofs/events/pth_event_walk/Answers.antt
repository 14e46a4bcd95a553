use Rattle.std.proofs.Common.{refl}
use Rattle.pth_numbered.specs.Operands.{number}
use Rattle.pth_ring.specs.Rings.{is_event}
use Rattle.pth_model.specs.Calls.{begun}
use Rattle.pth_model.specs.Resources.{told, answer_told}
use Rattle.pth_model.specs.Rows.{row_of}
use Rattle.pth_sheet.proofs.Cases.{by_cases}
use Rattle.pth_sheet.proofs.events.pth_event_walk.Goals as goal

pub returns-clause-found : goal.returns-clause-found
unfolding begun row_of told answer_told
returns-clause-found p c = λ s t e forward until x g0.
    by_cases (is_event s.control.events (number e)) (λ b0. rw (g0, b0) refl) (λ b0. rw (g0, b0) refl)

pub returns-clause-none_occurred : goal.returns-clause-none_occurred
unfolding begun row_of told answer_told
returns-clause-none_occurred p c = λ s t e forward until g0.
    by_cases (is_event s.control.events (number e)) (λ b0. rw (g0, b0) refl) (λ b0. rw (g0, b0) refl)
