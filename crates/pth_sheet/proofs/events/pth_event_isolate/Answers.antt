use Rattle.std.proofs.Common.{refl}
use Rattle.pth_numbered.specs.Operands.{number}
use Rattle.pth_ring.specs.Rings.{is_event, is_claimed}
use Rattle.pth_model.specs.Calls.{begun}
use Rattle.pth_model.specs.Resources.{told, answer_told}
use Rattle.pth_model.specs.Rows.{row_of}
use Rattle.pth_sheet.proofs.Cases.{by_cases}
use Rattle.pth_sheet.proofs.events.pth_event_isolate.Goals as goal

pub returns : goal.returns
unfolding begun row_of told answer_told
returns p c = λ s t e.
    by_cases (is_event s.control.events (number e)) (λ b0. by_cases (is_claimed s.control.events (number e)) (λ b1. rw (b0, b1) refl) (λ b1. rw (b0, b1) refl)) (λ b0. rw (b0) refl)
