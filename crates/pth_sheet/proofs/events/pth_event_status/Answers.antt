use Rattle.std.proofs.Common.{refl}
use Rattle.pth_model.specs.Calls.{begun}
use Rattle.pth_model.specs.Resources.{told, answer_told}
use Rattle.pth_model.specs.Rows.{row_of}
use Rattle.pth_sheet.proofs.events.pth_event_status.Goals as goal

pub returns-clause-no_event : goal.returns-clause-no_event
unfolding begun row_of told answer_told
returns-clause-no_event p c = λ s t e g0.
    rw (g0) refl

pub returns-clause-found : goal.returns-clause-found
unfolding begun row_of told answer_told
returns-clause-found p c = λ s t e x g0.
    rw (g0) refl
