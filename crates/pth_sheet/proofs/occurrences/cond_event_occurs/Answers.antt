use Rattle.std.proofs.Common.{◌∙◌, refl}
use Rattle.pth_cond.specs.Conditions.{is_marked}
use Rattle.pth_model.specs.EventSeats.{event_seat}
use Rattle.pth_sheet.specs.States.{is_condition}
use Rattle.pth_sheet.proofs.Cases.{by_cases}
use Rattle.pth_sheet.proofs.Passes.{event_looked_at}
use Rattle.pth_sheet.proofs.occurrences.cond_event_occurs.Goals as goal

pub returns : goal.returns
returns p c = λ s e c x of_cond here awaited.
    event_looked_at p.P.Program.functions s e x here awaited
    ∙ by_cases (is_condition s c) (λ b0.
    by_cases (is_marked s.control.conditions c (event_seat e)) (λ b1. rw (of_cond, b0, b1) refl) (λ b1. rw (of_cond, b0, b1) refl)) (λ b0. rw (of_cond, b0) refl)
