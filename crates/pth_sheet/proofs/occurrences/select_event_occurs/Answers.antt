use Rattle.std.proofs.Common.{◌∙◌, refl}
use Rattle.pth_io.specs.Attempts.{are_all_live, is_any_ready}
use Rattle.pth_sheet.proofs.Cases.{by_cases}
use Rattle.pth_sheet.proofs.Passes.{event_looked_at}
use Rattle.pth_sheet.proofs.occurrences.select_event_occurs.Goals as goal

pub returns : goal.returns
returns p c = λ s e r w ex x of_select here awaited.
    event_looked_at p.P.Program.functions s e x here awaited
    ∙ by_cases (are_all_live s.control.kernel r.0 w.0 ex.0) (λ b0.
    by_cases (is_any_ready s.control.kernel r.0 w.0 ex.0) (λ b1. rw (of_select, b0, b1) refl) (λ b1. rw (of_select, b0, b1) refl)) (λ b0. rw (of_select, b0) refl)
