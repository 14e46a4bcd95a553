use Rattle.std.proofs.Common.{◌∙◌, refl}
use Rattle.pth_model.specs.Looks.{is_state}
use Rattle.pth_model.specs.ThreadControl.{is_known}
use Rattle.pth_sheet.specs.States.{thread_of}
use Rattle.pth_sheet.proofs.Cases.{by_cases}
use Rattle.pth_sheet.proofs.Passes.{event_looked_at}
use Rattle.pth_sheet.proofs.occurrences.tid_event_occurs.Goals as goal

pub returns : goal.returns
returns p c = λ s e state n x of_tid here awaited.
    event_looked_at p.P.Program.functions s e x here awaited
    ∙ by_cases (is_known s.control n) (λ b0.
    by_cases (is_state state (thread_of s n).state) (λ b1. rw (of_tid, b0, b1) refl) (λ b1. rw (of_tid, b0, b1) refl)) (λ b0. rw (of_tid, b0) refl)
