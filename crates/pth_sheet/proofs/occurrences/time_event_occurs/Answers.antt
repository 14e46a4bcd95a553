use Rattle.std.proofs.Common.{◌∙◌, nat_le, refl}
use Rattle.pth_model.specs.State.{now_of}
use Rattle.pth_sheet.proofs.Cases.{by_cases}
use Rattle.pth_sheet.proofs.Passes.{event_looked_at}
use Rattle.pth_sheet.proofs.occurrences.time_event_occurs.Goals as goal

pub returns : goal.returns
returns p c = λ s e moment x of_time here awaited.
    event_looked_at p.P.Program.functions s e x here awaited
    ∙ by_cases (nat_le moment (now_of s.control)) (λ b0. rw (of_time, b0) refl) (λ b0. rw (of_time, b0) refl)
