use Rattle.std.proofs.Common.{◌≡◌, ◌∙◌, suc, ◌+◌, not, nat_lt, List, [], ◌∷◌, length, refl, ap, arith}
use Rattle.pth_port.specs.Mail.{Message}
use Rattle.pth_model.specs.Changes.{is_empty}
use Rattle.pth_sheet.specs.States.{is_message_port, pending_on}
use Rattle.pth_sheet.proofs.Cases.{by_cases}
use Rattle.pth_sheet.proofs.Passes.{counts_some, event_looked_at}
use Rattle.pth_sheet.proofs.occurrences.msg_event_occurs.Goals as goal

has_some : (ms : List Message) → nat_lt 0 (length ms) ≡ not (is_empty ms)
has_some [] = refl
has_some (m ∷ ms) = let e : suc (length ms) ≡ 1 + length ms = omega arith in ap (nat_lt 0) e ∙ counts_some (length ms)

pub returns : goal.returns
returns p c = λ s e port x of_msg here awaited.
    event_looked_at p.P.Program.functions s e x here awaited
    ∙ by_cases (is_message_port s port) (λ b0.
    by_cases (not (is_empty (pending_on s port))) (λ b1. rw (of_msg, b0, has_some (pending_on s port), b1) refl) (λ b1. rw (of_msg, b0, has_some (pending_on s port), b1) refl)) (λ b0. rw (of_msg, b0) refl)
