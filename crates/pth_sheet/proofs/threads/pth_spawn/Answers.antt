use Rattle.std.proofs.Common.{refl}
use Rattle.pth_numbered.specs.Operands.{is_below}
use Rattle.pth_model.specs.Calls.{begun}
use Rattle.pth_model.specs.Resources.{told, answer_told}
use Rattle.pth_model.specs.Rows.{row_of}
use Rattle.pth_model.specs.ThreadControl.{has_room}
use Rattle.pth_sheet.proofs.Cases.{by_cases}
use Rattle.pth_sheet.proofs.threads.pth_spawn.Goals as goal

pub returns-clause-attributes_refused : goal.returns-clause-attributes_refused
unfolding begun row_of told answer_told
returns-clause-attributes_refused p c = λ s t b v a e g0.
    by_cases (is_below b (p.P.Program.functions s.control.program).bodies) (λ b0. rw (g0, b0) refl) (λ b0. rw (g0, b0) refl)

pub returns-clause-made : goal.returns-clause-made
unfolding begun row_of told answer_told
returns-clause-made p c = λ s t b v a x g0.
    by_cases (is_below b (p.P.Program.functions s.control.program).bodies) (λ b0. by_cases (has_room s.control) (λ b1. rw (g0, b0, b1) refl) (λ b1. rw (g0, b0, b1) refl)) (λ b0. rw (g0, b0) refl)
