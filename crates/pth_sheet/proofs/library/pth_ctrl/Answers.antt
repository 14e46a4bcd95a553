use Rattle.std.proofs.Common.{refl, pos}
use Rattle.pth_numbered.specs.Operands.{◌is_from◌to◌}
use Rattle.pth_model.specs.Calls.{begun}
use Rattle.pth_model.specs.Resources.{told, answer_told}
use Rattle.pth_model.specs.Rows.{row_of}
use Rattle.pth_model.specs.ThreadControl.{is_known}
use Rattle.pth_sheet.proofs.Cases.{by_cases}
use Rattle.pth_sheet.proofs.library.pth_ctrl.Goals as goal

pub returns-clause-threads : goal.returns-clause-threads
unfolding begun row_of told answer_told
returns-clause-threads p c = λ s t.
    refl

pub returns-clause-new : goal.returns-clause-new
unfolding begun row_of told answer_told
returns-clause-new p c = λ s t.
    refl

pub returns-clause-ready : goal.returns-clause-ready
unfolding begun row_of told answer_told
returns-clause-ready p c = λ s t.
    refl

pub returns-clause-running : goal.returns-clause-running
unfolding begun row_of told answer_told
returns-clause-running p c = λ s t.
    refl

pub returns-clause-waiting : goal.returns-clause-waiting
unfolding begun row_of told answer_told
returns-clause-waiting p c = λ s t.
    refl

pub returns-clause-suspended : goal.returns-clause-suspended
unfolding begun row_of told answer_told
returns-clause-suspended p c = λ s t.
    refl

pub returns-clause-dead : goal.returns-clause-dead
unfolding begun row_of told answer_told
returns-clause-dead p c = λ s t.
    refl

pub returns-clause-favour_new : goal.returns-clause-favour_new
unfolding begun row_of told answer_told
returns-clause-favour_new p c = λ s t n.
    by_cases (n is_from pos 0 to pos 1) (λ b0. rw (b0) refl) (λ b0. rw (b0) refl)

pub returns-clause-priority : goal.returns-clause-priority
unfolding begun row_of told answer_told
returns-clause-priority p c = λ s t n.
    by_cases (is_known s.control n) (λ b0. rw (b0) refl) (λ b0. rw (b0) refl)

pub returns-clause-name : goal.returns-clause-name
unfolding begun row_of told answer_told
returns-clause-name p c = λ s t n.
    by_cases (is_known s.control n) (λ b0. rw (b0) refl) (λ b0. rw (b0) refl)
