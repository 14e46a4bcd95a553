use Rattle.std.proofs.Common.{refl, is_none}
use Rattle.pth_lock.specs.Mutexes.{owner_of, is_anothers}
use Rattle.pth_model.specs.Calls.{begun}
use Rattle.pth_model.specs.Resources.{told, answer_told}
use Rattle.pth_model.specs.Rows.{row_of}
use Rattle.pth_sheet.specs.States.{is_mutex, mutex_of}
use Rattle.pth_sheet.proofs.Cases.{by_cases}
use Rattle.pth_sheet.proofs.mutexes.pth_mutex_release.Goals as goal

pub returns : goal.returns
unfolding begun row_of told answer_told
returns p c = λ s t m.
    by_cases (is_mutex s m) (λ b0. by_cases (is_none (owner_of (mutex_of s m))) (λ b1. rw (b0, b1) refl) (λ b1. by_cases (is_anothers t (mutex_of s m)) (λ b2. rw (b0, b1, b2) refl) (λ b2. rw (b0, b1, b2) refl))) (λ b0. rw (b0) refl)
