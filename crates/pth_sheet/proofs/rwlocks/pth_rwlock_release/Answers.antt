use Rattle.std.proofs.Common.{refl}
use Rattle.pth_lock.specs.Objects.{object_named}
use Rattle.pth_lock.specs.RwLocks.{is_held, holds}
use Rattle.pth_model.specs.Calls.{begun}
use Rattle.pth_model.specs.Resources.{told, answer_told}
use Rattle.pth_model.specs.Rows.{row_of}
use Rattle.pth_sheet.specs.States.{locks_of}
use Rattle.pth_sheet.proofs.Cases.{by_cases}
use Rattle.pth_sheet.proofs.rwlocks.pth_rwlock_release.Goals as goal

pub returns : goal.returns
unfolding begun row_of told answer_told
returns p c = λ s t l.
    by_cases ((locks_of s).initialised (object_named l)) (λ b0. by_cases (is_held (locks_of s) (object_named l)) (λ b1. by_cases (holds (locks_of s) t (object_named l)) (λ b2. rw (b0, b1, b2) refl) (λ b2. rw (b0, b1, b2) refl)) (λ b1. rw (b0, b1) refl)) (λ b0. rw (b0) refl)
