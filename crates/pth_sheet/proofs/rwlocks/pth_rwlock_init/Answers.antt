use Rattle.std.proofs.Common.{refl}
use Rattle.pth_lock.specs.Objects.{is_object, object_named}
use Rattle.pth_model.specs.Calls.{begun}
use Rattle.pth_model.specs.Resources.{told, answer_told}
use Rattle.pth_model.specs.Rows.{row_of}
use Rattle.pth_sheet.specs.States.{locks_of}
use Rattle.pth_sheet.proofs.Cases.{by_cases}
use Rattle.pth_sheet.proofs.rwlocks.pth_rwlock_init.Goals as goal

pub returns : goal.returns
unfolding begun row_of told answer_told
returns p c = λ s t l.
    by_cases (is_object l) (λ b0. by_cases ((locks_of s).initialised (object_named l)) (λ b1. rw (b0, b1) refl) (λ b1. rw (b0, b1) refl)) (λ b0. rw (b0) refl)
