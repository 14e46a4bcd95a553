use Rattle.std.proofs.Common.{refl, ◌&&◌, is_some}
use Rattle.pth_lock.specs.Objects.{is_object, object_named}
use Rattle.pth_cond.specs.Barriers.{is_size}
use Rattle.pth_model.specs.Calls.{begun}
use Rattle.pth_model.specs.Resources.{told, answer_told}
use Rattle.pth_model.specs.Rows.{row_of}
use Rattle.pth_sheet.proofs.Cases.{by_cases}
use Rattle.pth_sheet.proofs.barriers.pth_barrier_init.Goals as goal

pub returns : goal.returns
unfolding begun row_of told answer_told
returns p c = λ s t b n.
    by_cases (is_object b && is_size n) (λ b0. by_cases (is_some (s.control.barriers (object_named b))) (λ b1. rw (b0, b1) refl) (λ b1. rw (b0, b1) refl)) (λ b0. rw (b0) refl)
