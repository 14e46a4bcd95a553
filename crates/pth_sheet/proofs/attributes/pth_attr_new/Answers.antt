use Rattle.std.proofs.Common.{refl}
use Rattle.pth_threads.specs.Attributes.{is_full}
use Rattle.pth_model.specs.Calls.{begun}
use Rattle.pth_model.specs.Resources.{told, answer_told}
use Rattle.pth_model.specs.Rows.{row_of}
use Rattle.pth_sheet.proofs.Cases.{by_cases}
use Rattle.pth_sheet.proofs.attributes.pth_attr_new.Goals as goal

pub returns : goal.returns
unfolding begun row_of told answer_told
returns p c = λ s t.
    by_cases (is_full s.control.attributes.objects s.control.attributes.made) (λ b0. rw (b0) refl) (λ b0. rw (b0) refl)
