use Rattle.std.proofs.Common.{refl, is_none}
use Rattle.pth_threads.specs.Attributes.{is_bound}
use Rattle.pth_model.specs.AttributeHandling.{object}
use Rattle.pth_model.specs.Calls.{begun}
use Rattle.pth_model.specs.Resources.{told, answer_told}
use Rattle.pth_model.specs.Rows.{row_of}
use Rattle.pth_sheet.proofs.Cases.{by_cases}
use Rattle.pth_sheet.proofs.attributes.pth_attr_init.Goals as goal

pub returns : goal.returns
unfolding begun row_of told answer_told
returns p c = λ s t a.
    by_cases (is_none (object s.control a)) (λ b0. rw (b0) refl) (λ b0. by_cases (is_bound (object s.control a)) (λ b1. rw (b0, b1) refl) (λ b1. rw (b0, b1) refl))
