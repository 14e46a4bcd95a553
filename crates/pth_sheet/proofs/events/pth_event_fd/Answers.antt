use Rattle.std.proofs.Common.{refl, ◌&&◌}
use Rattle.pth_base.specs.Descriptors.{descriptor_limit}
use Rattle.pth_numbered.specs.Operands.{is_below}
use Rattle.pth_ring.specs.Rings.{is_full_of_events}
use Rattle.pth_model.specs.Calls.{begun}
use Rattle.pth_model.specs.EventHandling.{are_goals}
use Rattle.pth_model.specs.Resources.{told, answer_told}
use Rattle.pth_model.specs.Rows.{row_of}
use Rattle.pth_sheet.proofs.Cases.{by_cases}
use Rattle.pth_sheet.proofs.events.pth_event_fd.Goals as goal

pub returns : goal.returns
unfolding begun row_of told answer_told
returns p c = λ s t goals fd.
    by_cases (are_goals goals && is_below fd descriptor_limit) (λ b0. by_cases (is_full_of_events s.control.events) (λ b1. rw (b0, b1) refl) (λ b1. rw (b0, b1) refl)) (λ b0. rw (b0) refl)
