use Rattle.std.proofs.Common.{refl, ◌==◌}
use Rattle.pth_model.specs.Calls.{begun}
use Rattle.pth_model.specs.LibraryControl.{vanish_all_but}
use Rattle.pth_model.specs.Resources.{told, answer_told}
use Rattle.pth_model.specs.Rows.{row_of}
use Rattle.pth_model.specs.State.{main}
use Rattle.pth_sheet.proofs.Cases.{by_cases}
use Rattle.pth_sheet.proofs.library.pth_kill.Goals as goal

pub returns : goal.returns
unfolding begun row_of told answer_told vanish_all_but
returns p c = λ s t.
    by_cases (t == main) (λ b0. rw (b0) refl) (λ b0. rw (b0) refl)
