use Rattle.std.proofs.Common.{refl}
use Rattle.pth_kernel.specs.Kernel.{is_fd_live, fd_named}
use Rattle.pth_model.specs.Calls.{begun}
use Rattle.pth_model.specs.Resources.{told, answer_told}
use Rattle.pth_model.specs.Rows.{row_of}
use Rattle.pth_sheet.proofs.Cases.{by_cases}
use Rattle.pth_sheet.proofs.standard_replacements.close.Goals as goal

pub returns : goal.returns
unfolding begun row_of told answer_told
returns p c = λ s t f.
    by_cases (is_fd_live s.control.kernel (fd_named f)) (λ b0. rw (b0) refl) (λ b0. rw (b0) refl)
