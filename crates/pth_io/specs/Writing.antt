-- The answer of a write, by what is known of its descriptor.
use Rattle.std.specs.Prelude.{◌≡◌, ℕ, Bool, Option}
use Rattle.pth_base.specs.declared.answer.Answer.{Answer}
use Rattle.pth_io.specs.Attempts.{written, write_answer}
use Rattle.pth_kernel.specs.Kernel.{Kernel, is_fd_live, is_faulty}

-- it is this one at every descriptor that is live, is faulty and takes up to so many bytes as it says
abbrev pub AnswersWrite : Option Answer → (live faulty : Bool) → (total done now : ℕ) → Type 0
AnswersWrite a live faulty total done now = (k : Kernel) (f : ℕ) → live ≡ is_fd_live k f → faulty ≡ is_faulty k f → now ≡ written k f total done → a ≡ write_answer k f total done
