-- An attempt to accept that has no answer yet changes nothing.
use Rattle.std.proofs.Common.{◌≡◌, ℕ, not, Bool, true, false, Option, Some, None, refl, if◌then◌else◌}
use Rattle.pth_base.specs.declared.answer.Answer.{Answer}
use Rattle.pth_base.specs.declared.errno.Errno.TheVariants.{EBADF, EIO}
use Rattle.pth_kernel.specs.Entries.{is_failure}
use Rattle.pth_kernel.specs.Kernel.{Kernel, is_fd_live, connections, came, earliest, connection_accepted}
use Rattle.pth_io.specs.Attempts.{accept_answer, accept_after, fails, not_yet, answered_or, number_answer}
use Rattle.pth_numbered.specs.Clauses.{◌when◌otherwise◌}

nothing_accepted : (k : Kernel) (f : ℕ) (b : Bool) (o : Option ℕ) (rest : Option Answer) → (fails EBADF when not b otherwise answered_or number_answer o rest) ≡ None → (if b then connection_accepted f o k else k) ≡ k
nothing_accepted k f false o rest is = refl
nothing_accepted k f true None rest is = refl
nothing_accepted k f true (Some g) rest is = absurd (cc is)

pub accepts_nothing : (k : Kernel) (f : ℕ) → accept_answer k f ≡ None → accept_after f k ≡ k
unfolding accept_answer accept_after
accepts_nothing k f is = nothing_accepted k f (is_fd_live k f) (earliest (connections k f)) (fails EIO when came k is_failure f otherwise not_yet) is
