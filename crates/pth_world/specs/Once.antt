-- Once controls, which are numbered from 0 to 63 (pth_once).
use Rattle.std.specs.Prelude.{ℕ, ℤ, Bool, not, Result, Ok, Err, if◌then◌else◌}
use Rattle.pth_base.specs.declared.errno.Errno.{Errno}
use Rattle.pth_base.specs.declared.errno.Errno.TheVariants.{EINVAL}
use Rattle.pth_numbered.specs.Operands.{number, is_below}
use Rattle.pth_model.specs.State.{once_limit}

-- whether it is the first time for a once control
abbrev pub once_answer : (ℕ → Bool) → ℤ → Result Bool Errno
once_answer used o = if is_below o once_limit then Ok (not (used (number o))) else Err EINVAL
