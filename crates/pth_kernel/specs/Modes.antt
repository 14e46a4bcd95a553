-- The modes of a descriptor (pth_fdmode): 1 blocks, 2 does not, and 0 only asks.
use Rattle.std.specs.Prelude.{ℕ, ◌==◌, nat_le, ℤ, pos, negsuc, Bool, false, if◌then◌else◌, Result, Ok, Err, Option, Some, None}
use Rattle.pth_base.specs.declared.errno.Errno.{Errno}
use Rattle.pth_base.specs.declared.errno.Errno.TheVariants.{EBADF, EINVAL}
use Rattle.pth_kernel.specs.Kernel.{Kernel, is_fd_live, with_mode}

abbrev pub is_mode : ℤ → Bool
is_mode (pos m) = nat_le m 2
is_mode (negsuc m) = false

-- refused, or else the mode until now
abbrev pub mode_answer : Kernel → ℕ → ℤ → Result ℕ Errno
mode_answer k f m = if is_fd_live k f then (if is_mode m then Ok (k.descriptors f).mode else Err EINVAL) else Err EBADF

-- 0 sets none
abbrev pub sets_mode : ℕ → ℤ → Kernel → Kernel
sets_mode f (pos m) k = if m == 0 then k else with_mode f m k
sets_mode f (negsuc m) k = k

-- why a descriptor can't be closed
abbrev pub close_refusal : Kernel → ℕ → Option Errno
close_refusal k f = if is_fd_live k f then None else Some EBADF
