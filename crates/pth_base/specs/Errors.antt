-- The numbers that Linux gives errors (errno).
use Rattle.std.specs.Prelude.{ℤ, pos}
use Rattle.pth_base.specs.declared.errno.Errno.{Errno}
use Rattle.pth_base.specs.declared.errno.Errno.TheVariants as errno

-- the number of an error
abbrev pub error_number : Errno → ℤ
error_number errno.EPERM = pos 1
error_number errno.ENOENT = pos 2
error_number errno.ESRCH = pos 3
error_number errno.EINTR = pos 4
error_number errno.EIO = pos 5
error_number errno.EBADF = pos 9
error_number errno.EAGAIN = pos 11
error_number errno.EACCES = pos 13
error_number errno.EBUSY = pos 16
error_number errno.EEXIST = pos 17
error_number errno.EINVAL = pos 22
error_number errno.EDEADLK = pos 35
error_number errno.ECONNREFUSED = pos 111
