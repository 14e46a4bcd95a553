use Rattle.std.proofs.Common.{◌≡◌, true}
use Rattle.std.specs.List.{list_all}
use Rattle.pth_base.specs.Descriptors.{members_below}
use Rattle.pth_kernel.specs.Kernel.{kernel_of, is_fd_live}
use Rattle.pth_io.proofs.select.are_live.Given as goal

abbrev pub invariant-loop-f : goal.invariant-loop-f
invariant-loop-f l = list_all (is_fd_live (kernel_of l.k)) (members_below l.set.0 l.f) ≡ true
