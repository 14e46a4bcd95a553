use Rattle.std.proofs.Common.{◌≡◌, ◌++◌}
use Rattle.pth_kernel.specs.Kernel.{kernel_of}
use Rattle.pth_snapshot.specs.Dump.{lines, fd_row}
use Rattle.pth_snapshot.proofs.descriptor_row.add_descriptors.Given as goal

abbrev pub invariant-loop-f : goal.invariant-loop-f
invariant-loop-f l = l.out ≡ l.initial.out ++ lines (λ f. fd_row (kernel_of l.fn.kernel) f) l.f
