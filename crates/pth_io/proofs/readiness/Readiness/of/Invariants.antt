use Rattle.pth_kernel.specs.Kernel.{kernel_of}
use Rattle.pth_io.specs.Readiness.{is_ready}
use Rattle.pth_io.proofs.Found.{IsFoundBelow, those_below}
use Rattle.pth_io.proofs.readiness.Readiness.of.Given as goal

abbrev pub invariant-loop-f : goal.invariant-loop-f
invariant-loop-f l = IsFoundBelow l.found l.f (those_below (is_ready l.self (kernel_of l.k)) l.set.0 l.f)
