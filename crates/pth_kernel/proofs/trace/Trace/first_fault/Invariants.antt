use Rattle.std.proofs.Common.{◌≡◌, drop}
use Rattle.pth_kernel.specs.Trace.{first_fault, first_fault_below}
use Rattle.pth_kernel.specs.Rules.{Knows}
use Rattle.pth_kernel.proofs.Knowing.{above_at}
use Rattle.pth_kernel.proofs.trace.Trace.first_fault.Given as goal

abbrev pub invariant-loop-i : goal.invariant-loop-i
invariant-loop-i l = record {
  items : l.stamp-items ≡ l.fn.self;
  knows : Knows l.rules l.fn.live.0 (above_at l.stamp-items l.i);
  same : first_fault_below l.fn.live.0 (above_at l.stamp-items l.i) (drop l.i l.stamp-items) ≡ first_fault l.fn.live.0 l.fn.self;
}
