use Rattle.std.proofs.Common.{◌≤◌, ℕ, Option, Some, None, sym, subst, arith}
use Rattle.std.specs.Prelude.{IfSome, unwrap_or}
use Rattle.pth_kernel.specs.Trace.{most_clock}
use Rattle.pth_script.proofs.kernel_draft.KernelDraft.close.Goals as goal

slow_by : (clock : Option ℕ) → IfSome clock (λ n. n ≤ most_clock) → unwrap_or clock 1 ≤ most_clock
slow_by (Some n) h = h
slow_by None h = omega arith

pub new-requires-clause-clock : goal.new-requires-clause-clock
new-requires-clause-clock c = subst (λ n. n ≤ most_clock) (sym c.unwrap_or.ensures) (slow_by c.args.self.clock c.requires.slow)

pub new-requires-clause-sound : goal.new-requires-clause-sound
new-requires-clause-sound c = c.requires.knows.faultless
