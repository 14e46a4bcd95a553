use Rattle.std.proofs.Common.{◌≡◌, ◌++◌, drop}
use Rattle.pth_explaining.specs.Whom.{threads_text}
use Rattle.pth_explaining.proofs.whom.add_threads.Given as goal

abbrev pub invariant-loop-t : goal.invariant-loop-t
invariant-loop-t l = l.out ++ threads_text (drop l.t-index l.threads) ≡ l.initial.out ++ threads_text l.threads
