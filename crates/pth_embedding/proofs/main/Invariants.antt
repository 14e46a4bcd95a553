use Rattle.std.proofs.Common.{◌≤◌}
use Rattle.pth_embedding.proofs.main.Given as goal

abbrev pub invariant-loop : goal.invariant-loop
invariant-loop l = l.machine.turn.steps ≤ 1000
