use Rattle.std.proofs.Common.{◌≡◌}
use Rattle.pth_machine_tests.proofs.snapshots.turns.Given as goal

abbrev pub invariant-loop : goal.invariant-loop
invariant-loop l = l.outcome ≡ l.machine.turn.outcome
