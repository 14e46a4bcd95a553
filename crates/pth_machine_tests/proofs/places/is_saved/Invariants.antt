use Rattle.std.proofs.Common.{◌-◌, ◌≡◌}
use Rattle.pth_base.specs.declared.outcome.Outcome.TheVariants.{Running}
use Rattle.pth_machine_tests.proofs.places.is_saved.Given as goal

abbrev pub invariant-loop-places : goal.invariant-loop-places
invariant-loop-places g l = l.machine.turn.outcome ≡ Running

abbrev pub decreases-loop-places : goal.decreases-loop-places
decreases-loop-places g l = 200 - l.places
