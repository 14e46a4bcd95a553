use Rattle.std.proofs.Common.{sym, subst}
use Rattle.pth_world.specs.WellFormed.{WaitsToRun}
use Rattle.pth_sched.proofs.turns.tick.Goals as goal

pub returns-clause-stays : goal.returns-clause-stays
returns-clause-stays g c u waits = subst (λ w. WaitsToRun w.threads u) (sym c.set_time.ensures.same) waits
