use Rattle.std.proofs.Common.{◌≢◌, length}
use Rattle.pth_base.specs.Chain.{StandsIn}
use Rattle.pth_numbered.specs.Numbered.{number_at}
use Rattle.pth_ring.specs.Arena.{events_of}
use Rattle.pth_ring.specs.Ring.{from}
use Rattle.pth_model.specs.State.{State}
use Rattle.pth_world.specs.Shows.{StandsFor}
use Rattle.pth_sched.proofs.Counting.{CountedRound}
use Rattle.pth_sched.proofs.moments.count_round.Given as goal

abbrev pub invariant-round : goal.invariant-round
invariant-round g l = record {
  used : number_at l.fn.w.events l.at.0 ≢ 0;
  within : StandsIn (number_at l.fn.w.events l.at.0) ((events_of l.fn.w.events).rings (number_at l.fn.w.events l.first.0));
  so_far : (s : State g.row.P.Denot g.row.P-State.Denot g.row.P-Shared.Denot) → StandsFor l.fn.w s → CountedRound g.P.Program.functions s (events_of l.fn.w.events) l.fn.w.kernel.now (number_at l.fn.w.events l.first.0) l.fn.start (number_at l.fn.w.events l.at.0) l.best;
}

abbrev pub decreases-round : goal.decreases-round
decreases-round g l = length (from (number_at l.fn.w.events l.at.0) ((events_of l.fn.w.events).rings (number_at l.fn.w.events l.first.0)))
