use Rattle.std.proofs.Common.{◌≢◌, length}
use Rattle.pth_numbered.specs.Numbered.{number_at}
use Rattle.pth_ring.specs.Arena.{events_of}
use Rattle.pth_ring.specs.Ring.{from}
use Rattle.pth_waits.proofs.Looking.{LookedSoFar}
use Rattle.pth_waits.proofs.looks.look_round.Given as goal

abbrev pub invariant-round : goal.invariant-round
invariant-round g l = record {
  used : number_at l.fn.w.events l.at.0 ≢ 0;
  so_far : LookedSoFar g.P.Program.functions l.fn.w l.w (number_at l.fn.w.events l.first.0) (number_at l.fn.w.events l.at.0) l.come;
}

abbrev pub decreases-round : goal.decreases-round
decreases-round g l = length (from (number_at l.fn.w.events l.at.0) ((events_of l.fn.w.events).rings (number_at l.fn.w.events l.first.0)))
