use Rattle.pth_cond.proofs.Seating.{kept_entered}
use Rattle.pth_cond.proofs.seats.Seats.enter.Goals as goal

pub invariant_of-self-2 : goal.invariant_of-self-2
invariant_of-self-2 c = rw c.in_ok-push.ensures.items (kept_entered c.args.seat c.self.inside.marked c.self.inside.taken.items c.self.invariant)
