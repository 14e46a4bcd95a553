use Rattle.std.proofs.Common.{arith}
use Rattle.pth_cond.specs.Seats.{with_seat}
use Rattle.pth_cond.proofs.EventSeats.{total_few}
use Rattle.pth_cond.proofs.Seating.{order_entered}
use Rattle.pth_cond.proofs.SeatingTables.{kept_answered}
use Rattle.pth_cond.proofs.conditions.Conds.enter.Goals.{in-Some, in-None}
use Rattle.pth_cond.proofs.conditions.Conds.enter.Goals as goal

pub enter_at-requires-clause-few : goal.enter_at-requires-clause-few
enter_at-requires-clause-few c = omega (arith, total_few c.self.inside.conditions c.self.invariant.few, c.self.invariant.count, c.self.invariant.many)

pub invariant_of-self : goal.invariant_of-self
invariant_of-self c = elim c.match-place_of.branch [
  | in-Some w ↦ rw w.self-inside-is (kept_answered c.self.inside.conditions w.enter_at.new.conditions c.self.invariant w.enter_at.ensures.long w.enter_at.result w.in-Some.place (with_seat c.args.seat) (order_entered c.args.seat) w.enter_at.ensures.changes w.enter_at.ensures.refused w.enter_at.ensures.counted w.enter_at.ensures.few)
  | in-None w ↦ rw w.self-inside-is c.self.invariant
]
