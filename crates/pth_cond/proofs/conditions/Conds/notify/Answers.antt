use Rattle.std.proofs.Common.{◌∙◌, sym}
use Rattle.std.proofs.lemmas.Result.{on_ok_weaker}
use Rattle.pth_cond.specs.Seats.{notified}
use Rattle.pth_cond.proofs.Seating.{order_notified}
use Rattle.pth_cond.proofs.EventSeats.{notified_lessens}
use Rattle.pth_cond.proofs.SeatingTables.{few_here, kept_answered}
use Rattle.pth_cond.proofs.conditions.Conds.notify.Goals.{in-Some, in-None}
use Rattle.pth_cond.proofs.conditions.Conds.notify.Goals as goal

pub invariant_of-self : goal.invariant_of-self
invariant_of-self c = elim c.match-place_of.branch [
  | in-Some w ↦ rw w.self-inside-is (kept_answered c.self.inside.conditions w.notify_at.new.conditions c.self.invariant w.notify_at.ensures.long w.notify_at.result w.in-Some.place (notified c.args.all) (order_notified c.args.all) w.notify_at.ensures.changes w.notify_at.ensures.refused (c.self.invariant.count ∙ sym w.notify_at.ensures.counted)
      (on_ok_weaker w.notify_at.result (few_here c.self.inside.conditions w.notify_at.new.conditions c.self.invariant w.notify_at.ensures.long w.in-Some.place (notified c.args.all) (notified_lessens c.args.all)) w.notify_at.ensures.changes))
  | in-None w ↦ rw w.self-inside-is c.self.invariant
]
