use Rattle.std.proofs.Common.{◌-◌, ◌≤◌, max, length, refl, sym, ap, subst, arith}
use Rattle.pth_tables.specs.Waits.{KeptWaits, waits_of}
use Rattle.pth_tables.proofs.Heights.{counted_grown}
use Rattle.pth_tables.proofs.Keeping.{waits_longer, length_longer}
use Rattle.pth_tables.proofs.counted_queues.CountedQueues.reserve.Goals as goal

pub invariant_of-self-in_err-reserve : goal.invariant_of-self-in_err-reserve
invariant_of-self-in_err-reserve c =
    let room = c.self.invariant.room in
    counted_grown c.self.inside.queues c.self.inside.queues c.self.inside.lengths c.self.inside.raises c.self.inside.heights.items _ c.self.inside.waits _ c.self.inside.due c.self.inside.mark (c.args.slots - length c.self.inside.heights.items) c.self.inside.queues.room
    c.self.invariant c.in_ok-grow.ensures.ok refl (omega arith) (ap waits_of c.in_err-reserve.ensures.err) (subst (λ (k : KeptWaits). c.self.inside.queues.room ≤ length k.slots) (sym c.in_err-reserve.ensures.err) c.self.invariant.beside.room)

pub invariant_of-self-in_err-reserve-2 : goal.invariant_of-self-in_err-reserve-2
invariant_of-self-in_err-reserve-2 c =
    let more = c.args.slots - length c.self.inside.waits.slots in
    let room = c.self.invariant.room in
    let slots = c.self.invariant.beside.room in
    counted_grown _ c.self.inside.queues c.self.inside.lengths c.self.inside.raises c.self.inside.heights.items _ c.self.inside.waits _ c.self.inside.due c.self.inside.mark (c.args.slots - length c.self.inside.heights.items) c.self.inside.queues.room
    c.self.invariant c.in_ok-grow.ensures.ok c.in_err-reserve-2.ensures.err (omega arith) (waits_longer c.self.inside.waits _ more c.in_ok-reserve.ensures.ok) (omega (arith, length_longer c.self.inside.waits _ more c.in_ok-reserve.ensures.ok))

pub invariant_of-self-2 : goal.invariant_of-self-2
invariant_of-self-2 c =
    let more = c.args.slots - length c.self.inside.waits.slots in
    let room = c.self.invariant.room in
    let slots = c.self.invariant.beside.room in
    counted_grown _ c.self.inside.queues c.self.inside.lengths c.self.inside.raises c.self.inside.heights.items _ c.self.inside.waits _ c.self.inside.due c.self.inside.mark (c.args.slots - length c.self.inside.heights.items) (max c.self.inside.queues.room c.args.slots)
    c.self.invariant c.in_ok-grow.ensures.ok c.in_ok-reserve-2.ensures.ok (omega arith) (waits_longer c.self.inside.waits _ more c.in_ok-reserve.ensures.ok) (omega (arith, length_longer c.self.inside.waits _ more c.in_ok-reserve.ensures.ok))
