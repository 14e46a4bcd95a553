use Rattle.std.proofs.Common.{◌∙◌}
use Rattle.pth_cond.proofs.Seating.{marked_first}
use Rattle.pth_cond.proofs.seats.Seats.is_marked.Goals as goal

pub returns : goal.returns
returns c =
    let ts = c.self.inside.taken.items in
    let among = rw (c.deref.ensures.value, ← c.self.invariant.count) at c.stands_among.ensures in
    rw (← c.self.view_is) (among ∙ marked_first c.args.seat ts c.self.invariant.order)
