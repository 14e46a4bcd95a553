use Rattle.std.proofs.Common.{◌≡◌, ◌≤◌, ◌<◌, ◌∙◌, length, sym, ap, arith}
use Rattle.pth_cond.specs.Seats.{marks, one_notified}
use Rattle.pth_cond.proofs.Seating.{one_past, written_one}
use Rattle.pth_cond.proofs.seats.Seats.notify_one.Goals as goal

pub invariant_of-self : goal.invariant_of-self
invariant_of-self c =
    let long : length c.self.inside.taken.items ≡ c.self.inside.taken.len = sym c.self.inside.taken.ok.0 in
    let low : c.self.inside.marked < length c.self.inside.taken.items = omega (arith, long, c.len.ensures) in
    written_one c.self.inside.marked c.self.inside.taken.len c.self.inside.taken.items c.mark_first.new.taken _ c.self.invariant low long
    (c.mark_first.ensures ∙ ap one_notified c.deref_mut.ensures.value)

pub returns-else-self-len : goal.returns-else-self-len
returns-else-self-len c =
    let all : length c.self.inside.taken.items ≤ marks c.self.inside.taken.items = omega (arith, c.self.invariant.count) in
    rw (← c.self.view_is) (sym (one_past c.self.inside.taken.items all))
