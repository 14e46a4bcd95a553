use Rattle.std.proofs.Common.{◌≡◌, ◌∙◌, length, sym, ap}
use Rattle.pth_cond.specs.Seats.{all_notified}
use Rattle.pth_cond.proofs.Seating.{written_all}
use Rattle.pth_cond.proofs.seats.Seats.notify_all.Goals as goal

pub invariant_of-self : goal.invariant_of-self
invariant_of-self c =
    let long : length c.self.inside.taken.items ≡ c.self.inside.taken.len = sym c.self.inside.taken.ok.0 in
    rw c.len-self-inside.ensures
    (written_all c.self.inside.taken.len c.self.inside.taken.items c.mark_rest.new.taken _ long
    (c.mark_rest.ensures ∙ ap all_notified c.deref_mut.ensures.value))
