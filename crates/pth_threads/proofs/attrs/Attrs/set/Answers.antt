use Rattle.pth_threads.proofs.attrs.Attrs.set.Goals as goal

pub exchange-requires-clause-allowed : goal.exchange-requires-clause-allowed
exchange-requires-clause-allowed c =
    let old = c.in-Some.ensures.allowed.allowed c.in-Some.slot.0 c.at.result.now c.at.ensures in
    rw (← c.self.view_is) (c.set_value-values.ensures.allowed c.self.inside.top c.in-Ok.ensures.range (rw (← c.self.view_is) at (rw c.in-Free.is at old)))
