use Rattle.std.proofs.Common.{◌∙◌, List, ap}
use Rattle.pth_cond.specs.Barriers.{arrived_in}
use Rattle.pth_cond.specs.Kept.{arrivals_of}
use Rattle.pth_cond.specs.declared.barriers.arrivals.Waiter.{Waiter}
use Rattle.pth_cond.proofs.BarrierTables.{kept_forgotten}
use Rattle.pth_cond.proofs.barriers.barrier.OneBarrier.forget.Goals as goal

pub invariant_of-self : goal.invariant_of-self
invariant_of-self c =
    let counted = c.count-self-inside.ensures ∙ ap (λ (es : List Waiter). arrived_in c.self.inside.round (arrivals_of es)) c.deref.ensures.value in
    kept_forgotten c.self.inside.count _ _ _ c.self.inside.size c.self.inside.round c.self.inside.entries.items c.take_out.new.entries.items c.args.t.0 c.self.invariant c.take_out.ensures.others counted c.take_out.ensures.room

pub returns-clause-sound : goal.returns-clause-sound
returns-clause-sound c =
    let counted = c.count-self-inside.ensures ∙ ap (λ (es : List Waiter). arrived_in c.self.inside.round (arrivals_of es)) c.deref.ensures.value in
    (kept_forgotten c.self.inside.count _ _ _ c.self.inside.size c.self.inside.round c.self.inside.entries.items c.take_out.new.entries.items c.args.t.0 c.self.invariant c.take_out.ensures.others counted c.take_out.ensures.room).sound
