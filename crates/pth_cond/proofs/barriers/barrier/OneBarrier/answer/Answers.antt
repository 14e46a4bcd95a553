use Rattle.std.proofs.Common.{◌∙◌, List, ap, arith}
use Rattle.std.proofs.lemmas.List.{with_items_is}
use Rattle.pth_cond.specs.Barriers.{late_behind}
use Rattle.pth_cond.specs.Kept.{arrivals_of}
use Rattle.pth_cond.specs.declared.barriers.arrivals.Waiter.{Waiter}
use Rattle.pth_cond.proofs.BarrierTables.{kept_marked}
use Rattle.pth_cond.proofs.barriers.barrier.OneBarrier.answer.Goals as goal

pub invariant_of-self : goal.invariant_of-self
invariant_of-self c =
    let items = with_items_is c.self.inside.entries c.mark_behind.new.entries (omega arith) in
    let late = c.mark_behind.ensures ∙ ap (λ (es : List Waiter). late_behind c.args.t.0 c.args.round (arrivals_of es)) c.deref_mut.ensures.value in
    kept_marked c.self.inside.count c.self.inside.entries.cap c.self.inside.size c.self.inside.round c.args.round c.self.inside.entries.items _ c.args.t.0 c.self.invariant (ap arrivals_of items ∙ late)
