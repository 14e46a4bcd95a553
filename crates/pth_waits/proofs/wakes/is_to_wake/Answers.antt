use Rattle.std.proofs.Common.{◌∙◌, ◌||◌, ap, sym, Bool}
use Rattle.pth_threads.specs.Threads.{tid_at}
use Rattle.pth_model.specs.Calls.{wakes}
use Rattle.pth_model.specs.Cancellation.{may_be_canceled}
use Rattle.pth_model.specs.Looks.{looks_at}
use Rattle.pth_model.specs.Pass.{comes_for}
use Rattle.pth_model.specs.RingWaits.{awaited_events}
use Rattle.pth_waits.proofs.Waking.{due_or}
use Rattle.pth_waits.proofs.wakes.is_to_wake.Goals as goal

pub returns-then-has_come_for-clause-wakes : goal.returns-then-has_come_for-clause-wakes
returns-then-has_come_for-clause-wakes g c s st =
    let t = tid_at c.args.w.now.threads.records c.args.slot.0 in
    let may = may_be_canceled s.control t in
    c.if-has_come_for.true ∙ sym (ap (λ (b : Bool). b || may) c.if-has_come_for.true) ∙ due_or (wakes t s) (comes_for g.P.Program.functions s t) may c.has_come_for.result (c.has_come_for.ensures.wakes s st)

pub returns-else-has_come_for-clause-wakes : goal.returns-else-has_come_for-clause-wakes
unfolding may_be_canceled
returns-else-has_come_for-clause-wakes g c s st =
    let k = s.control in
    let t = tid_at c.args.w.now.threads.records c.args.slot.0 in
    let may = may_be_canceled k t in
    (rw c.has_come_for.ensures.same at c.may_be_canceled_at.ensures) (looks_at g.P.Program.functions s (awaited_events k t) k) (rw c.has_come_for.ensures.same at (c.has_come_for.ensures.shows s st))
    ∙ sym (ap (λ (b : Bool). b || may) c.if-has_come_for.false)
    ∙ due_or (wakes t s) (comes_for g.P.Program.functions s t) may c.has_come_for.result (c.has_come_for.ensures.wakes s st)
