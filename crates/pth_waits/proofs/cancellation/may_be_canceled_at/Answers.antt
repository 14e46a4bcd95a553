use Rattle.std.proofs.Common.{◌∙◌, ap, sym}
use Rattle.pth_model.specs.Cancellation.{is_to_cancel}
use Rattle.pth_model.specs.Changes.{or_nobody}
use Rattle.pth_threads.specs.Threads.{tid_at}
use Rattle.pth_waits.proofs.Canceling.{asked_at, not_asked}
use Rattle.pth_waits.proofs.cancellation.may_be_canceled_at.Goals as goal

pub returns-then-is_to_cancel : goal.returns-then-is_to_cancel
returns-then-is_to_cancel g c k sh =
    let asked = ap (λ o. is_to_cancel (or_nobody o)) (c.entry_at.ensures.entry k sh) ∙ sym c.is_to_cancel.ensures ∙ c.if-is_to_cancel.true in
    c.is_point.ensures ∙ asked_at k (tid_at c.args.w.now.threads.records c.args.slot.0) c.awaited_in.result (c.awaited_in.ensures.awaited k sh) asked

pub returns-else-is_to_cancel : goal.returns-else-is_to_cancel
returns-else-is_to_cancel g c k sh = c.if-is_to_cancel.false ∙ not_asked k (tid_at c.args.w.now.threads.records c.args.slot.0) (ap (λ o. is_to_cancel (or_nobody o)) (c.entry_at.ensures.entry k sh) ∙ sym c.is_to_cancel.ensures ∙ c.if-is_to_cancel.false)
