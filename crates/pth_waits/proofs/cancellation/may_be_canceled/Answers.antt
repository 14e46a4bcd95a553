use Rattle.std.proofs.Common.{◌∙◌, sym}
use Rattle.pth_waits.proofs.Canceling.{asked_at, not_asked}
use Rattle.pth_waits.proofs.cancellation.may_be_canceled.Goals as goal

pub returns-then-is_asked : goal.returns-then-is_asked
returns-then-is_asked g c k sh = c.is_point.ensures ∙ asked_at k c.args.t.0 c.awaited.result (c.awaited.ensures.awaited k sh) (sym (c.is_asked.ensures k sh) ∙ c.if-is_asked.true)

pub returns-else-is_asked : goal.returns-else-is_asked
returns-else-is_asked g c k sh = c.if-is_asked.false ∙ not_asked k c.args.t.0 (sym (c.is_asked.ensures k sh) ∙ c.if-is_asked.false)
