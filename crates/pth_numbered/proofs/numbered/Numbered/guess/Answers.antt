use Rattle.std.proofs.Common.{sym}
use Rattle.pth_numbered.proofs.Slots.{confirmed}
use Rattle.pth_numbered.proofs.numbered.Numbered.guess.Goals as goal

pub returns-then-record-number : goal.returns-then-record-number
returns-then-record-number g c = rw (← c.self.view_is) (confirmed _ c.args.number c.in_ok-slot.field-0.now c.in_ok-record.record.now c.self.invariant (sym c.in_ok-record.ensures) c.if-record-number.true)
