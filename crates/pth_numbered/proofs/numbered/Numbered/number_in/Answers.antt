use Rattle.std.proofs.Common.{sym}
use Rattle.pth_numbered.proofs.Slots.{number_is, number_none}
use Rattle.pth_numbered.proofs.numbered.Numbered.number_in.Goals as goal

pub returns-in-Some : goal.returns-in-Some
returns-in-Some g c = rw (← c.self.view_is) (sym (number_is _ c.args.s.0 c.in-Some.record.now (sym c.in-Some.ensures)))

pub returns-in-None : goal.returns-in-None
returns-in-None g c = rw (← c.self.view_is) (sym (number_none _ c.args.s.0 (sym c.in-None.ensures)))
