use Rattle.std.proofs.Common.{OnOk, subst}
use Rattle.pth_end.specs.Whole.{Whole}
use Rattle.pth_sched.specs.MachineOf.{MachineOf}
use Rattle.pth_sched.proofs.machine.Machine.pass.Goals as goal

pub returns-clause-whole : goal.returns-clause-whole
returns-clause-whole g c = subst (λ (m : MachineOf _ _ _). OnOk c.pass-passed.result (Whole m.world → Whole c.pass-passed.new.self.world)) c.self.view_is c.pass-passed.ensures.whole
