use Rattle.std.proofs.Common.{ap, SFits, w64, to_z-of_z, rules}
use Rattle.pth_port.specs.Mail.{PortNames}
use Rattle.pth_end.proofs.Ported.{ports_kept}
use Rattle.pth_calls.proofs.Porting.{destroyed_told, destroy_refused}
use Rattle.pth_calls.proofs.ports.destroy_port.Goals as goal

pub returns-in-Ok-clause-told : goal.returns-in-Ok-clause-told
returns-in-Ok-clause-told g c =
    let p : SFits w64 c.args.p = search rules in
    let call = rw c.ports_mut.ensures.value at c.in-Ok.ensures in
    destroyed_told c.args.w.now c.destroy.new.self c.args.t c.args.p tt (simp to_z-of_z at call.answer) (simp to_z-of_z at call.names) (simp to_z-of_z at call.mail)

pub returns-in-Ok-clause-keeps : goal.returns-in-Ok-clause-keeps
returns-in-Ok-clause-keeps g c = ports_kept c.args.w.now c.destroy.new.self (ap (λ (n : PortNames). n.made) (rw c.ports_mut.ensures.value at c.in-Ok.ensures.names))

pub returns-in-Err-Fail-clause-told : goal.returns-in-Err-Fail-clause-told
returns-in-Err-Fail-clause-told g c =
    let p : SFits w64 c.args.p = search rules in
    let call = rw c.ports_mut.ensures.value at c.in-Err-Fail.ensures in
    destroy_refused c.args.w.now c.destroy.new.self c.args.t c.args.p c.in-Err-Fail.e (rw c.in-Err-Fail.field-0-is at (simp to_z-of_z at call.answer)) call.refused
