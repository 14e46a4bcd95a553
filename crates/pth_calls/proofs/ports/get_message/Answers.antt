use Rattle.std.proofs.Common.{ap, sym, SFits, w64, to_z-of_z, rules}
use Rattle.pth_port.specs.Mail.{PortNames}
use Rattle.pth_end.proofs.Ported.{ports_kept}
use Rattle.pth_calls.proofs.Porting.{got_told, get_refused}
use Rattle.pth_calls.proofs.ports.get_message.Goals as goal

pub returns-in-Ok-clause-told : goal.returns-in-Ok-clause-told
returns-in-Ok-clause-told g c =
    let p : SFits w64 c.args.p = search rules in
    let value : SFits w64 c.in-Ok.value = search rules in
    let call = rw c.ports_mut.ensures.value at c.in-Ok.ensures in
    rw to_z-of_z (got_told c.args.w.now c.get.new.self c.args.t c.args.p c.in-Ok.id.0 c.in-Ok.value (simp to_z-of_z at (sym call.answer)) call.names (simp to_z-of_z at call.mail))

pub returns-in-Ok-clause-keeps : goal.returns-in-Ok-clause-keeps
returns-in-Ok-clause-keeps g c = ports_kept c.args.w.now c.get.new.self (ap (λ (n : PortNames). n.made) (rw c.ports_mut.ensures.value at c.in-Ok.ensures.names))

pub returns-in-Err-clause-told : goal.returns-in-Err-clause-told
returns-in-Err-clause-told g c =
    let p : SFits w64 c.args.p = search rules in
    let call = rw c.ports_mut.ensures.value at c.in-Err.ensures in
    get_refused c.args.w.now c.get.new.self c.args.t c.args.p c.in-Err.e (simp to_z-of_z at (sym call.answer)) call.refused
