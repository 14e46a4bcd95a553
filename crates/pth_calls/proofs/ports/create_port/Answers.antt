use Rattle.std.proofs.Common.{arith, SFits, w64, to_z-of_z, rules}
use Rattle.pth_base.specs.declared.ids.PortId.{PortId}
use Rattle.pth_port.proofs.Changes.{names_made}
use Rattle.pth_world.specs.Numbering.{Port}
use Rattle.pth_end.proofs.Ported.{number_given, memory_refusal}
use Rattle.pth_calls.proofs.Porting.{created_told, create_refused, created_frame}
use Rattle.pth_calls.proofs.ports.create_port.Goals as goal

pub create-requires : goal.create-requires
create-requires g c = rw c.ports_mut.ensures.value (let few = c.requires.few Port in let same = names_made c.args.w.now.store.ports in omega (arith, few, same))

pub returns-in-Ok-clause-told : goal.returns-in-Ok-clause-told
returns-in-Ok-clause-told g c =
    let fits : SFits w64 c.from.result = search rules in
    let call = rw c.ports_mut.ensures.value at c.in-Ok.ensures in
    rw (to_z-of_z, c.from.ensures) (created_told c.args.w.now c.create.new.self c.args.t _ c.in-Ok.port.0 (number_given _ (λ (p : PortId). p.0) c.in-Ok.port call.answer) call.names call.mail)

pub returns-in-Ok-clause-frame : goal.returns-in-Ok-clause-frame
returns-in-Ok-clause-frame g c =
    let call = rw c.ports_mut.ensures.value at c.in-Ok.ensures in
    created_frame c.args.w.now c.create.new.self c.args.t _ _ call.names c.requires.runs c.requires.whole

pub returns-in-Err-clause-told : goal.returns-in-Err-clause-told
returns-in-Err-clause-told g c =
    let call = rw c.ports_mut.ensures.value at c.in-Err.ensures in
    create_refused c.args.w.now c.create.new.self c.args.t _ c.in-Err.refusal c.refused.result (memory_refusal _ (λ (p : PortId). p.0) c.in-Err.refusal call.answer) c.refused.ensures call.refused
