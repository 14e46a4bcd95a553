use Rattle.std.proofs.Common.{SFits, w64, to_z-of_z, rules}
use Rattle.pth_end.proofs.Ported.{each_thread, put_told, put_refused, ports_handled}
use Rattle.pth_end.proofs.acts.put_message.Goals as goal

pub returns-in-Ok-clause-told : goal.returns-in-Ok-clause-told
returns-in-Ok-clause-told g c t =
    let p : SFits w64 c.args.p = search rules in
    let v : SFits w64 c.args.v = search rules in
    let reply : SFits w64 c.args.reply = search rules in
    let call = rw c.ports_mut.ensures.value at c.in-Ok.ensures in
    put_told c.args.w.now c.put.new.self t c.args.p c.args.v c.args.reply c.in-Ok._message (simp to_z-of_z at call.answer) call.names (simp to_z-of_z at call.mail)

pub returns-in-Ok-clause-handled : goal.returns-in-Ok-clause-handled
returns-in-Ok-clause-handled g c = ports_handled c.args.w.now c.put.new.self c.requires.whole (rw c.ports_mut.ensures.value at c.in-Ok.ensures.names)

pub returns-in-Err-clause-told : goal.returns-in-Err-clause-told
returns-in-Err-clause-told g c =
    let p : SFits w64 c.args.p = search rules in
    let reply : SFits w64 c.args.reply = search rules in
    let call = rw c.ports_mut.ensures.value at c.in-Err.ensures in
    each_thread c.refused.result _ (λ t. put_refused c.args.w.now c.put.new.self t c.args.p c.args.v c.args.reply c.in-Err.refusal c.refused.result (simp to_z-of_z at call.answer) c.refused.ensures call.refused)
