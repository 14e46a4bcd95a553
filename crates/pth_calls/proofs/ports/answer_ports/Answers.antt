use Rattle.std.proofs.Common.{SFits, w64, to_z-of_z, rules}
use Rattle.std.proofs.lemmas.Result.{IfOk-weaker}
use Rattle.pth_model.specs.Rows.{row_of}
use Rattle.pth_end.proofs.Answers.{answered_told}
use Rattle.pth_calls.proofs.Porting.{quiet_find, quiet_pending}
use Rattle.pth_calls.proofs.ports.answer_ports.Goals as goal

pub returns-in-PortCreate-clause-told : goal.returns-in-PortCreate-clause-told
unfolding row_of
returns-in-PortCreate-clause-told g c = rw c.in-PortCreate.is (rw c.as_ref.ensures.value at c.create_port.ensures.told)

pub returns-in-PortFind-clause-told : goal.returns-in-PortFind-clause-told
unfolding row_of
returns-in-PortFind-clause-told g c = rw c.in-PortFind.is (answered_told c.args.w.now c.args.w.now _ _ _ (quiet_find c.args.t _ c.find_port.result) c.find_port.ensures)

pub returns-in-PortPending-clause-told : goal.returns-in-PortPending-clause-told
unfolding row_of
returns-in-PortPending-clause-told g c =
    let p : SFits w64 c.in-PortPending.p = search rules in
    rw c.in-PortPending.is (answered_told c.args.w.now c.args.w.now _ _ _ (quiet_pending c.args.t c.in-PortPending.p c.count_messages.result) (simp to_z-of_z at c.count_messages.ensures))

pub returns-in-PortPut-clause-told : goal.returns-in-PortPut-clause-told
unfolding row_of
returns-in-PortPut-clause-told g c =
    let p : SFits w64 c.in-PortPut.p = search rules in
    let v : SFits w64 c.in-PortPut.v = search rules in
    let r : SFits w64 c.in-PortPut.r = search rules in
    rw c.in-PortPut.is (simp to_z-of_z at (IfOk-weaker c.put_message.result _ _ (λ a each. each c.args.t) c.put_message.ensures.told))

pub returns-in-PortGet-clause-told : goal.returns-in-PortGet-clause-told
unfolding row_of
returns-in-PortGet-clause-told g c =
    let p : SFits w64 c.in-PortGet.p = search rules in
    rw c.in-PortGet.is (simp to_z-of_z at c.get_message.ensures.told)

pub returns-in-Reply-clause-told : goal.returns-in-Reply-clause-told
unfolding row_of
returns-in-Reply-clause-told g c =
    let m : SFits w64 c.in-Reply.m = search rules in
    let v : SFits w64 c.in-Reply.v = search rules in
    rw c.in-Reply.is (simp to_z-of_z at c.reply.ensures.told)

pub returns-in-PortDestroy-clause-told : goal.returns-in-PortDestroy-clause-told
unfolding row_of
returns-in-PortDestroy-clause-told g c =
    let p : SFits w64 c.in-PortDestroy.p = search rules in
    rw c.in-PortDestroy.is (simp to_z-of_z at c.destroy_port.ensures.told)
