use Rattle.std.proofs.Common.{SFits, w64, to_z-of_z, rules}
use Rattle.std.proofs.lemmas.Result.{on_ok_weaker}
use Rattle.pth_model.specs.Rows.{row_of}
use Rattle.pth_world.proofs.Moves.{runner_alive}
use Rattle.pth_end.proofs.Answers.{answered_told}
use Rattle.pth_end.proofs.Handled.{handled_frame}
use Rattle.pth_calls.proofs.Storing.{quiet_get}
use Rattle.pth_calls.proofs.key_storage.answer_keys.Goals as goal

pub set_key-requires-clause-alive : goal.set_key-requires-clause-alive
set_key-requires-clause-alive g c = runner_alive c.args.w.now c.args.t.0 c.requires.whole c.requires.runs

pub returns-in-KeyCreate-clause-told : goal.returns-in-KeyCreate-clause-told
unfolding row_of
returns-in-KeyCreate-clause-told g c = rw c.in-KeyCreate.is c.create_key.ensures.told

pub returns-in-KeyDelete-clause-told : goal.returns-in-KeyDelete-clause-told
unfolding row_of
returns-in-KeyDelete-clause-told g c =
    let k : SFits w64 c.in-KeyDelete.k = search rules in
    rw c.in-KeyDelete.is (simp to_z-of_z at c.delete_key.ensures.told)

pub returns-in-KeySet-clause-told : goal.returns-in-KeySet-clause-told
unfolding row_of
returns-in-KeySet-clause-told g c =
    let k : SFits w64 c.in-KeySet.k = search rules in
    let v : SFits w64 c.in-KeySet.v = search rules in
    rw c.in-KeySet.is (simp to_z-of_z at c.set_key.ensures.told)

pub returns-in-KeySet-clause-frame : goal.returns-in-KeySet-clause-frame
returns-in-KeySet-clause-frame g c = on_ok_weaker c.set_key.result (λ set. handled_frame c.args.w.now _ c.requires.runs c.set_key.new.w set) c.set_key.ensures.handled

pub returns-in-KeyGet-clause-told : goal.returns-in-KeyGet-clause-told
unfolding row_of
returns-in-KeyGet-clause-told g c =
    let k : SFits w64 c.in-KeyGet.k = search rules in
    rw c.in-KeyGet.is (answered_told c.args.w.now c.args.w.now _ _ _ (quiet_get c.args.t c.in-KeyGet.k c.value_of.result) (simp to_z-of_z at c.value_of.ensures))
