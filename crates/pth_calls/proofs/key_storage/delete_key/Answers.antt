use Rattle.std.proofs.Common.{SFits, w64, to_z-of_z, rules}
use Rattle.pth_end.proofs.Handled.{stored_frame}
use Rattle.pth_calls.proofs.Storing.{deleted_told}
use Rattle.pth_calls.proofs.key_storage.delete_key.Goals as goal

pub returns-clause-told : goal.returns-clause-told
returns-clause-told g c =
    let k : SFits w64 c.args.k = search rules in
    let deleted = simp to_z-of_z at c.delete_key.ensures in
    deleted_told c.args.w.now c.delete_key.new.self c.args.t deleted.keeps.shows c.args.k c.delete_key.result c.answer_of.result deleted.answer c.answer_of.ensures deleted.changes deleted.refused

pub returns-clause-frame : goal.returns-clause-frame
returns-clause-frame g c = stored_frame c.args.w.now _ c.requires.runs c.delete_key.new.self c.requires.whole c.delete_key.ensures.keeps
