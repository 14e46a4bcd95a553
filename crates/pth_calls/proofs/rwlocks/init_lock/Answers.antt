use Rattle.std.proofs.Common.{SFits, w64, to_z-of_z, rules}
use Rattle.pth_end.proofs.Handled.{stored_frame}
use Rattle.pth_calls.proofs.Storing.{lock_initialised_told}
use Rattle.pth_calls.proofs.rwlocks.init_lock.Goals as goal

pub returns-clause-told : goal.returns-clause-told
returns-clause-told g c =
    let l : SFits w64 c.args.l = search rules in
    let call = simp to_z-of_z at c.init_lock.ensures in
    lock_initialised_told c.args.w.now c.init_lock.new.self c.args.t call.keeps.shows c.args.l c.init_lock.result c.answer_of.result call.answer c.answer_of.ensures call.changes call.refused

pub returns-clause-frame : goal.returns-clause-frame
returns-clause-frame g c = stored_frame c.args.w.now _ c.requires.runs c.init_lock.new.self c.requires.whole c.init_lock.ensures.keeps
