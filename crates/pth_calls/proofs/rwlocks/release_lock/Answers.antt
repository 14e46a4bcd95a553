use Rattle.std.proofs.Common.{SFits, w64, to_z-of_z, rules}
use Rattle.pth_world.proofs.Moves.{runner_alive}
use Rattle.pth_end.proofs.Handled.{stored_frame}
use Rattle.pth_calls.proofs.Storing.{lock_released_told}
use Rattle.pth_calls.proofs.rwlocks.release_lock.Goals as goal

pub release_lock-requires-clause-alive : goal.release_lock-requires-clause-alive
release_lock-requires-clause-alive g c = runner_alive c.args.w.now c.args.t.0 c.requires.whole c.requires.runs

pub returns-clause-told : goal.returns-clause-told
returns-clause-told g c =
    let l : SFits w64 c.args.l = search rules in
    let call = simp to_z-of_z at c.release_lock.ensures in
    lock_released_told c.args.w.now c.release_lock.new.self c.args.t call.keeps.shows c.args.l c.release_lock.result c.answer_of.result call.answer c.answer_of.ensures call.changes call.refused

pub returns-clause-frame : goal.returns-clause-frame
returns-clause-frame g c = stored_frame c.args.w.now _ c.requires.runs c.release_lock.new.self c.requires.whole c.release_lock.ensures.keeps
