use Rattle.std.proofs.Common.{SFits, w64, to_z-of_z, rules}
use Rattle.pth_model.specs.Rows.{row_of}
use Rattle.pth_world.proofs.Moves.{runner_alive}
use Rattle.pth_end.proofs.Handled.{if_answered, stored_frame}
use Rattle.pth_calls.proofs.Storing.{push_done, push_refused}
use Rattle.pth_calls.proofs.cleanups.answer_cleanups.Goals as goal

pub push_cleanup-requires-clause-alive : goal.push_cleanup-requires-clause-alive
push_cleanup-requires-clause-alive g c = runner_alive c.args.w.now c.args.t.0 c.requires.whole c.requires.runs

pub returns-in-Ok-clause-told : goal.returns-in-Ok-clause-told
unfolding row_of
returns-in-Ok-clause-told g c =
    let h : SFits w64 c.in-CleanupPush.h = search rules in
    let v : SFits w64 c.in-CleanupPush.v = search rules in
    let answer = rw c.in-Ok.is at c.push_cleanup.ensures.answer in
    rw c.in-CleanupPush.is (push_done c.args.w.now c.push_cleanup.new.self c.args.t c.push_cleanup.ensures.keeps.shows g.P.Program.functions c.in-CleanupPush.h c.in-CleanupPush.v tt answer (simp (to_z-of_z, c.handler_named.ensures) at c.in-Ok.ensures.changes))

pub returns-in-Err-clause-told : goal.returns-in-Err-clause-told
unfolding row_of
returns-in-Err-clause-told g c =
    let answer = rw c.in-Err.is at c.push_cleanup.ensures.answer in
    rw c.in-CleanupPush.is (push_refused c.args.w.now c.push_cleanup.new.self c.args.t c.push_cleanup.ensures.keeps.shows g.P.Program.functions c.in-CleanupPush.h c.in-CleanupPush.v c.in-Err.refusal c.refused.result answer c.refused.ensures c.in-Err.ensures.refused)

pub returns-in-Ok-clause-frame : goal.returns-in-Ok-clause-frame
returns-in-Ok-clause-frame g c = stored_frame c.args.w.now _ c.requires.runs c.push_cleanup.new.self c.requires.whole c.push_cleanup.ensures.keeps

pub returns-in-Err-clause-frame : goal.returns-in-Err-clause-frame
returns-in-Err-clause-frame g c = if_answered c.refused.result (stored_frame c.args.w.now _ c.requires.runs c.push_cleanup.new.self c.requires.whole c.push_cleanup.ensures.keeps)
