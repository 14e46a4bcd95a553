use Rattle.std.proofs.Common.{SFits, w64, to_z-of_z, rules}
use Rattle.pth_model.specs.Rows.{row_of}
use Rattle.pth_world.proofs.Moves.{runner_alive}
use Rattle.pth_end.proofs.Handled.{handled_frame}
use Rattle.pth_calls.proofs.mutexes.answer_mutexes.Goals as goal

pub release_mutex-requires-clause-alive : goal.release_mutex-requires-clause-alive
release_mutex-requires-clause-alive g c = runner_alive c.args.w.now c.args.t.0 c.requires.whole c.requires.runs

pub returns-in-MutexInit-clause-told : goal.returns-in-MutexInit-clause-told
unfolding row_of
returns-in-MutexInit-clause-told g c =
    let m : SFits w64 c.in-MutexInit.m = search rules in
    rw c.in-MutexInit.is (simp to_z-of_z at c.init_mutex.ensures.told)

pub returns-in-MutexRelease-clause-told : goal.returns-in-MutexRelease-clause-told
unfolding row_of
returns-in-MutexRelease-clause-told g c =
    let m : SFits w64 c.in-MutexRelease.m = search rules in
    rw c.in-MutexRelease.is (simp to_z-of_z at c.release_mutex.ensures.told)

pub returns-in-MutexRelease-clause-frame : goal.returns-in-MutexRelease-clause-frame
returns-in-MutexRelease-clause-frame g c = handled_frame c.args.w.now _ c.requires.runs c.release_mutex.new.w c.release_mutex.ensures.handled
