use Rattle.std.proofs.Common.{◌∙◌, ap, is_ok, subst, sym, to_z-of_z}
use Rattle.pth_world.proofs.Moves.{runner_alive}
use Rattle.pth_world.specs.Leading.{Goes}
use Rattle.pth_world.specs.Shows.{StandsFor}
use Rattle.pth_world.specs.World.{WorldOf}
use Rattle.pth_waits.proofs.NoticeWaits.{takes_goes, waits_for_mutex, waits_goes}
use Rattle.pth_waits.proofs.conditions.take_back.Goals as goal

pub take_mutex-requires-clause-alive : goal.take_mutex-requires-clause-alive
take_mutex-requires-clause-alive g c = runner_alive c.args.w.now c.args.t.0 c.requires.whole c.requires.runs

pub returns-in-Ok-clause-goes : goal.returns-in-Ok-clause-goes
returns-in-Ok-clause-goes g c =
    let answer = sym (rw (to_z-of_z c.ranges.m) at c.take_mutex.ensures.answer) ∙ c.in-Ok.is in
    takes_goes c.args.t.0 c.args.m c.args.c c.args.e g.P.Program.functions c.args.outcome c.args.w.now c.take_mutex.new.self _ _ _ _ c.take_mutex.ensures.keeps (rw (to_z-of_z c.ranges.m) at c.in-Ok.ensures.changes) answer (rw (to_z-of_z c.ranges.c, to_z-of_z c.ranges.m, to_z-of_z c.ranges.e) at c.answer_await.ensures.goes)

pub returns-in-Err-clause-goes : goal.returns-in-Err-clause-goes
returns-in-Err-clause-goes g c =
    let answer = sym (rw (to_z-of_z c.ranges.m) at c.take_mutex.ensures.answer) ∙ c.in-Err.is in
    waits_goes c.args.t.0 c.args.m c.args.c c.args.e g.P.Program.functions c.args.outcome c.args.w.now _ _ _ _ (ap is_ok answer) (subst (λ (v : WorldOf _ _ _). Goes (StandsFor v) (waits_for_mutex c.args.t.0 c.args.m c.args.c c.args.e g.P.Program.functions c.args.outcome) c.wait_for_mutex.new.w c.args.marks.now c.wait_for_mutex.new.marks c.wait_for_mutex.result) c.in-Err.ensures.refused (rw (to_z-of_z c.ranges.c, to_z-of_z c.ranges.m, to_z-of_z c.ranges.e) at c.wait_for_mutex.ensures.goes))
