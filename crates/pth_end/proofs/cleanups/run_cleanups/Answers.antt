use Rattle.pth_end.proofs.Cleaning.{all_run}
use Rattle.pth_end.proofs.cleanups.run_cleanups.Goals as goal

pub returns-clause-goes : goal.returns-clause-goes
returns-clause-goes g c = all_run g.P.Program.functions c.args.t.0 c.args.w.now c.run_below.new.w _ _ c.run_below.result c.run_below.ensures.goes
