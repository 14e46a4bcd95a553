use Rattle.pth_end.proofs.destructors.run_destructors.Goals as goal

pub returns-clause-goes : goal.returns-clause-goes
returns-clause-goes g c = c.run_from.ensures.goes
