use Rattle.pth_sched.proofs.turns.begin_waking.Goals as goal

pub returns-clause-kept : goal.returns-clause-kept
returns-clause-kept g c = rw (c.waits_without_waking-non_waking.ensures, c.kernel.ensures) at c.quiescence_after.ensures.until
