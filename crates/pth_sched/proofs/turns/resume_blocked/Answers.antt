use Rattle.pth_sched.proofs.QuiescentSteps.{quiescent_by, gone_on_stays_quiescent}
use Rattle.pth_sched.proofs.turns.resume_blocked.Goals as goal

pub returns-clause-quiescence : goal.returns-clause-quiescence
returns-clause-quiescence g c = λ quiescent.
    quiescent_by c.resume.new.w _ c.args.quiescence.now.until c.quiescence_after.result.until c.quiescence_after.ensures.until
    (λ test some. gone_on_stays_quiescent g.P.Program.functions c.args.w.now c.resume.new.w c.args.quiescence.now.until c.args.t.0 (quiescent some) c.requires.runs c.requires.whole c.waits_on_without_waking-non_waking.result c.in_ok-next.next _ _ c.waits_on_without_waking-non_waking.ensures c.in_ok-next.ensures.goes.next c.in_ok-next.ensures.goes.leads test)
