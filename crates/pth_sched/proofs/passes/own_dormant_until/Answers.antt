use Rattle.pth_sched.proofs.QuiescentWorlds.{gone_waits}
use Rattle.pth_sched.proofs.passes.own_dormant_until.Goals as goal

pub returns-in-None-clause-dormant : goal.returns-in-None-clause-dormant
returns-in-None-clause-dormant g c = λ s st some waits. absurd (gone_waits c.args.w.now s.control c.args.t.0 st.control (rw (c.threads.ensures, c.in-None.is) at c.find.ensures.slot) waits)
