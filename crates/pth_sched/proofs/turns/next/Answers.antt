use Rattle.pth_sched.proofs.Going.{next_chosen, next_ready}
use Rattle.std.proofs.Common.{ap, sym, ◌∙◌}
use Rattle.pth_model.specs.State.{Scheduler}
use Rattle.pth_sched.proofs.turns.next.Goals as goal

pub returns-clause-next : goal.returns-clause-next
returns-clause-next g c = λ k st. next_chosen c.named.result c.first.result c.in-Some.t k.scheduler.preferred _ c.in-Some.ensures (c.named.ensures ∙ sym (ap (λ (x : Scheduler). x.preferred) st.scheduler)) (c.first.ensures.first k st)

pub returns-clause-known : goal.returns-clause-known
returns-clause-known g c = (next_ready c.args.w.now c.named.result c.first.result c.in-Some.t c.in-Some.ensures c.named.ensures c.requires.named c.first.ensures.known c.first.ensures.stands).0

pub returns-clause-ready : goal.returns-clause-ready
returns-clause-ready g c = (next_ready c.args.w.now c.named.result c.first.result c.in-Some.t c.in-Some.ensures c.named.ensures c.requires.named c.first.ensures.known c.first.ensures.stands).1
