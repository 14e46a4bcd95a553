use Rattle.std.proofs.Common.{ℕ, ◌≡◌, subst}
use Rattle.pth_model.specs.Calls.{wakes}
use Rattle.pth_threads.specs.Threads.{tid_at}
use Rattle.pth_waits.proofs.Waking.{gone_stays, wakes_by}
use Rattle.pth_waits.proofs.wakes.wakes.Goals as goal

pub returns-in-Some : goal.returns-in-Some
returns-in-Some g c = λ s st.
    let t = tid_at c.args.w.now.threads.records c.in-Some.slot.0 in
    subst (λ (n : ℕ). c.has_come.result ≡ wakes n s) (rw c.threads.ensures at c.in-Some.ensures.named)
    (wakes_by s t c.awaited_in.result (c.awaited_in.ensures.awaited s.control st.control) c.has_come.result (c.has_come.ensures s st))

pub returns-in-None : goal.returns-in-None
returns-in-None g c = λ s st. gone_stays c.args.w.now s st c.args.t.0 (rw c.threads.ensures at c.in-None.ensures.slot)
