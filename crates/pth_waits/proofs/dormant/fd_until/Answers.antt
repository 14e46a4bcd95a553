use Rattle.std.proofs.Common.{◌∙◌, sym, rules, SFits, w64, to_z-of_z}
use Rattle.pth_kernel.specs.Kernel.{kernel_of}
use Rattle.pth_waits.proofs.Arrivals.{at_most, fd_waits}
use Rattle.pth_waits.proofs.dormant.fd_until.Goals as goal

pub returns-clause-pending : goal.returns-clause-pending
returns-clause-pending g c = λ s e st.
    let fits : SFits w64 c.args.fd = search rules in
    let live = rw (c.kernel.ensures, to_z-of_z) at c.is_live.ensures in
    let goals = rw (c.kernel-2.ensures, to_z-of_z) at c.is_as_goals_say.ensures in
    fd_waits s c.next_arrival.result (kernel_of c.args.w.now.kernel) st.control.kernel (at_most _ _ (rw c.kernel-3.ensures at c.next_arrival.ensures.arrival)) c.next_arrival.ensures.within e c.args.goals c.args.fd (sym live ∙ c.if-not-is_live.false) (sym goals ∙ c.if-is_as_goals_say.false)
