use Rattle.std.proofs.Common.{◌∙◌, sym}
use Rattle.pth_kernel.specs.Kernel.{kernel_of}
use Rattle.pth_waits.proofs.Arrivals.{at_most, select_waits}
use Rattle.pth_waits.proofs.dormant.select_until.Goals as goal

pub returns-clause-pending : goal.returns-clause-pending
returns-clause-pending g c = λ s e st.
    let live = rw c.kernel.ensures at c.are_all_live.ensures in
    let ready = rw c.kernel-2.ensures at c.is_any_ready.ensures in
    select_waits s c.next_arrival.result (kernel_of c.args.w.now.kernel) st.control.kernel (at_most _ _ (rw c.kernel-3.ensures at c.next_arrival.ensures.arrival)) c.next_arrival.ensures.within e c.args.r c.args.writes c.args.x (sym live ∙ c.if-not-are_all_live.false) (sym ready ∙ c.if-is_any_ready.false)
