use Rattle.std.proofs.Common.{◌∙◌, Some, None, ap, sym, append-nil, rules, SFits, w64, to_z-of_z}
use Rattle.pth_kernel.specs.Moments.{least_after}
use Rattle.pth_ring.specs.Arena.{events_of}
use Rattle.pth_sched.proofs.Counting.{thread_counted}
use Rattle.pth_sched.proofs.moments.count_of.Goals as goal

pub returns-in-Some : goal.returns-in-Some
returns-in-Some g c s ms st least =
    let e : SFits w64 c.in-Some.e = search rules in
    let now = c.args.w.now.kernel.now in
    let awaits = c.awaited_in-awaited.ensures.awaited s.control st.control in
    let is = rw (c.time.ensures.now, c.moment.ensures) at c.sooner-best.ensures in
    thread_counted g.P.Program.functions s _ now ms c.args.best c.sooner-best.result c.count_ring.result c.awaited_in-awaited.result (Some c.in-Some.e) (events_of c.args.w.now.events) awaits c.in-Some.is st.control.events least is
    (λ ns h. (rw to_z-of_z at c.count_ring.ensures) s ns st h)

pub returns-in-None : goal.returns-in-None
returns-in-None g c s ms st least =
    let now = c.args.w.now.kernel.now in
    let awaits = c.awaited_in-awaited.ensures.awaited s.control st.control in
    let is = rw (c.time.ensures.now, c.moment.ensures) at c.sooner-best.ensures in
    thread_counted g.P.Program.functions s _ now ms c.args.best c.sooner-best.result c.sooner-best.result c.awaited_in-awaited.result None (events_of c.args.w.now.events) awaits c.in-None.is st.control.events least is
    (λ ns h. h ∙ ap (least_after now) (sym (append-nil ns)))
