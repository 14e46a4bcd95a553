use Rattle.std.proofs.Common.{◌∙◌, sym, arith}
use Rattle.pth_kernel.specs.Kernel.{kernel_of}
use Rattle.pth_waits.proofs.Arrivals.{at_most, deadline_later, until_deadline}
use Rattle.pth_waits.proofs.dormant.descriptors_until.Goals as goal

pub returns-clause-away : goal.returns-clause-away
returns-clause-away c =
    until_deadline (kernel_of c.args.k.now) c.args.awaits (sym c.descriptors_bring.ensures ∙ c.if-descriptors_bring.false) c.next_arrival.result c.min.result
    (at_most _ _ c.next_arrival.ensures.arrival) c.next_arrival.ensures.within (rw c.deadline_of.ensures at c.min.ensures)

pub returns-clause-later : goal.returns-clause-later
returns-clause-later c = λ none.
    let arrival = c.next_arrival.ensures.later in
    let within = c.next_arrival.ensures.within in
    let deadline = deadline_later (kernel_of c.args.k.now) c.args.awaits (omega (arith, arrival, within)) none in
    let least = rw c.deadline_of.ensures at c.min.ensures in
    omega (arith, arrival, deadline, least)
