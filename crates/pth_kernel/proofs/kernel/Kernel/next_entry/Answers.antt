use Rattle.pth_kernel.proofs.Shown.{next-at, next-none}
use Rattle.pth_kernel.proofs.kernel.Kernel.next_entry.Goals as goal

pub returns-in_err-stamp : goal.returns-in_err-stamp
returns-in_err-stamp c =
    let k = c.self.inside in
    let past = rw c.stamps.ensures at c.in_err-stamp.ensures.lookup.3 in
    rw (c.from_residual.ensures, ← c.self.view_is) (next-none k.trace k.moment k.clock k.place k.channels.items c.self.invariant past)

pub returns : goal.returns
returns c =
    let k = c.self.inside in
    let found = rw c.stamps.ensures at c.in_ok-stamp.ensures.lookup in
    rw (← c.self.view_is) (next-at k.trace k.moment k.clock k.place k.channels.items c.self.invariant c.in_ok-stamp.stamp.now found.3.0 found.1)
