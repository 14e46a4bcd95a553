use Rattle.std.proofs.Common.{◌<◌, ◌≤◌, ◌+◌, ℕ, Option, subst}
use Rattle.pth_base.specs.Limits.{last_moment}
use Rattle.pth_kernel.specs.Kernel.{kernel_of}
use Rattle.pth_waits.specs.Dormant.{bound}
use Rattle.pth_waits.proofs.Arrivals.{next_ahead}
use Rattle.pth_waits.proofs.dormant.next_arrival.Goals as goal

pub returns-in-Some-clause-within : goal.returns-in-Some-clause-within
returns-in-Some-clause-within c =
    let ahead = next_ahead (kernel_of c.args.k.now) c.now.result c.next_entry.result c.now.ensures.now c.now.ensures.within c.next_entry.ensures in
    subst (λ (o : Option ℕ). bound o ≤ last_moment + 1) c.in-Some.is ahead.1

pub returns-in-Some-clause-later : goal.returns-in-Some-clause-later
returns-in-Some-clause-later c =
    let ahead = next_ahead (kernel_of c.args.k.now) c.now.result c.next_entry.result c.now.ensures.now c.now.ensures.within c.next_entry.ensures in
    subst (λ (o : Option ℕ). c.args.k.now.now < bound o) c.in-Some.is ahead.0
