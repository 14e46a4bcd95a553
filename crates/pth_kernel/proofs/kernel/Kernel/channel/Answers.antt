use Rattle.std.proofs.Common.{◌≡◌}
use Rattle.pth_kernel.specs.Kernel.{fd_named}
use Rattle.pth_kernel.proofs.Shown.{shows}
use Rattle.pth_kernel.proofs.Operands.{same_operand}
use Rattle.pth_kernel.proofs.kernel.Kernel.channel.Goals as goal

pub returns-in-Some-clause-some : goal.returns-in-Some-clause-some
returns-in-Some-clause-some c =
    let is = same_operand c.args.f c.ranges.f in
    let named : fd_named c.args.f ≡ c.in-Some.i = rw is at c.in-Some.ensures.some in
    let k = c.self.inside in
    rw (← c.self.view_is) (shows k.trace k.moment k.clock k.place k.channels.items c.self.invariant (fd_named c.args.f) c.in-Some.i c.index.result.now named c.in-Some.ensures.low c.index.ensures)

pub returns-in-None-clause-none : goal.returns-in-None-clause-none
returns-in-None-clause-none c =
    let is = same_operand c.args.f c.ranges.f in
    rw is at c.in-None.ensures.none
