use Rattle.std.proofs.Common.{◌≡◌, ap, false}
use Rattle.std.proofs.lemmas.Result.{on_ok_weaker}
use Rattle.pth_kernel.specs.Kernel.{Descriptor, fd_named}
use Rattle.pth_kernel.specs.Channels.{ChannelOf}
use Rattle.pth_kernel.proofs.Shown.{changed}
use Rattle.pth_kernel.proofs.Operands.{same_operand}
use Rattle.pth_kernel.proofs.kernel.Kernel.close.Goals as goal

pub returns-in-Some-clause-closed : goal.returns-in-Some-clause-closed
returns-in-Some-clause-closed c =
    let is = same_operand c.args.f c.ranges.f in
    let named : fd_named c.args.f ≡ c.in-Some.i = rw is at c.in-Some.ensures.some in
    let k = c.self.inside in
    on_ok_weaker c.close.result (λ e. rw (← c.self.view_is) (changed k.trace k.moment k.clock k.place k.channels.items c.self.invariant (fd_named c.args.f) c.in-Some.i c.index_mut.result.now c.close.new.self (λ (d : Descriptor). record d { live = false }) named c.in-Some.ensures.low c.index_mut.ensures.value (ap (λ (x : ChannelOf). x.used) e))) c.close.ensures.closed
