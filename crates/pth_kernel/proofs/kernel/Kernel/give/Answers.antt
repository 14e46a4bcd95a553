use Rattle.std.proofs.Common.{◌≡◌, ◌+◌, ap}
use Rattle.pth_kernel.specs.Kernel.{Descriptor, fd_named, kernel_of}
use Rattle.pth_kernel.specs.Channels.{ChannelOf}
use Rattle.pth_kernel.specs.Kept.{IsUnknown}
use Rattle.pth_kernel.proofs.Questions.{how_much}
use Rattle.pth_kernel.proofs.Shown.{seen, shows, changed}
use Rattle.pth_kernel.proofs.Changes.{gives_nothing}
use Rattle.pth_kernel.proofs.Operands.{same_operand}
use Rattle.pth_kernel.proofs.kernel.Kernel.give.Goals as goal

pub give-requires : goal.give-requires
give-requires c =
    let is = same_operand c.args.f c.ranges.f in
    let named : fd_named c.args.f ≡ c.in-Some.i = rw is at c.in-Some.ensures.some in
    let k = c.self.inside in
    let s = shows k.trace k.moment k.clock k.place k.channels.items c.self.invariant (fd_named c.args.f) c.in-Some.i c.index_mut.result.now named c.in-Some.ensures.low c.index_mut.ensures.value in
    rw (how_much (kernel_of (seen k.trace k.moment k.clock k.channels.items)) (fd_named c.args.f) c.index_mut.result.now s) (rw (← c.self.view_is) at c.requires)

pub returns-in-Some : goal.returns-in-Some
returns-in-Some c =
    let is = same_operand c.args.f c.ranges.f in
    let named : fd_named c.args.f ≡ c.in-Some.i = rw is at c.in-Some.ensures.some in
    let k = c.self.inside in
    rw (← c.self.view_is) (changed k.trace k.moment k.clock k.place k.channels.items c.self.invariant (fd_named c.args.f) c.in-Some.i c.index_mut.result.now c.give.new.self (λ (d : Descriptor). record d { given = d.given + c.args.n }) named c.in-Some.ensures.low c.index_mut.ensures.value (ap (λ (x : ChannelOf). x.used) c.give.ensures))

pub returns-in_default : goal.returns-in_default
returns-in_default c =
    let is = same_operand c.args.f c.ranges.f in
    let u : IsUnknown (kernel_of c.args.self.now) (fd_named c.args.f) = rw (c.in_default.is, is) at c.index_of.ensures.none in
    gives_nothing (kernel_of c.args.self.now) (fd_named c.args.f) u c.args.n c.requires
