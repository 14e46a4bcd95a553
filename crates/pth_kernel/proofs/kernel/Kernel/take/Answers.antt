use Rattle.std.proofs.Common.{◌≡◌, ◌+◌, ap, [], List, ℕ}
use Rattle.std.proofs.lemmas.Result.{on_ok_weaker, IfOk-weaker}
use Rattle.pth_kernel.specs.Kernel.{Descriptor, fd_named, kernel_of, bytes_taken}
use Rattle.pth_kernel.specs.Channels.{ChannelOf}
use Rattle.pth_kernel.specs.Kept.{IsUnknown}
use Rattle.pth_kernel.proofs.Shown.{shows, changed}
use Rattle.pth_kernel.proofs.Changes.{takes_none, takes_nothing}
use Rattle.pth_kernel.proofs.Operands.{same_operand}
use Rattle.pth_kernel.proofs.kernel.Kernel.take.Goals as goal

pub take-requires : goal.take-requires
take-requires c =
    let is = same_operand c.args.f c.ranges.f in
    let named : fd_named c.args.f ≡ c.in-Some.i = rw is at c.in-Some.ensures.some in
    let k = c.self.inside in
    let s = shows k.trace k.moment k.clock k.place k.channels.items c.self.invariant (fd_named c.args.f) c.in-Some.i c.index_mut.result.now named c.in-Some.ensures.low c.index_mut.ensures.value in
    rw s.bytes (rw (← c.self.view_is) at c.requires)

pub returns-in-Some-clause-bytes : goal.returns-in-Some-clause-bytes
returns-in-Some-clause-bytes c =
    let is = same_operand c.args.f c.ranges.f in
    let named : fd_named c.args.f ≡ c.in-Some.i = rw is at c.in-Some.ensures.some in
    let k = c.self.inside in
    let s = shows k.trace k.moment k.clock k.place k.channels.items c.self.invariant (fd_named c.args.f) c.in-Some.i c.index_mut.result.now named c.in-Some.ensures.low c.index_mut.ensures.value in
    rw (← c.self.view_is, ← s.bytes) c.take.ensures.bytes

pub returns-in-Some-clause-taken : goal.returns-in-Some-clause-taken
returns-in-Some-clause-taken c =
    let is = same_operand c.args.f c.ranges.f in
    let named : fd_named c.args.f ≡ c.in-Some.i = rw is at c.in-Some.ensures.some in
    let k = c.self.inside in
    on_ok_weaker c.take.result (λ e. rw (← c.self.view_is) (changed k.trace k.moment k.clock k.place k.channels.items c.self.invariant (fd_named c.args.f) c.in-Some.i c.index_mut.result.now c.take.new.self (λ (d : Descriptor). record d { taken = d.taken + c.args.n }) named c.in-Some.ensures.low c.index_mut.ensures.value (ap (λ (x : ChannelOf). x.used) e))) c.take.ensures.taken

pub returns-in-None-clause-bytes : goal.returns-in-None-clause-bytes
returns-in-None-clause-bytes c =
    let is = same_operand c.args.f c.ranges.f in
    let u : IsUnknown (kernel_of c.args.self.now) (fd_named c.args.f) = rw is at c.in-None.ensures.none in
    rw (← takes_none (kernel_of c.args.self.now) (fd_named c.args.f) u c.args.n) c.from_slice.ensures

pub returns-in-None-clause-taken : goal.returns-in-None-clause-taken
returns-in-None-clause-taken c =
    let is = same_operand c.args.f c.ranges.f in
    let u : IsUnknown (kernel_of c.args.self.now) (fd_named c.args.f) = rw is at c.in-None.ensures.none in
    IfOk-weaker c.from_slice.result (λ (b : List ℕ). b ≡ []) (λ (b : List ℕ). kernel_of c.args.self.now ≡ bytes_taken (fd_named c.args.f) c.args.n (kernel_of c.args.self.now)) (λ b e. takes_nothing (kernel_of c.args.self.now) (fd_named c.args.f) u c.args.n c.requires) c.from_slice.ensures
