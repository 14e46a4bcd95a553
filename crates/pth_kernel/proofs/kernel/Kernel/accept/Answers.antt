use Rattle.std.proofs.Common.{◌≡◌, ◌<◌, ◌+◌, ◌∙◌, true, None, set, refl, sym, ap, arith}
use Rattle.pth_base.specs.Descriptors.{descriptor_limit}
use Rattle.pth_kernel.specs.Kernel.{Descriptor, fd_named, kernel_of, earliest, connections, with_descriptor}
use Rattle.pth_kernel.specs.Channels.{ChannelOf}
use Rattle.pth_kernel.specs.Kept.{IsUnknown, IsKeptBeside}
use Rattle.pth_kernel.proofs.Questions.{no_connections}
use Rattle.pth_kernel.proofs.Shown.{seen, shows, changed, kept-using}
use Rattle.pth_kernel.proofs.Changes.{unset, connection-low}
use Rattle.pth_kernel.proofs.Operands.{same_operand}
use Rattle.pth_kernel.proofs.kernel.Kernel.accept.Goals as goal

pub returns-in_err-i-clause-which : goal.returns-in_err-i-clause-which
returns-in_err-i-clause-which c =
    let is = same_operand c.args.f c.ranges.f in
    let u : IsUnknown (kernel_of c.args.self.now) (fd_named c.args.f) = rw is at c.in_err-i.ensures.none in
    rw (c.from_residual.ensures, ← no_connections (kernel_of c.args.self.now) (fd_named c.args.f) u) refl

pub returns-in_err-i-clause-accepted : goal.returns-in_err-i-clause-accepted
returns-in_err-i-clause-accepted c =
    let is = same_operand c.args.f c.ranges.f in
    let u : IsUnknown (kernel_of c.args.self.now) (fd_named c.args.f) = rw is at c.in_err-i.ensures.none in
    rw (← no_connections (kernel_of c.args.self.now) (fd_named c.args.f) u) refl

pub returns-in_err-g-clause-which : goal.returns-in_err-g-clause-which
returns-in_err-g-clause-which c =
    let is = same_operand c.args.f c.ranges.f in
    let named : fd_named c.args.f ≡ c.in_ok-i.i = rw is at c.in_ok-i.ensures.some in
    let k = c.self.inside in
    let s = shows k.trace k.moment k.clock k.place k.channels.items c.self.invariant (fd_named c.args.f) c.in_ok-i.i c.index_mut.result.now named c.in_ok-i.ensures.low c.index_mut.ensures.value in
    rw (c.from_residual-in_err-g.ensures, ← c.self.view_is, ← s.connections) c.in_err-g.ensures.which

pub returns-in_err-g-clause-accepted : goal.returns-in_err-g-clause-accepted
returns-in_err-g-clause-accepted c =
    let is = same_operand c.args.f c.ranges.f in
    let named : fd_named c.args.f ≡ c.in_ok-i.i = rw is at c.in_ok-i.ensures.some in
    let k = c.self.inside in
    let s = shows k.trace k.moment k.clock k.place k.channels.items c.self.invariant (fd_named c.args.f) c.in_ok-i.i c.index_mut.result.now named c.in_ok-i.ensures.low c.index_mut.ensures.value in
    let none : None ≡ earliest (connections (kernel_of (seen k.trace k.moment k.clock k.channels.items)) (fd_named c.args.f)) = rw (← s.connections) c.in_err-g.ensures.which in
    rw (← c.self.view_is, ← none, unset k.channels.items c.in_ok-i.i c.index_mut.result.now c.accept.new.self c.index_mut.ensures.value c.in_err-g.ensures.none) refl

pub index_mut-requires-2 : goal.index_mut-requires-2
index_mut-requires-2 c =
    let is = same_operand c.args.f c.ranges.f in
    let named : fd_named c.args.f ≡ c.in_ok-i.i = rw is at c.in_ok-i.ensures.some in
    let k = c.self.inside in
    let s = shows k.trace k.moment k.clock k.place k.channels.items c.self.invariant (fd_named c.args.f) c.in_ok-i.i c.index_mut.result.now named c.in_ok-i.ensures.low c.index_mut.ensures.value in
    let which = rw s.connections at c.in_ok-g.ensures.which in
    let low : c.in_ok-g.g.0 < descriptor_limit = connection-low k.trace k.moment k.clock k.place k.channels.items c.self.invariant (fd_named c.args.f) c.in_ok-g.g.0 (sym which) in
    let many = c.self.invariant.many in
    omega arith

pub returns-clause-which : goal.returns-clause-which
returns-clause-which c =
    let is = same_operand c.args.f c.ranges.f in
    let named : fd_named c.args.f ≡ c.in_ok-i.i = rw is at c.in_ok-i.ensures.some in
    let k = c.self.inside in
    let s = shows k.trace k.moment k.clock k.place k.channels.items c.self.invariant (fd_named c.args.f) c.in_ok-i.i c.index_mut.result.now named c.in_ok-i.ensures.low c.index_mut.ensures.value in
    rw (← c.self.view_is, ← s.connections) c.in_ok-g.ensures.which

pub returns-clause-within : goal.returns-clause-within
returns-clause-within c =
    let is = same_operand c.args.f c.ranges.f in
    let named : fd_named c.args.f ≡ c.in_ok-i.i = rw is at c.in_ok-i.ensures.some in
    let k = c.self.inside in
    let s = shows k.trace k.moment k.clock k.place k.channels.items c.self.invariant (fd_named c.args.f) c.in_ok-i.i c.index_mut.result.now named c.in_ok-i.ensures.low c.index_mut.ensures.value in
    let which = rw s.connections at c.in_ok-g.ensures.which in
    connection-low k.trace k.moment k.clock k.place k.channels.items c.self.invariant (fd_named c.args.f) c.in_ok-g.g.0 (sym which)

pub returns-clause-accepted : goal.returns-clause-accepted
returns-clause-accepted c =
    let is = same_operand c.args.f c.ranges.f in
    let named : fd_named c.args.f ≡ c.in_ok-i.i = rw is at c.in_ok-i.ensures.some in
    let k = c.self.inside in
    let s = shows k.trace k.moment k.clock k.place k.channels.items c.self.invariant (fd_named c.args.f) c.in_ok-i.i c.index_mut.result.now named c.in_ok-i.ensures.low c.index_mut.ensures.value in
    let which = rw s.connections at c.in_ok-g.ensures.which in
    let x = c.index_mut.result.now in
    let g = c.in_ok-g.g.0 in
    let low : g < descriptor_limit = connection-low k.trace k.moment k.clock k.place k.channels.items c.self.invariant (fd_named c.args.f) g (sym which) in
    let d : Descriptor = record x.used { accepted = x.used.accepted + 1 } in
    let kept : IsKeptBeside k.trace k.moment k.clock k.place (set k.channels.items c.in_ok-i.i c.accept.new.self) = rw c.in_ok-g.ensures.accepted (kept-using k.trace k.moment k.clock k.place k.channels.items c.self.invariant c.in_ok-i.i x d c.in_ok-i.ensures.low c.index_mut.ensures.value) in
    let first = changed k.trace k.moment k.clock k.place k.channels.items c.self.invariant (fd_named c.args.f) c.in_ok-i.i x c.accept.new.self (λ (d : Descriptor). record d { accepted = d.accepted + 1 }) named c.in_ok-i.ensures.low c.index_mut.ensures.value (ap (λ (x : ChannelOf). x.used) c.in_ok-g.ensures.accepted) in
    let second = changed k.trace k.moment k.clock k.place (set k.channels.items c.in_ok-i.i c.accept.new.self) kept g g c.index_mut-2.result.now c.open.new.self (λ (d : Descriptor). record d { live = true }) refl low c.index_mut-2.ensures.value (ap (λ (x : ChannelOf). x.used) c.open.ensures) in
    rw (← c.self.view_is, ← which) (second ∙ ap (with_descriptor g (λ (d : Descriptor). record d { live = true })) first)
