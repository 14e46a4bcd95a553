use Rattle.std.proofs.Common.{◌≤◌, pos, nat_abs, ◌<ℤ◌, ◌≤ℤ◌, arith}
use Rattle.std.proofs.lemmas.Int.{ints}
use Rattle.pth_base.specs.Descriptors.{descriptor_limit}
use Rattle.pth_kernel.proofs.Shown.{unknown}
use Rattle.pth_kernel.proofs.Operands.{same_operand, below_past, above_past}
use Rattle.pth_kernel.proofs.kernel.Kernel.index_of.Goals as goal

pub returns-then-f-lt0-clause-none : goal.returns-then-f-lt0-clause-none
returns-then-f-lt0-clause-none c =
    let k = c.self.inside in
    let low : c.args.f <ℤ pos 0 = omega (arith, ints) in
    rw (← c.self.view_is) (unknown k.trace k.moment k.clock k.place k.channels.items c.self.invariant _ (below_past c.args.f low))

pub returns-else-i-many-clause-none : goal.returns-else-i-many-clause-none
returns-else-i-many-clause-none c =
    let k = c.self.inside in
    let is = same_operand c.args.f c.ranges.f in
    let low : pos 0 ≤ℤ c.args.f = omega (arith, ints) in
    let past = rw is at c.if-i-many.false in
    let many = k.channels.ok in
    let all = c.self.invariant.many in
    let high : descriptor_limit ≤ nat_abs c.args.f = omega arith in
    rw (← c.self.view_is) (unknown k.trace k.moment k.clock k.place k.channels.items c.self.invariant _ (above_past c.args.f low high))
