use Rattle.std.proofs.Common.{◌∙◌}
use Rattle.pth_kernel.specs.Kernel.{fd_named, kernel_of}
use Rattle.pth_kernel.proofs.Questions.{nothing_answered, answered}
use Rattle.pth_kernel.proofs.Operands.{same_operand}
use Rattle.pth_kernel.proofs.kernel.Kernel.connected.Goals as goal

pub returns-in-Some : goal.returns-in-Some
returns-in-Some c =
    let is = same_operand c.args.f c.ranges.f in
    c.connected.ensures ∙ answered (kernel_of c.args.self.now) (fd_named c.args.f) c.in-Some.x.now (rw is at c.in-Some.ensures.some)

pub returns-in-None : goal.returns-in-None
returns-in-None c =
    let is = same_operand c.args.f c.ranges.f in
    nothing_answered (kernel_of c.args.self.now) (fd_named c.args.f) (rw is at c.in-None.ensures.none)
