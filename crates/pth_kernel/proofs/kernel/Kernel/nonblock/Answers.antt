use Rattle.std.proofs.Common.{◌∙◌}
use Rattle.pth_kernel.specs.Kernel.{fd_named, kernel_of}
use Rattle.pth_kernel.proofs.Questions.{nonblock}
use Rattle.pth_kernel.proofs.Operands.{same_operand}
use Rattle.pth_kernel.proofs.kernel.Kernel.nonblock.Goals as goal

pub returns-in-Some : goal.returns-in-Some
returns-in-Some c =
    let is = same_operand c.args.f c.ranges.f in
    c.is_nonblocking.ensures ∙ nonblock (kernel_of c.args.self.now) (fd_named c.args.f) c.in-Some.x.now (rw is at c.in-Some.ensures.some)
