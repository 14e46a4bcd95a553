use Rattle.std.proofs.Common.{◌∙◌, ap, length}
use Rattle.pth_kernel.specs.Kernel.{fd_named, kernel_of}
use Rattle.pth_kernel.specs.Kept.{IsChannelOf}
use Rattle.pth_kernel.proofs.Questions.{no_bytes}
use Rattle.pth_kernel.proofs.Operands.{same_operand}
use Rattle.pth_kernel.proofs.kernel.Kernel.left.Goals as goal

pub returns-in-Some : goal.returns-in-Some
returns-in-Some c =
    let is = same_operand c.args.f c.ranges.f in
    let s : IsChannelOf (kernel_of c.args.self.now) (fd_named c.args.f) c.in-Some.x.now = rw is at c.in-Some.ensures.some in
    c.left.ensures ∙ ap length s.bytes

pub returns-in-None : goal.returns-in-None
returns-in-None c =
    let is = same_operand c.args.f c.ranges.f in
    ap length (no_bytes (kernel_of c.args.self.now) (fd_named c.args.f) (rw is at c.in-None.ensures.none))
