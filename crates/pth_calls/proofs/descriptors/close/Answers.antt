use Rattle.std.proofs.Common.{SFits, w64, to_z-of_z, rules}
use Rattle.pth_kernel.specs.Kernel.{fd_named}
use Rattle.pth_calls.proofs.KernelAnswers.{close_answered}
use Rattle.pth_calls.proofs.Framing.{kernel_frame}
use Rattle.pth_calls.proofs.descriptors.close.Goals as goal

pub returns-clause-answered : goal.returns-clause-answered
returns-clause-answered g c =
    let fits : SFits w64 c.args.f = search rules in
    let refusal = rw (c.kernel_mut.ensures.value, to_z-of_z) at c.close.ensures.refusal in
    let closed = rw (c.kernel_mut.ensures.value, to_z-of_z) at c.close.ensures.closed in
    let refused = rw c.kernel_mut.ensures.value at c.close.ensures.refused in
    close_answered c.args.w.now c.close.new.self (fd_named c.args.f) c.close.result c.answer_of.result c.answer_of.ensures refusal closed refused

pub returns-clause-frame : goal.returns-clause-frame
returns-clause-frame g c = kernel_frame c.args.w.now c.close.new.self c.requires
