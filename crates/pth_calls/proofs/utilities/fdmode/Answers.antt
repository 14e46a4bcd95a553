use Rattle.std.proofs.Common.{refl, SFits, w64, to_z-of_z, rules}
use Rattle.pth_base.specs.declared.answer.Answer.TheVariants.{Int}
use Rattle.pth_kernel.specs.Kernel.{kernel_of, fd_named}
use Rattle.pth_kernel.specs.Modes.{mode_answer, sets_mode}
use Rattle.pth_model.specs.Verdict.{says, by_result}
use Rattle.pth_calls.proofs.KernelAnswers.{kernel_passes, kernel_refuses, number_said, error_said}
use Rattle.pth_calls.proofs.Framing.{kernel_frame}
use Rattle.pth_calls.proofs.utilities.fdmode.Goals as goal

pub returns-in-Ok-clause-answered : goal.returns-in-Ok-clause-answered
returns-in-Ok-clause-answered g c =
    let mode : SFits w64 c.in-Ok.mode = search rules in
    let answer = rw (c.kernel_mut.ensures.value, to_z-of_z c.ranges.f, to_z-of_z c.ranges.m) at c.in-Ok.ensures.answer in
    let set = rw (c.kernel_mut.ensures.value, to_z-of_z c.ranges.f, to_z-of_z c.ranges.m) at c.in-Ok.ensures.set in
    rw (to_z-of_z mode) (kernel_passes c.args.w.now c.mode.new.self (λ k. by_result says (mode_answer k (fd_named c.args.f) c.args.m)) (sets_mode (fd_named c.args.f) c.args.m) (Int c.in-Ok.mode) refl (number_said (mode_answer (kernel_of c.args.w.now.kernel) (fd_named c.args.f) c.args.m) c.in-Ok.mode answer) set)

pub returns-in-Err-clause-answered : goal.returns-in-Err-clause-answered
returns-in-Err-clause-answered g c =
    let f : SFits w64 c.args.f = search rules in
    let m : SFits w64 c.args.m = search rules in
    let answer = simp (c.kernel_mut.ensures.value, to_z-of_z) at c.in-Err.ensures.answer in
    let refused = rw c.kernel_mut.ensures.value at c.in-Err.ensures.refused in
    kernel_refuses c.args.w.now c.mode.new.self (λ k. by_result says (mode_answer k (fd_named c.args.f) c.args.m)) (sets_mode (fd_named c.args.f) c.args.m) c.in-Err.e (error_said (mode_answer (kernel_of c.args.w.now.kernel) (fd_named c.args.f) c.args.m) c.in-Err.e answer) refused

pub returns-in-Ok-clause-frame : goal.returns-in-Ok-clause-frame
returns-in-Ok-clause-frame g c = kernel_frame c.args.w.now c.mode.new.self c.requires

pub returns-in-Err-clause-frame : goal.returns-in-Err-clause-frame
returns-in-Err-clause-frame g c = kernel_frame c.args.w.now c.mode.new.self c.requires
