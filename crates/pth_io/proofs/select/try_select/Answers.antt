use Rattle.std.proofs.Common.{◌≡◌, true, sym, ◌∙◌}
use Rattle.pth_kernel.specs.Kernel.{kernel_of}
use Rattle.pth_io.specs.Attempts.{are_all_live}
use Rattle.pth_io.proofs.Selecting.{answers-ready, answers-past, answers-waits}
use Rattle.pth_io.proofs.select.try_select.Goals as goal

pub returns-then-count-gt0 : goal.returns-then-count-gt0
returns-then-count-gt0 c =
    let live : are_all_live (kernel_of c.args.k.now) c.args.r.0 c.args.w.0 c.args.x.0 ≡ true = cc in
    c.attempt.ensures ∙ answers-ready _ _ _ _ c.args.deadline live c.of-ready.result _ c.of-ready.ensures c.count.ensures c.if-count-gt0.true

pub returns-then-is_past : goal.returns-then-is_past
returns-then-is_past c =
    let live : are_all_live (kernel_of c.args.k.now) c.args.r.0 c.args.w.0 c.args.x.0 ≡ true = cc in
    c.attempt-then-is_past.ensures ∙ answers-past _ _ _ _ c.args.deadline live c.of-ready.result _ c.of-ready.ensures c.count.ensures c.if-count-gt0.false (sym c.is_past.ensures ∙ c.if-is_past.true)

pub returns-else-is_past : goal.returns-else-is_past
returns-else-is_past c =
    let live : are_all_live (kernel_of c.args.k.now) c.args.r.0 c.args.w.0 c.args.x.0 ≡ true = cc in
    answers-waits _ _ _ _ c.args.deadline live c.of-ready.result _ c.of-ready.ensures c.count.ensures c.if-count-gt0.false (sym c.is_past.ensures ∙ c.if-is_past.false)
