use Rattle.std.proofs.Common.{◌∙◌, ap, List, ℕ, ◌++◌}
use Rattle.std.proofs.lemmas.Result.{err_from_is_err_and}
use Rattle.pth_base.proofs.Cuts.{cut_none}
use Rattle.pth_print.proofs.Cuts.{adds_cut, adds_then}
use Rattle.pth_print.specs.FaultLines.{told_fault}
use Rattle.pth_print.proofs.fault_line.fault_line.Goals as goal

pub returns-in_err-push : goal.returns-in_err-push
returns-in_err-push c =
    let p = err_from_is_err_and c.from_residual.result c.from_residual.ensures.1 in
    adds_cut c.args.out.now c.push.new.self c.args.program.now (told_fault c.args.f) _ p.0 p.1 (cut_none _ _ _ c.in_err-push.ensures.err)

pub returns : goal.returns
returns c =
    adds_then c.args.out.now c.push.new.self c.add_told.new.out c.args.program.now (told_fault c.args.f) _
    (c.in_ok-push.ensures.ok ∙ ap (λ (t : List ℕ). c.args.out.now ++ t) c.as_bytes.ensures.value) c.add_told.ensures
