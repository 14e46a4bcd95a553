use Rattle.std.proofs.lemmas.Result.{err_from_is_err_and}
use Rattle.pth_print.proofs.Cuts.{adds_cut}
use Rattle.pth_print.proofs.mark_line.add_call_of.Goals as goal

pub returns-in_err-add_word : goal.returns-in_err-add_word
returns-in_err-add_word c =
    let p = err_from_is_err_and c.from_residual.result c.from_residual.ensures.1 in
    adds_cut _ _ _ _ c.from_residual.result p.0 p.1 c.in_err-add_word.ensures.err
