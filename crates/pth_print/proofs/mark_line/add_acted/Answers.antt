use Rattle.std.proofs.Common.{[], ◌∷◌, codes}
use Rattle.std.proofs.lemmas.Result.{err_from_is_err_and}
use Rattle.pth_print.specs.MarkLines.{acted_words}
use Rattle.pth_print.specs.WordTexts.{tid_word}
use Rattle.pth_print.proofs.Cuts.{joined_cut}
use Rattle.pth_print.proofs.mark_line.add_acted.Goals as goal

pub returns-in_err-add_line : goal.returns-in_err-add_line
returns-in_err-add_line c =
    let p = err_from_is_err_and c.from_residual.result c.from_residual.ensures.1 in
    joined_cut _ _ (tid_word c.args.tid.0) (codes "act" ∷ []) (acted_words c.args.act.now c.args.answer.now) c.from_residual.result p.0 p.1 c.in_err-add_line.ensures.err
