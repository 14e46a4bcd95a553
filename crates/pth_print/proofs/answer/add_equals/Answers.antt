use Rattle.std.proofs.Common.{codes}
use Rattle.std.proofs.lemmas.Result.{err_from_is_err_and}
use Rattle.pth_base.proofs.Cuts.{cut_none}
use Rattle.pth_print.proofs.Cuts.{adds_cut, adds_then}
use Rattle.pth_print.specs.AnswerWords.{answer_words}
use Rattle.pth_print.specs.SpacedWords.{spaced}
use Rattle.pth_print.proofs.answer.add_equals.Goals as goal

pub returns-in_err-push : goal.returns-in_err-push
returns-in_err-push c =
    let p = err_from_is_err_and c.from_residual.result c.from_residual.ensures.1 in
    adds_cut c.args.out.now c.push.new.self (codes " =") (spaced (answer_words c.args.answer.now)) _ p.0 p.1 (cut_none _ _ _ c.in_err-push.ensures.err)

pub returns : goal.returns
returns c =
    adds_then c.args.out.now c.push.new.self c.add_answer.new.out (codes " =") (spaced (answer_words c.args.answer.now)) _ c.in_ok-push.ensures.ok c.add_answer.ensures
