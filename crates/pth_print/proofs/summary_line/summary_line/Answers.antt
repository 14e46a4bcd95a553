use Rattle.std.proofs.Common.{codes}
use Rattle.std.proofs.lemmas.Result.{err_from_is_err_and, on_err_weaker}
use Rattle.pth_print.specs.EndLines.{summary_words}
use Rattle.pth_print.specs.SpacedWords.{joined_words}
use Rattle.pth_base.proofs.Cuts.{cut_none}
use Rattle.pth_print.proofs.Cuts.{adds_cut, adds_then}
use Rattle.pth_print.proofs.summary_line.summary_line.Goals as goal

pub returns-in_err-add_summary-clause-err : goal.returns-in_err-add_summary-clause-err
returns-in_err-add_summary-clause-err c =
    let words = joined_words (summary_words c.args.threads c.args.turns c.args.steps c.args.time) in
    let p = err_from_is_err_and c.from_residual.result c.from_residual.ensures.1 in
    (adds_cut c.args.out.now c.add_summary.new.out words (codes "\n") _ p.0 p.1 c.in_err-add_summary.ensures.err).err

pub returns-clause-err : goal.returns-clause-err
returns-clause-err c =
    let words = joined_words (summary_words c.args.threads c.args.turns c.args.steps c.args.time) in
    (adds_then c.args.out.now c.add_summary.new.out c.push.new.self words (codes "\n") _ c.in_ok-add_summary.ensures.ok
    (record { ok = c.push.ensures.ok; err = on_err_weaker c.push.result (λ e. cut_none _ _ _ e) c.push.ensures.err })).err
