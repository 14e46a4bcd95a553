use Rattle.std.proofs.Common.{[], ◌∷◌}
use Rattle.std.proofs.lemmas.Result.{err_from_is_err_and}
use Rattle.pth_print.specs.CallWords.{call_words}
use Rattle.pth_print.specs.WordTexts.{tid_word}
use Rattle.pth_print.proofs.Cuts.{joined_cut, joined_then}
use Rattle.pth_print.proofs.mark_line.add_call_and.Goals as goal

pub returns-in_err-add_call_of : goal.returns-in_err-add_call_of
returns-in_err-add_call_of c =
    let p = err_from_is_err_and c.from_residual.result c.from_residual.ensures.1 in
    joined_cut _ _ (tid_word c.args.tid.0) (call_words c.args.call.now) (c.args.word.now ∷ []) c.from_residual.result p.0 p.1 c.in_err-add_call_of.ensures.err

pub returns : goal.returns
returns c = joined_then _ _ _ (tid_word c.args.tid.0) (call_words c.args.call.now) (c.args.word.now ∷ []) c.add_words.result c.in_ok-add_call_of.ensures.ok c.add_words.ensures
