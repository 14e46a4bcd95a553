use Rattle.std.proofs.Common.{ℕ, List, ◌++◌, codes}
use Rattle.std.proofs.lemmas.Result.{err_from_is_err_and}
use Rattle.pth_base.proofs.Cuts.{cut_none, cut_then}
use Rattle.pth_print.proofs.Cuts.{cut_at}
use Rattle.pth_print.specs.WordTexts.{word_text}
use Rattle.pth_print.specs.declared.word.Word.{Word}
use Rattle.pth_print.specs.declared.word.Word.TheVariants.{Natural}
use Rattle.pth_print.proofs.word.add_words.Goals as goal

abbrev spaced_word : Word → List ℕ
spaced_word word = codes " " ++ word_text word

pub returns-in_err-push : goal.returns-in_err-push
returns-in_err-push c =
    let p = err_from_is_err_and c.from_residual.result c.from_residual.ensures.1 in
    rw (p.1) (record { ok = tt; err = cut_at spaced_word c.args.words.now c.args.out.now c.loop-word.out _ c.loop-word.word-index (Natural 0) c.loop-word-test.true c.loop-word.invariant (cut_none _ _ _ c.in_err-push.ensures.err) })

pub returns-in_err-add_word : goal.returns-in_err-add_word
returns-in_err-add_word c =
    let p = err_from_is_err_and c.from_residual-in_err-add_word.result c.from_residual-in_err-add_word.ensures.1 in
    rw (p.1) (record { ok = tt; err = cut_at spaced_word c.args.words.now c.args.out.now c.loop-word.out _ c.loop-word.word-index _ c.loop-word-test.true c.loop-word.invariant (cut_then _ _ _ _ _ c.in_ok-push.ensures.ok c.in_err-add_word.ensures.err) })
