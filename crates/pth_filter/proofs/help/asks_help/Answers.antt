use Rattle.std.proofs.Common.{◌∙◌, string_bytes, sym}
use Rattle.pth_filter.proofs.AskedHelp.{at_end, at_word, found, found_both}
use Rattle.pth_filter.proofs.help.asks_help.Goals as goal

pub returns-then-eq : goal.returns-then-eq
returns-then-eq c =
    let at = at_word string_bytes c.args.words.now c.loop-word.word-index c.word-item.result c.loop-word-test.true c.word-item.is in
    sym (c.loop-word.invariant ∙ at ∙ found _ _ _ _ c.as_str.ensures.value c.if-eq.ensures)

pub returns-then-is_help : goal.returns-then-is_help
returns-then-is_help c =
    let at = at_word string_bytes c.args.words.now c.loop-word.word-index c.word-item.result c.loop-word-test.true c.word-item.is in
    sym (c.loop-word.invariant ∙ at ∙ found_both _ _ _ _ _ _ c.as_str.ensures.value c.if-eq.ensures c.as_str-in-loop-word.ensures.value c.if-is_help.ensures)

pub loop-word-preserved : goal.loop-word-preserved
loop-word-preserved c =
    let at = at_word string_bytes c.args.words.now c.loop-word.word-index c.word-item.result c.loop-word-test.true c.word-item.is in
    c.loop-word.invariant ∙ at ∙ found_both _ _ _ _ _ _ c.as_str.ensures.value c.if-eq.ensures c.as_str-in-loop-word.ensures.value c.if-is_help.ensures

pub returns : goal.returns
returns c = sym (c.loop-word.invariant ∙ at_end string_bytes c.args.words.now c.loop-word.word-index c.loop-word-test.false)
