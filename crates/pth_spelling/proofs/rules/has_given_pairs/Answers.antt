use Rattle.std.proofs.Common.{◌∙◌}
use Rattle.pth_spelling.proofs.Pairs.{pairs_after_hex}
use Rattle.pth_spelling.proofs.rules.has_given_pairs.Goals as goal

pub returns-else-is_empty : goal.returns-else-is_empty
returns-else-is_empty c =
    let cut = c.in-Some.ensures.cases in
    c.is_hex.ensures ∙ pairs_after_hex c.args.word.now c.in-Some.digits.now cut.0 cut.1 c.if-is_empty.ensures
