use Rattle.std.proofs.Common.{◌∙◌}
use Rattle.pth_spelling.proofs.Pairs.{pairs_alone}
use Rattle.pth_spelling.proofs.rules.has_pairs.Goals as goal

pub returns-in-Pairs : goal.returns-in-Pairs
returns-in-Pairs c = c.is_hex.ensures ∙ pairs_alone c.args.form c.args.word.now c.in-Pairs.is
