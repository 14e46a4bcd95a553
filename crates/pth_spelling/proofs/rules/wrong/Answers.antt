use Rattle.std.proofs.Common.{rules, tests, ◌∙◌}
use Rattle.std.proofs.lemmas.Iterator.{YieldsList-from_slice, YieldsList-from_zip}
use Rattle.std.proofs.lemmas.Iterator.Search.{any_from_yields_List}
use Rattle.pth_spelling.specs.FormRules.{misses}
use Rattle.pth_spelling.proofs.Wrong.{wrong_pairs}
use Rattle.pth_spelling.proofs.rules.wrong.Goals as goal

pub returns : goal.returns
returns c =
    any_from_yields_List (λ p. misses c.args.rule p.0 p.1.now) c.any.new.self _ c.any.result c.any.ensures.ran (YieldsList-from_zip (YieldsList-from_slice c.args.forms.now cc) (YieldsList-from_slice c.args.words.now cc)) (λ x b q k. search (rules, tests))
    ∙ wrong_pairs c.args.rule c.args.forms.now c.args.words.now
