use Rattle.std.proofs.Common.{rules, tests, ◌∙◌}
use Rattle.std.proofs.lemmas.Iterator.{YieldsList-from_slice, YieldsList-from_zip}
use Rattle.std.proofs.lemmas.Iterator.Search.{all_from_yields_List}
use Rattle.pth_spelling.specs.FormRules.{is_fine}
use Rattle.pth_spelling.proofs.Wrong.{fine_pairs}
use Rattle.pth_spelling.proofs.rules.are_fine.Goals as goal

pub returns : goal.returns
returns c =
    all_from_yields_List (λ p. is_fine p.0 p.1.now) c.all.new.self _ c.all.result c.all.ensures.ran (YieldsList-from_zip (YieldsList-from_slice c.args.forms.now cc) (YieldsList-from_slice c.args.words.now cc)) (λ x b q k. search (rules, tests))
    ∙ fine_pairs c.args.forms.now c.args.words.now
