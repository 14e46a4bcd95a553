use Rattle.std.proofs.Common.{sym, ◌∙◌, rules}
use Rattle.std.specs.List.{list_all}
use Rattle.std.proofs.lemmas.Iterator.{YieldsList-from_slice}
use Rattle.std.proofs.lemmas.Iterator.Search.{all_from_yields_List}
use Rattle.pth_script.specs.Labels.{has, one_or_none, goto_in, labels_in}
use Rattle.pth_script.proofs.BodyLabels.{all_gotos}
use Rattle.pth_script.proofs.body.Body.finds_labels.Goals as goal

pub returns : goal.returns
returns c =
    all_from_yields_List (λ l. list_all (λ n. has (labels_in c.args.self.now) n) (one_or_none (goto_in l))) _ _ _ c.all.ensures.ran (YieldsList-from_slice c.args.self.now (c.iter.ensures.rest ∙ c.deref.ensures.value ∙ c.self.view_is)) (λ x b q k. search rules)
    ∙ sym (all_gotos (λ n. has (labels_in c.args.self.now) n) c.args.self.now)
