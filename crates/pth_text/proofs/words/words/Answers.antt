use Rattle.std.proofs.Common.{rules, tests, ◌==◌, ◌∙◌, ap, refl, map}
use Rattle.std.specs.Slice.Iter.{split_rest, split_done}
use Rattle.std.proofs.lemmas.Iterator.Splits.{YieldsList-from_slice_split}
use Rattle.std.proofs.lemmas.Iterator.Consumers.{YieldsList-end}
use Rattle.pth_text.specs.Bytes.{code}
use Rattle.pth_text.proofs.words.words.Goals as goal

pub returns : goal.returns
returns c =
    let same = c.into_iter-word-iterator.ensures.into_iter_gives in
    let all = YieldsList-from_slice_split _ (λ b. b == code " ") c.args.line.now (ap split_rest same ∙ c.split-word-items.ensures.rest) (ap split_done same ∙ c.split-word-items.ensures.done) refl (λ x b q k. search (rules, tests)) in
    ap (λ ws. map (λ w. w.now) ws) c.loop-word.invariant ∙ (YieldsList-end all c.loop-word.yielded _ c.loop-word.yielded_by _ _ c.in-None.is c.next.ensures.steps).0
