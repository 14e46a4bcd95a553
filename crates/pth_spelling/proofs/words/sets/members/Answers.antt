use Rattle.std.proofs.Common.{rules, tests, ◌==◌, ◌∙◌, ap, sym, refl, arith}
use Rattle.std.specs.List.{slice_split}
use Rattle.std.specs.Slice.Iter.{split_rest, split_done}
use Rattle.std.proofs.lemmas.Iterator.Splits.{YieldsList-from_slice_split}
use Rattle.pth_text.specs.Bytes.{code}
use Rattle.pth_spelling.proofs.Sets.{none_before, all_read, refused, low_refused, taken}
use Rattle.pth_spelling.proofs.words.sets.members.Goals as goal

pub loop-part-init : goal.loop-part-init
loop-part-init c =
    let same = c.into_iter-part-iterator.ensures.into_iter_gives in
    record {
      parts = slice_split (λ b. b == code ",") c.args.word.now;
      come = (YieldsList-from_slice_split _ (λ b. b == code ",") c.args.word.now (ap split_rest same ∙ c.split-part-items.ensures.rest) (ap split_done same ∙ c.split-part-items.ensures.done) refl (λ x b q k. search (rules, tests))).runs;
      lead = none_before _;
      small = omega arith;
    }

pub returns-in_err-k : goal.returns-in_err-k
returns-in_err-k c = c.from_residual.ensures ∙ refused _ _ c.next.new.self _ _ _ c.loop-part.invariant c.in-Some.part c.in-Some.ensures.steps (sym c.in_err-k.ensures)

pub returns-then-k-least : goal.returns-then-k-least
returns-then-k-least c = low_refused _ _ c.next.new.self _ _ _ c.loop-part.invariant c.in-Some.part c.in_ok-k.k c.in-Some.ensures.steps (sym c.in_ok-k.ensures) c.if-k-least.true

pub loop-part-preserved : goal.loop-part-preserved
loop-part-preserved c = taken _ _ c.next.new.self _ _ _ c.loop-part.invariant c.in-Some.part c.in_ok-k.k c.in-Some.ensures.steps (sym c.in_ok-k.ensures) c.if-k-least.false

pub returns : goal.returns
returns c = all_read _ _ c.next.new.self _ _ _ c.loop-part.invariant c.in-None.ensures.steps
