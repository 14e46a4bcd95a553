use Rattle.std.proofs.Common.{Bool, sym, subst, take}
use Rattle.std.proofs.lemmas.Bool.{true≢false}
use Rattle.pth_turns.specs.Judging.{IsJudged}
use Rattle.pth_turns.proofs.Judging.{broken_there}
use Rattle.pth_turns.proofs.judge.are_in_turns.Goals as goal

pub returns-then-not-branch : goal.returns-then-not-branch
returns-then-not-branch c = (
  λ odd. absurd (true≢false (sym odd)),
  λ all. absurd (broken_there c.args.marks.now c.loop-mark.mark-index c.mark-item.result c.loop-mark-test.true c.mark-item.is (subst (λ (b : Bool). IsJudged b c.add.new.self (take c.loop-mark.mark-index c.args.marks.now) c.mark-item.result) c.if-not-branch.true (c.in_ok-add.ensures.judged (take c.loop-mark.mark-index c.args.marks.now) c.loop-mark.invariant)) all),
)
