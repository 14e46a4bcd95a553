use Rattle.std.proofs.Common.{sym, ◌∙◌}
use Rattle.pth_turns.proofs.Judging.{follows_more, refuses_more}
use Rattle.pth_turns.proofs.judge.TurnJudge.add.Goals as goal

pub returns-then-not-is_allowed-clause-judged : goal.returns-then-not-is_allowed-clause-judged
returns-then-not-is_allowed-clause-judged c = λ marks f. refuses_more c.args.self.now marks c.args.mark.now (sym c.is_allowed.ensures ∙ c.if-not-is_allowed.true) f

pub returns-clause-judged : goal.returns-clause-judged
returns-clause-judged c = λ marks f. follows_more c.args.self.now c.take.new.self marks c.args.mark.now (sym c.is_allowed.ensures ∙ c.if-not-is_allowed.false) c.in_ok-take.ensures f
