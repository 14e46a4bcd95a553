use Rattle.std.proofs.Common.{ℕ, Bool, ap}
use Rattle.pth_turns.specs.Judging.{account_in}
use Rattle.pth_turns.proofs.Judging.{one_less}
use Rattle.pth_turns.proofs.judge.TurnJudge.wake.Goals as goal

pub returns : goal.returns
returns c = ap (λ (w : ℕ → Bool). record (account_in c.args.self.now) { waiting = w }) (one_less _ _ c.args.t.0 c.remove.ensures)
