use Rattle.std.proofs.Common.{ℕ, Bool, None, ap}
use Rattle.std.proofs.lemmas.Result.{on_ok_weaker}
use Rattle.pth_turns.specs.Judging.{account_in}
use Rattle.pth_turns.proofs.Judging.{one_more}
use Rattle.pth_turns.proofs.judge.TurnJudge.wait.Goals as goal

pub returns : goal.returns
returns c = on_ok_weaker c.insert.result (λ d. ap (λ (w : ℕ → Bool). record (account_in c.args.self.now) { running = None; waiting = w }) (one_more _ _ c.args.t.0 d)) c.insert.ensures
