use Rattle.std.proofs.Common.{ℕ, Bool, true, ◌∙◌, ap, ap₂}
use Rattle.std.proofs.lemmas.Result.{on_ok_weaker}
use Rattle.pth_base.specs.Table.{put}
use Rattle.pth_turns.specs.Turns.{Account}
use Rattle.pth_turns.proofs.Judging.{more_beside}
use Rattle.pth_turns.proofs.judge.TurnJudge.end.Goals as goal

pub returns : goal.returns
returns c = on_ok_weaker c.insert.result (λ d. ap₂ (λ (a : Account) (f : ℕ → Bool). record a { ended = f }) c.stop.ensures.account (more_beside _ _ _ c.args.t.0 d ∙ ap (λ (f : ℕ → Bool). put f c.args.t.0 true) c.stop.ensures.ended)) c.insert.ensures
