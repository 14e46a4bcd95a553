use Rattle.std.proofs.Common.{subst}
use Rattle.std.specs.Bool.{Decides}
use Rattle.std.proofs.lemmas.Bool.Decides.{Decides-like}
use Rattle.pth_audit.specs.declared.holds.Effect.{Effect}
use Rattle.pth_audit.specs.Holds.{IsFair}
use Rattle.pth_audit.proofs.HoldsSaid.{fair_mark, exclusive_effect}
use Rattle.pth_audit.proofs.holds.Holds.is_lawful.Goals as goal

pub returns : goal.returns
returns c =
    λ marks follows.
    Decides-like c.is_fair.result (exclusive_effect c.args.self.now marks follows c.args.mark.now) (fair_mark c.args.self.now marks follows c.args.mark.now)
    (subst (λ (d : Effect). Decides c.is_fair.result (IsFair c.args.self.now d)) c.effect.ensures c.is_fair.ensures)
