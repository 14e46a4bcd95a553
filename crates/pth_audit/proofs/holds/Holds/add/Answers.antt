use Rattle.std.proofs.Common.{◌∙◌, ap, refl, subst}
use Rattle.pth_audit.specs.declared.holds.Effect.{Effect}
use Rattle.pth_audit.specs.declared.holds.AwaitStep.{AwaitStep}
use Rattle.pth_audit.specs.Holds.{IsFair, IsDone, awaits_by, has_awaited}
use Rattle.pth_audit.proofs.Counted.{levels_overflow, no_overflow}
use Rattle.pth_audit.proofs.HoldsSaid.{fair_mark, follows_more}
use Rattle.pth_audit.proofs.holds.Holds.add.Goals as goal

pub returns-then-not-is_countable-clause-overflow : goal.returns-then-not-is_countable-clause-overflow
returns-then-not-is_countable-clause-overflow c = λ over marks f.
    levels_overflow c.args.self.now marks f c.effect-effect.result (λ few. cc (c.if-not-is_countable.ensures.1 few))

pub returns-in_err-carry_out-clause-overflow : goal.returns-in_err-carry_out-clause-overflow
returns-in_err-carry_out-clause-overflow c = no_overflow c.from_residual.result c.from_residual.ensures.1

pub returns-in_err-set_awaiting-clause-overflow : goal.returns-in_err-set_awaiting-clause-overflow
returns-in_err-set_awaiting-clause-overflow c = no_overflow c.from_residual-in_err-set_awaiting.result c.from_residual-in_err-set_awaiting.ensures.1

pub returns-clause-follows : goal.returns-clause-follows
returns-clause-follows c = λ marks follows said.
    follows_more c.args.self.now marks follows c.args.mark.now c.carry_out.new.self _
    (subst (λ (d : Effect). IsFair c.args.self.now d → IsDone c.args.self.now c.carry_out.new.self d) c.effect-effect.ensures (c.in_ok-carry_out.ensures)
    (fair_mark c.args.self.now marks follows c.args.mark.now said))
    refl refl refl
    (λ t. c.in_ok-set_awaiting.ensures t ∙ ap (λ (step : AwaitStep). awaits_by step t (has_awaited c.carry_out.new.self t)) c.step_of.ensures)
