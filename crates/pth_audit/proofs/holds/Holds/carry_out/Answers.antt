use Rattle.std.proofs.Common.{SFits, rules, subst, sym, to_z-of_z, w64}
use Rattle.std.specs.Result.{OnOk}
use Rattle.pth_audit.specs.declared.holds.Effect.{Effect}
use Rattle.pth_audit.specs.Holds.{IsCountable, IsFair, IsDone}
use Rattle.pth_audit.proofs.holds.Holds.carry_out.Goals as goal

pub returns-in-Gives : goal.returns-in-Gives
returns-in-Gives c = subst (λ (d : Effect). OnOk c.give.result (IsFair c.args.self.now d → IsDone c.args.self.now c.give.new.self d)) (sym c.in-Gives.is) (search rules)

pub returns-in-GivesUp : goal.returns-in-GivesUp
returns-in-GivesUp c = subst (λ (d : Effect). OnOk c.give_up.result (IsFair c.args.self.now d → IsDone c.args.self.now c.give_up.new.self d)) (sym c.in-GivesUp.is) (search rules)

pub take-requires : goal.take-requires
take-requires c =
    let i : SFits w64 c.in-Takes.i = search rules in
    let few = subst (IsCountable c.args.self.now) c.in-Takes.is c.requires in
    simp to_z-of_z few
