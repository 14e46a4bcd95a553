use Rattle.std.proofs.Common.{◌∙◌, ap, int_cmp, w64, Option, subst}
use Rattle.std.specs.Bool.{Decides}
use Rattle.std.specs.BTreeMap.{get}
use Rattle.std.proofs.lemmas.Int.{to_z-of_z}
use Rattle.pth_audit.specs.declared.holds.Owner.{Owner}
use Rattle.pth_audit.proofs.HoldsMaps.{IsFree}
use Rattle.pth_audit.proofs.holds.Holds.may_take.Goals as goal

pub returns : goal.returns
returns c =
    subst (λ (w : Option Owner). Decides c.is_free_for.result (IsFree c.args.t w))
    (c.owner.ensures ∙ ap (get int_cmp c.args.self.now.owners) (to_z-of_z w64 c.args.i c.ranges.i)) c.is_free_for.ensures
