use Rattle.std.proofs.Common.{Some, subst, ℤ}
use Rattle.std.specs.BTreeMap.{UpdatesBy}
use Rattle.std.proofs.lemmas.Int.{to_z-of_z}
use Rattle.pth_audit.specs.Endings.{pair_cmp}
use Rattle.pth_audit.proofs.Places.{value_after_change}
use Rattle.pth_audit.proofs.values.put_at.Goals as goal

pub returns : goal.returns
returns c = value_after_change c.args.values.now c.insert.new.self c.args.place.0 c.args.place.1 (Some c.args.v)
    (subst (λ (v : ℤ). UpdatesBy pair_cmp (pair_cmp (c.args.place.0, c.args.place.1)) c.args.values.now c.insert.new.self (Some v)) (to_z-of_z _ _ c.ranges.v) c.in_ok-_old.ensures.updates)
