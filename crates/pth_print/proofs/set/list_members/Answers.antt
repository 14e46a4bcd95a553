use Rattle.std.proofs.Common.{arith}
use Rattle.pth_print.proofs.Members.{none_below_zero, listed_more, listed_same}
use Rattle.pth_print.proofs.set.list_members.Goals as goal
use Rattle.pth_print.proofs.set.list_members.Goals.{then-set-f-eq1, else-set-f-eq1}

pub loop-f-init : goal.loop-f-init
loop-f-init c = record { within = omega arith; listed = none_below_zero c.args.set.0 }

pub loop-f-preserved : goal.loop-f-preserved
loop-f-preserved c = elim c.if-set-f-eq1.branch [
  | then-set-f-eq1 w ↦ record {
    within = omega arith;
    listed = rw (w.count-is) (listed_more c.args.set.0 c.loop-f.f c.loop-f.count c.loop-f.members c.if-set-f-eq1.members w.members-is c.if-set-f-eq1.array_long (omega arith) c.loop-f.invariant.listed w.if-set-f-eq1.true);
  }
  | else-set-f-eq1 w ↦ record {
    within = omega arith;
    listed = rw (w.count-is, w.members-is) (listed_same c.args.set.0 c.loop-f.f _ c.loop-f.invariant.listed w.if-set-f-eq1.false);
  }
]
