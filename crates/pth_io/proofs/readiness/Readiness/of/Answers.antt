use Rattle.std.proofs.Common.{ℕ, Bool, refl, sym, ◌∙◌}
use Rattle.pth_kernel.specs.Kernel.{kernel_of}
use Rattle.pth_io.specs.Readiness.{is_ready}
use Rattle.pth_io.proofs.Found.{found-none, found-same, found-more, those-with, those-apart, those-without}
use Rattle.pth_io.proofs.readiness.Readiness.of.Goals as goal
use Rattle.pth_io.proofs.readiness.Readiness.of.Goals.{then-contains+then-holds, else-contains, else-contains-via-then-contains+else-holds, else-contains-via-else-contains}

pub loop-f-init : goal.loop-f-init
loop-f-init c = found-none (is_ready c.args.self (kernel_of c.args.k.now)) c.args.set.0 _ refl refl

pub loop-f-preserved : goal.loop-f-preserved
loop-f-preserved c =
    let is : ℕ → Bool = is_ready c.args.self (kernel_of c.args.k.now) in
    elim c.if-contains.branch [
      | then-contains+then-holds w ↦ rw w.found-is (found-more c.loop-f.found c.loop-f.f _ c.loop-f.invariant w.add.new.self _ w.add.ensures.set w.add.ensures.count (those-with is c.args.set.0 c.loop-f.f (sym c.contains.ensures ∙ w.if-contains.true) (sym w.holds.ensures ∙ w.if-holds.true)))
      | else-contains w ↦ rw w.found-is (elim w.else-contains.branch [
        | else-contains-via-then-contains+else-holds v ↦ found-same c.loop-f.found c.loop-f.f _ c.loop-f.invariant _ (those-apart is c.args.set.0 c.loop-f.f (sym c.contains.ensures ∙ v.if-contains.true) (sym v.holds.ensures ∙ v.if-holds.false))
        | else-contains-via-else-contains v ↦ found-same c.loop-f.found c.loop-f.f _ c.loop-f.invariant _ (those-without is c.args.set.0 c.loop-f.f (sym c.contains.ensures ∙ v.if-contains.false))
      ])
    ]
