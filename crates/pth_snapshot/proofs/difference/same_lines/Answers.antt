use Rattle.std.proofs.Common.{◌+◌, ◌∙◌, sym, ap, ◌∷◌, drop, get_or, arith}
use Rattle.std.proofs.lemmas.Bool.Decides.{nat_tests}
use Rattle.std.proofs.lemmas.List.{drop_more}
use Rattle.pth_snapshot.proofs.Differences.{leaves_more, differ_here, differ_at_end, one_ends}
use Rattle.pth_snapshot.proofs.difference.same_lines.Goals as goal
use Rattle.pth_snapshot.proofs.difference.same_lines.Goals.{then-a-i-eq10, else-a-i-eq10}

pub returns-then-a-i-clause-differ : goal.returns-then-a-i-clause-differ
returns-then-a-i-clause-differ c =
    differ_here c.args.a.now c.args.b.now c.loop-i.i c.loop-i.lines _ _ (drop_more c.args.a.now c.loop-i.i 0 (omega arith)) (drop_more c.args.b.now c.loop-i.i 0 (omega arith))
    (λ same. c.if-a-i.true same) c.loop-i.invariant

pub loop-i-preserved : goal.loop-i-preserved
loop-i-preserved c =
    leaves_more c.args.a.now c.args.b.now c.loop-i.i c.loop-i.lines c.if-a-i-eq10.lines (get_or c.args.a.now c.loop-i.i 0) (drop_more c.args.a.now c.loop-i.i 0 (omega arith))
    (drop_more c.args.b.now c.loop-i.i 0 (omega arith) ∙ ap (λ x. x ∷ drop (c.loop-i.i + 1) c.args.b.now) (sym c.if-a-i.false))
    (elim c.if-a-i-eq10.branch [
      | then-a-i-eq10 w ↦ (let h = w.if-a-i-eq10.true in let e = w.lines-is in grind (arith, nat_tests))
      | else-a-i-eq10 w ↦ (let h = w.if-a-i-eq10.false in let e = w.lines-is in grind (arith, nat_tests))
    ])
    c.loop-i.invariant

pub returns-clause-differ : goal.returns-clause-differ
returns-clause-differ c = differ_at_end c.args.a.now c.args.b.now c.loop-i.i c.loop-i.lines (one_ends c.args.a.now c.args.b.now c.loop-i.i (omega arith)) c.loop-i.invariant
