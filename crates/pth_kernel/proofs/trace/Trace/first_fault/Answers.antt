use Rattle.std.proofs.Common.{sym, ◌∙◌, subst, arith}
use Rattle.pth_kernel.specs.Rules.{Knows}
use Rattle.pth_kernel.proofs.Knowing.{above_at, above_next, walk-fault, walk-step, walk-end}
use Rattle.pth_kernel.proofs.trace.Trace.first_fault.Goals as goal

pub returns-then-faults : goal.returns-then-faults
returns-then-faults c =
    let ss = c.deref-stamp-items.result.now in
    let k = c.loop-i.invariant in
    let broken = sym (c.faults.ensures c.args.live.0 (above_at ss c.loop-i.i) k.knows) ∙ c.if-faults.true in
    sym (walk-fault c.args.live.0 ss c.loop-i.i c.stamp-item.result (omega arith) c.stamp-item.is broken) ∙ k.same

pub loop-i-preserved : goal.loop-i-preserved
loop-i-preserved c =
    let ss = c.deref-stamp-items.result.now in
    let k = c.loop-i.invariant in
    let s = c.stamp-item.result in
    let fine = sym (c.faults.ensures c.args.live.0 (above_at ss c.loop-i.i) k.knows) ∙ c.if-faults.false in
    record {
      items = k.items;
      knows = subst (Knows c.go_on.new.self c.args.live.0) (sym (above_next c.args.live.0 ss c.loop-i.i s (omega arith) c.stamp-item.is)) (c.go_on.ensures c.args.live.0 (above_at ss c.loop-i.i) k.knows fine);
      same = sym (walk-step c.args.live.0 ss c.loop-i.i s (omega arith) c.stamp-item.is fine) ∙ k.same;
    }

pub returns : goal.returns
returns c = sym (walk-end c.args.live.0 c.deref-stamp-items.result.now c.loop-i.i (omega arith)) ∙ c.loop-i.invariant.same
