use Rattle.std.proofs.Common.{◌<◌, ◌∙◌, Some, None, length, refl, sym, arith, length-set}
use Rattle.pth_base.specs.Table.{table}
use Rattle.pth_lock.specs.Sets.{contains}
use Rattle.pth_lock.proofs.Sweeps.{changed_none, changed_more}
use Rattle.pth_lock.proofs.mutexes.free_each.Goals as goal

pub loop-left-preserved : goal.loop-left-preserved
loop-left-preserved c =
    let long = c.loop-left.invariant.long in
    let low : c.first-m.result < length c.loop-left.mutexes = omega (arith, c.first-m.ensures.low) in
    record {
      long = length-set c.loop-left.mutexes c.first-m.result (Some None) ∙ long;
      free = changed_more (λ _. Some None) c.loop-left.mutexes None (contains c.loop-left.left) _ c.first-m.result (Some None) low c.first-m.ensures.member c.without-left.ensures.objects refl ∙ c.loop-left.invariant.free;
    }

pub returns-clause-free : goal.returns-clause-free
returns-clause-free c = sym (changed_none (λ _. Some None) (table None c.loop-left.mutexes) c.loop-left.left (omega arith)) ∙ c.loop-left.invariant.free
