use Rattle.std.proofs.Common.{◌<◌, ◌∙◌, None, length, sym, arith, length-set}
use Rattle.pth_base.specs.Table.{table}
use Rattle.pth_lock.specs.Sets.{contains}
use Rattle.pth_lock.specs.RwLocks.{left_lock}
use Rattle.pth_lock.proofs.Sweeps.{changed_none, changed_more}
use Rattle.pth_lock.proofs.rwlocks.leave_each.Goals as goal

pub loop-rest-preserved : goal.loop-rest-preserved
loop-rest-preserved c =
    let long = c.loop-rest.invariant.long in
    let low : c.first-l.result < length c.loop-rest.locks = omega (arith, c.first-l.ensures.low) in
    record {
      long = length-set c.loop-rest.locks c.first-l.result c.left.result ∙ long;
      left = changed_more left_lock c.loop-rest.locks None (contains c.loop-rest.rest) _ c.first-l.result c.left.result low c.first-l.ensures.member c.without-rest.ensures.objects c.left.ensures ∙ c.loop-rest.invariant.left;
    }

pub returns-clause-left : goal.returns-clause-left
returns-clause-left c = sym (changed_none left_lock (table None c.loop-rest.locks) c.loop-rest.rest (omega arith)) ∙ c.loop-rest.invariant.left
