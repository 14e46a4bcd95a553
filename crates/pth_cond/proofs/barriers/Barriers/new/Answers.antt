use Rattle.std.proofs.Common.{None, rules}
use Rattle.pth_cond.proofs.BarrierTables.{none_is, kept_none}
use Rattle.pth_cond.proofs.barriers.Barriers.new.Goals as goal

pub invariant_of-result : goal.invariant_of-result
invariant_of-result c =
    let ys = c.from_fn.result in
    kept_none ys c.from_fn.ensures.items.long (none_is ys c.from_fn.ensures.items.long (λ b low. let call = c.from_fn.ensures.items.at b None low in search rules))

pub returns : goal.returns
returns c =
    let ys = c.from_fn.result in
    none_is ys c.from_fn.ensures.items.long (λ b low. let call = c.from_fn.ensures.items.at b None low in search rules)
