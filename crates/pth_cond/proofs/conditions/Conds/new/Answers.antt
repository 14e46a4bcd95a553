use Rattle.std.proofs.Common.{◌≡◌, ℕ, ◌<◌, None, get_or, rules}
use Rattle.pth_lock.specs.Objects.{object_limit}
use Rattle.pth_cond.proofs.SeatingTables.{kept_none, conditions_none}
use Rattle.pth_cond.proofs.conditions.Conds.new.Goals as goal

pub invariant_of-result : goal.invariant_of-result
invariant_of-result c =
    let none : (k : ℕ) → k < object_limit → get_or c.from_fn.result k None ≡ None = λ k low. let called = c.from_fn.ensures.items.at k None low in search rules in
    kept_none c.from_fn.result c.from_fn.ensures.items.long none

pub returns : goal.returns
returns c =
    let none : (k : ℕ) → k < object_limit → get_or c.from_fn.result k None ≡ None = λ k low. let called = c.from_fn.ensures.items.at k None low in search rules in
    conditions_none c.from_fn.result c.from_fn.ensures.items.long none
