use Rattle.std.proofs.Common.{◌≡◌, ◌∙◌, ℕ, [], Some, ap, to_z-of_z}
use Rattle.pth_base.specs.Table.{put}
use Rattle.pth_lock.specs.Objects.{object_named}
use Rattle.pth_cond.specs.Conditions.{conditions_of}
use Rattle.pth_cond.proofs.SeatingTables.{condition_set, within}
use Rattle.pth_cond.proofs.conditions.Conds.init.Goals as goal

pub returns-clause-changes : goal.returns-clause-changes
returns-clause-changes c =
    let low = within c.self.inside.conditions c.self.invariant c.in-Some.place c.in-Some.ensures.low in
    let named : c.in-Some.place ≡ object_named c.args.c = c.in-Some.ensures.named ∙ ap object_named (to_z-of_z c.ranges.c) in
    rw (← c.self.view_is, c.new.ensures)
    (condition_set c.self.inside.conditions c.in-Some.place low (Some []) ∙ ap (λ (k : ℕ). put (conditions_of c.self.inside.conditions) k (Some [])) named)
