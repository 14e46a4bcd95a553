use Rattle.std.proofs.Common.{◌∙◌, ap, to_z-of_z}
use Rattle.pth_store.specs.Keys.{key_named}
use Rattle.pth_store.proofs.Calls.{kept-deleted, shown-deleted}
use Rattle.pth_store.proofs.keys.Keys.delete.Goals as goal

pub invariant_of-self : goal.invariant_of-self
invariant_of-self c = kept-deleted c.self.inside.keys _ c.self.invariant c.in-Ok.key c.in-Ok.ensures.low _ c.clear_column.ensures

pub returns-in-Ok-clause-changes : goal.returns-in-Ok-clause-changes
returns-in-Ok-clause-changes c =
    let named = c.in-Ok.ensures.named ∙ ap key_named (to_z-of_z c.ranges.k) in
    rw (← c.self.view_is) (shown-deleted c.self.inside.keys _ c.self.invariant c.in-Ok.key c.in-Ok.ensures.low _ (key_named c.args.k) named c.clear_column.ensures)
