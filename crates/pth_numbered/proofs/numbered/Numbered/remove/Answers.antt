use Rattle.std.proofs.Common.{refl}
use Rattle.pth_numbered.proofs.Slots.{holds, thing_is, removes, kept_removed}
use Rattle.pth_numbered.proofs.numbered.Numbered.remove.Goals as goal

pub remove-gone-requires : goal.remove-gone-requires
remove-gone-requires g c = holds _ c.args.s.0 (rw (← c.self.view_is) at c.requires)

pub invariant_of-self : goal.invariant_of-self
invariant_of-self g c = kept_removed _ c.self.inside.records c.remove-gone.new.self c.self.inside.index c.remove-slot.new.self c.args.s.0 c.remove-gone.result c.self.invariant refl refl (rw (← c.self.view_is) at c.requires) c.remove-gone.ensures.value c.remove-gone.ensures.updates c.remove-gone.ensures.len c.remove-slot.ensures.updates

pub returns-clause-thing : goal.returns-clause-thing
returns-clause-thing g c = rw (← c.self.view_is) (thing_is _ c.args.s.0 _ c.remove-gone.ensures.value)

pub returns-clause-removes : goal.returns-clause-removes
returns-clause-removes g c = rw (← c.self.view_is) (removes _ c.self.inside.records c.remove-gone.new.self c.self.inside.index c.remove-slot.new.self c.args.s.0 c.remove-gone.result c.self.invariant refl refl (rw (← c.self.view_is) at c.requires) c.remove-gone.ensures.value c.remove-gone.ensures.updates c.remove-gone.ensures.len c.remove-slot.ensures.updates)

pub returns-clause-kept : goal.returns-clause-kept
returns-clause-kept g c = invariant_of-self g c
