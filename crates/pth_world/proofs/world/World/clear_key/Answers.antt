use Rattle.std.proofs.Common.{refl, ◌<◌, ◌∙◌, pos, sym, ap, subst, arith, rules}
use Rattle.pth_lock.specs.Mutexes.{mutexes_of}
use Rattle.pth_lock.specs.RwLocks.{tables_of as locks_of}
use Rattle.pth_store.specs.Cleanups.{stacks_of}
use Rattle.pth_store.specs.Keys.{Tables, tables_of}
use Rattle.pth_model.specs.Store.{Store}
use Rattle.pth_world.specs.Store.{name_limit, store_of, stored_by, HasNothing}
use Rattle.pth_world.proofs.Stores.{alive_apart, alive_known, value_put, nothing_set, stored_keeps}
use Rattle.pth_world.proofs.world.World.clear_key.Goals as goal

pub slot-slot-requires : goal.slot-slot-requires
slot-slot-requires g c = alive_known c.args.self.now.threads c.args.t.0 c.requires.alive

pub returns-clause-changes : goal.returns-clause-changes
returns-clause-changes g c =
    let w = c.self.inside in
    let sound = rw (← c.self.view_is) at c.requires.sound in
    let e = rw (← c.self.view_is) at c.slot-slot.ensures.slot in
    let few : c.args.t.0 < name_limit = search (arith, rules) in
    let low : c.args.k < name_limit = search (arith, rules) in
    rw (← c.self.view_is) (ap (λ (y : Tables). store_of (stored_by w.threads y (stacks_of w.cleanups) (mutexes_of w.mutexes) (locks_of w.rw_locks) w.ports)) c.unset.ensures
    ∙ value_put w.threads (tables_of w.keys) (stacks_of w.cleanups) (mutexes_of w.mutexes) (locks_of w.rw_locks) w.ports c.args.t.0 c.slot-slot.result.0 sound.tied e few c.args.k (pos 0) low)

pub returns-clause-keeps : goal.returns-clause-keeps
returns-clause-keeps g c =
    let w = c.self.inside in
    let changes = rw (← c.self.view_is) at (returns-clause-changes g c) in
    let alive = rw (← c.self.view_is) at c.requires.alive in
    rw (← c.self.view_is) (stored_keeps _ _ refl (λ u dead h. subst (λ (s : Store). HasNothing s u) (sym changes) (nothing_set _ c.args.t.0 u c.args.k (pos 0) (alive_apart w.threads c.args.t.0 u alive dead) h)))
