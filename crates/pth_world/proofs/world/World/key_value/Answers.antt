use Rattle.std.proofs.Common.{◌≡◌, ◌<◌, ◌∙◌, sym, arith, rules}
use Rattle.std.proofs.lemmas.Int.{ints}
use mir.Syntax.{w64}
use mir.Val.{to_z, of_z}
use Rattle.pth_lock.specs.Mutexes.{mutexes_of}
use Rattle.pth_lock.specs.RwLocks.{tables_of as locks_of}
use Rattle.pth_store.specs.Cleanups.{stacks_of}
use Rattle.pth_store.specs.Keys.{tables_of, key_named}
use Rattle.pth_world.specs.Store.{name_limit}
use Rattle.pth_world.proofs.Stores.{named_low, get_answer_is}
use Rattle.pth_world.proofs.world.World.key_value.Goals as goal

pub returns : goal.returns
returns g c =
    let w = c.self.inside in
    let e = rw (← c.self.view_is) at c.slot-slot.ensures.slot in
    let few : c.args.t.0 < name_limit = search (arith, rules) in
    let is_key : to_z w64 (of_z w64 c.args.k) ≡ c.args.k = omega (arith, ints) in
    let low : key_named c.args.k < name_limit = named_low c.args.k (omega (arith, ints)) in
    rw (← c.self.view_is) ((rw is_key at c.get.ensures) ∙ sym (get_answer_is w.threads (tables_of w.keys) (stacks_of w.cleanups) (mutexes_of w.mutexes) (locks_of w.rw_locks) w.ports c.args.t.0 c.slot-slot.result.0 e few c.args.k low))
