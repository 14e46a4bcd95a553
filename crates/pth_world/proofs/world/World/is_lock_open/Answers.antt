use Rattle.std.proofs.Common.{◌≡◌, ◌<◌, ◌∙◌, sym, arith}
use Rattle.std.proofs.lemmas.Int.{ints}
use mir.Syntax.{w64}
use mir.Val.{to_z, of_z}
use Rattle.pth_lock.specs.Objects.{object_named}
use Rattle.pth_lock.specs.RwLocks.{tables_of as locks_of}
use Rattle.pth_world.specs.Store.{name_limit}
use Rattle.pth_world.proofs.Locked.{object_low, lock_free_is}
use Rattle.pth_world.proofs.world.World.is_lock_open.Goals as goal

pub returns : goal.returns
returns g c =
    let w = c.self.inside in
    let is_number : to_z w64 (of_z w64 c.args.l) ≡ c.args.l = omega (arith, ints) in
    let low : object_named c.args.l < name_limit = object_low c.args.l (omega (arith, ints)) in
    rw (← c.self.view_is) ((rw is_number at c.is_free.ensures.answer) ∙ sym (lock_free_is w.threads (locks_of w.rw_locks) c.args.write c.args.l low))
