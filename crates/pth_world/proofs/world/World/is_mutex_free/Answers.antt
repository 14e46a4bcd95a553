use Rattle.std.proofs.Common.{◌≡◌, ◌<◌, ◌∙◌, sym, arith}
use Rattle.std.proofs.lemmas.Int.{ints}
use mir.Syntax.{w64}
use mir.Val.{to_z, of_z}
use Rattle.pth_lock.specs.Objects.{object_named}
use Rattle.pth_lock.specs.Mutexes.{mutexes_of}
use Rattle.pth_world.specs.Store.{name_limit}
use Rattle.pth_world.proofs.Locked.{object_low, mutex_free_is}
use Rattle.pth_world.proofs.world.World.is_mutex_free.Goals as goal

pub returns : goal.returns
returns g c =
    let w = c.self.inside in
    let is_number : to_z w64 (of_z w64 c.args.m) ≡ c.args.m = omega (arith, ints) in
    let low : object_named c.args.m < name_limit = object_low c.args.m (omega (arith, ints)) in
    rw (← c.self.view_is) ((rw is_number at c.is_free.ensures) ∙ sym (mutex_free_is w.threads (mutexes_of w.mutexes) c.args.m low))
