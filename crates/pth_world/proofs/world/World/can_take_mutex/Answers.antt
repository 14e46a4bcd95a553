use Rattle.std.proofs.Common.{◌≡◌, ◌<◌, ◌∙◌, Result, ap, is_ok, sym, arith}
use Rattle.std.proofs.lemmas.Int.{ints}
use mir.Syntax.{w64}
use mir.Val.{to_z, of_z}
use Rattle.pth_base.specs.declared.errno.Errno.{Errno}
use Rattle.pth_lock.specs.Objects.{object_named}
use Rattle.pth_lock.specs.Mutexes.{mutexes_of}
use Rattle.pth_world.specs.Store.{name_limit}
use Rattle.pth_world.proofs.Locked.{object_low, mutex_take_is}
use Rattle.pth_world.proofs.world.World.can_take_mutex.Goals as goal

pub returns : goal.returns
returns g c =
    let w = c.self.inside in
    let sound = rw (← c.self.view_is) at c.requires.sound in
    let e = rw (← c.self.view_is) at c.slot.ensures.slot in
    let is_number : to_z w64 (of_z w64 c.args.m) ≡ c.args.m = omega (arith, ints) in
    let low : object_named c.args.m < name_limit = object_low c.args.m (omega (arith, ints)) in
    rw (← c.self.view_is) ((rw is_number at c.may_take.ensures) ∙ ap (λ (r : Result (Unit {0}) Errno). is_ok r) (sym (mutex_take_is w.threads (mutexes_of w.mutexes) c.args.t.0 c.slot.result.0 sound.tied e c.args.m low)))
