use Rattle.std.proofs.Common.{◌≡◌, ◌<◌, ◌∙◌, sym, arith}
use Rattle.std.proofs.lemmas.Int.{ints}
use mir.Syntax.{w64}
use mir.Val.{to_z, of_z}
use Rattle.pth_lock.specs.Objects.{object_named}
use Rattle.pth_lock.specs.Mutexes.{mutexes_of}
use Rattle.pth_world.specs.Store.{name_limit}
use Rattle.pth_world.proofs.Locked.{object_low, mutex_release_is}
use Rattle.pth_world.proofs.world.World.mutex_release_answer.Goals as goal

pub returns : goal.returns
returns g c =
    let w = c.self.inside in
    let sound = rw (← c.self.view_is) at c.requires.sound in
    let e = rw (← c.self.view_is) at c.slot.ensures.slot in
    let is_number : to_z w64 (of_z w64 c.args.m) ≡ c.args.m = omega (arith, ints) in
    let low : object_named c.args.m < name_limit = object_low c.args.m (omega (arith, ints)) in
    rw (← c.self.view_is) ((rw is_number at c.release_answer.ensures) ∙ sym (mutex_release_is w.threads (mutexes_of w.mutexes) c.args.t.0 c.slot.result.0 sound.tied e c.args.m low))
