use Rattle.std.proofs.Common.{◌≡◌, ◌<◌, ◌∙◌, ℕ, Option, Some, None, Result, Ok, Err, ap, arith}
use Rattle.std.proofs.lemmas.Int.{ints}
use mir.Syntax.{w64}
use mir.Val.{to_z, of_z}
use Rattle.pth_base.specs.declared.errno.Errno.{Errno}
use Rattle.pth_base.specs.declared.ids.Slot.{Slot}
use Rattle.pth_lock.specs.Objects.{object_named}
use Rattle.pth_lock.specs.Mutexes.{mutex_owner_answer, mutexes_of}
use Rattle.pth_model.specs.Transition.{tid}
use Rattle.pth_world.specs.Store.{name_limit}
use Rattle.pth_world.proofs.Locked.{object_low, owner_named, owner_used}
use Rattle.pth_world.proofs.Stores.{spare_nothing}
use Rattle.pth_world.proofs.world.World.mutex_owner.Goals as goal

pub thread_in-requires-clause-used : goal.thread_in-requires-clause-used
thread_in-requires-clause-used g c =
    let w = c.self.inside in
    let is_number : to_z w64 (of_z w64 c.args.m) ≡ c.args.m = omega (arith, ints) in
    let low : object_named c.args.m < name_limit = object_low c.args.m (omega (arith, ints)) in
    let answer = rw is_number at c.owner.ensures.answer in
    let nothing = spare_nothing c.args.self.now c.requires in
    let spare = rw (← c.self.view_is) at nothing in
    let owned : Ok (Some c.in-Ok-Some.slot) ≡ mutex_owner_answer (mutexes_of w.mutexes) c.args.m = cc (answer) in
    rw (← c.self.view_is) (owner_used w.threads (mutexes_of w.mutexes) c.args.m c.in-Ok-Some.slot low owned spare.mutexes)

pub returns-in-Ok-Some : goal.returns-in-Ok-Some
returns-in-Ok-Some g c =
    let w = c.self.inside in
    let is_number : to_z w64 (of_z w64 c.args.m) ≡ c.args.m = omega (arith, ints) in
    let low : object_named c.args.m < name_limit = object_low c.args.m (omega (arith, ints)) in
    let answer = rw is_number at c.owner.ensures.answer in
    let owned : Ok (Some c.in-Ok-Some.slot) ≡ mutex_owner_answer (mutexes_of w.mutexes) c.args.m = cc (answer) in
    let named = rw (← c.self.view_is) at c.thread_in.ensures.tid in
    rw (← c.self.view_is) (ap (λ (t : ℕ). Ok (Some (tid t))) named ∙ owner_named w.threads (mutexes_of w.mutexes) c.args.m low (Ok (Some c.in-Ok-Some.slot)) owned)

pub returns-in-Ok-None : goal.returns-in-Ok-None
returns-in-Ok-None g c =
    let w = c.self.inside in
    let is_number : to_z w64 (of_z w64 c.args.m) ≡ c.args.m = omega (arith, ints) in
    let low : object_named c.args.m < name_limit = object_low c.args.m (omega (arith, ints)) in
    let answer = rw is_number at c.owner.ensures.answer in
    let owned : ◌≡◌ {A = Result (Option Slot) Errno} (Ok None) (mutex_owner_answer (mutexes_of w.mutexes) c.args.m) = cc (answer) in
    rw (← c.self.view_is) (owner_named w.threads (mutexes_of w.mutexes) c.args.m low (Ok None) owned)

pub returns-in-Err : goal.returns-in-Err
returns-in-Err g c =
    let w = c.self.inside in
    let is_number : to_z w64 (of_z w64 c.args.m) ≡ c.args.m = omega (arith, ints) in
    let low : object_named c.args.m < name_limit = object_low c.args.m (omega (arith, ints)) in
    let answer = rw is_number at c.owner.ensures.answer in
    let owned : ◌≡◌ {A = Result (Option Slot) Errno} (Err c.in-Err.errno) (mutex_owner_answer (mutexes_of w.mutexes) c.args.m) = cc (answer) in
    rw (← c.self.view_is) (owner_named w.threads (mutexes_of w.mutexes) c.args.m low (Err c.in-Err.errno) owned)
