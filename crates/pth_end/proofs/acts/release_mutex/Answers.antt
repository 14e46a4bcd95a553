use Rattle.std.proofs.Common.{refl, ap, SFits, w64, to_z-of_z, rules}
use Rattle.pth_model.specs.Store.{Store, with_mutexes}
use Rattle.pth_world.proofs.Stores.{either}
use Rattle.pth_world.specs.Store.{store_of}
use Rattle.pth_world.specs.World.{WorldOf}
use Rattle.pth_base.specs.declared.call.Call.TheVariants.{MutexRelease}
use Rattle.pth_lock.specs.Mutexes.{mutex_release_answer, mutex_released}
use Rattle.pth_lock.specs.Objects.{object_named}
use Rattle.pth_end.proofs.Acting.{done_told, release_tells}
use Rattle.pth_end.proofs.Handled.{handled_stored}
use Rattle.pth_end.proofs.acts.release_mutex.Goals as goal

pub returns-clause-told : goal.returns-clause-told
returns-clause-told g c =
    let m : SFits w64 c.args.m = search rules in
    let call = simp to_z-of_z at c.release_mutex.ensures in
    done_told c.args.w.now c.release_mutex.new.self c.args.t call.keeps.shows (MutexRelease c.args.m) (λ x. mutex_release_answer x.mutexes c.args.t.0 c.args.m) (with_mutexes (mutex_released c.args.t.0 (object_named c.args.m))) (release_tells c.args.t c.args.m) refl c.release_mutex.result c.answer_of.result call.answer c.answer_of.ensures call.changes call.refused

pub returns-clause-handled : goal.returns-clause-handled
returns-clause-handled g c =
    handled_stored c.args.w.now c.release_mutex.new.self c.requires.whole c.release_mutex.ensures.keeps
    (either c.release_mutex.result c.release_mutex.ensures.changes c.release_mutex.ensures.refused (λ is. ap (λ (s : Store). s.cleanups) is) (λ is. ap (λ (z : WorldOf _ _ _). (store_of z.store).cleanups) is))
