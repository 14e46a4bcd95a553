use Rattle.std.proofs.Common.{◌∙◌, None, to_z-of_z, refl, sym, rules}
use Rattle.pth_base.specs.declared.call.Call.TheVariants.{MutexAcquire}
use Rattle.pth_model.specs.Mutexes.{is_free}
use Rattle.pth_model.specs.declared.awaits.Awaits.TheVariants.{Mutex}
use Rattle.pth_world.proofs.Moves.{runner_alive}
use Rattle.pth_world.proofs.StateOf.{stands_for_state}
use Rattle.pth_world.specs.StateOf.{state_of}
use Rattle.pth_world.specs.Store.{store_of}
use Rattle.pth_waits.proofs.Acquiring.{free_refused, has_again, mutex_ready, waits_again}
use Rattle.pth_waits.proofs.mutexes.acquire_mutex_again.Goals.{else-is_free_mutex-via-then-is_free_mutex+else-is_ok, else-is_free_mutex-via-else-is_free_mutex}
use Rattle.pth_waits.proofs.mutexes.acquire_mutex_again.Goals as goal

pub take_mutex-requires-clause-alive : goal.take_mutex-requires-clause-alive
take_mutex-requires-clause-alive g c = runner_alive c.args.w.now c.args.t.0 c.requires.whole c.requires.runs

pub returns-then-is_ok-clause-tries : goal.returns-then-is_ok-clause-tries
returns-then-is_ok-clause-tries g c v e a =
    let free = rw (to_z-of_z c.ranges.m) at c.is_free_mutex.ensures in
    has_again c.args.t.0 (MutexAcquire c.args.m v e) (Mutex c.args.m) refl refl c.args.w.now a (λ s. is_free s c.args.m) c.take_mutex.new.self
    (λ s st. sym (free s st) ∙ c.if-is_free_mutex.true)
    (λ s st. mutex_ready c.args.w.now c.take_mutex.new.self c.args.t.0 c.take_mutex.ensures.keeps s st c.args.m v e None (search rules))
    c.take_mutex.ensures.keeps

-- it is not free, since a free mutex is not refused
pub returns-else-is_free_mutex-clause-tries : goal.returns-else-is_free_mutex-clause-tries
unfolding state_of
returns-else-is_free_mutex-clause-tries g c v e a =
    let free = rw (to_z-of_z c.ranges.m) at c.is_free_mutex.ensures in
    rw (to_z-of_z c.ranges.m) (elim c.else-is_free_mutex.branch [
      | else-is_free_mutex-via-then-is_free_mutex+else-is_ok w ↦ absurd (free_refused (store_of c.args.w.now.store) c.args.t.0 c.args.m w.take_mutex.result
          (sym (free (state_of c.args.w.now) (stands_for_state c.args.w.now c.requires.whole.sound)) ∙ w.if-is_free_mutex.true)
          (rw (to_z-of_z c.ranges.m) at w.take_mutex.ensures.answer)
          (sym w.is_ok.ensures.value ∙ w.if-is_ok.false))
      | else-is_free_mutex-via-else-is_free_mutex w ↦ rw w.w-is
          (waits_again c.args.t.0 (MutexAcquire c.args.m v e) (Mutex c.args.m) refl refl c.args.w.now a (λ s. is_free s c.args.m) (λ s st. sym (free s st) ∙ w.if-is_free_mutex.false))
    ])
