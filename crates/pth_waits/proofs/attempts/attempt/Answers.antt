use Rattle.std.proofs.Common.{◌≡◌, ◌∙◌, false, is_some, SFits, w64, to_z-of_z, ap, refl, rules, sym}
use Rattle.std.proofs.lemmas.Result.{IfOk-weaker}
use Rattle.pth_base.specs.declared.call.Call.TheVariants.{Nap, Sleep, Usleep}
use Rattle.pth_model.specs.declared.awaits.Awaits.TheVariants.{Nothing}
use Rattle.pth_model.specs.Resources.{answer_told, told}
use Rattle.pth_model.specs.Rows.{row_of}
use Rattle.pth_world.proofs.StateOf.{stands_for_state}
use Rattle.pth_world.specs.StateOf.{state_of}
use Rattle.pth_waits.specs.Io.{first_awaited}
use Rattle.pth_waits.proofs.Attempted.{none_is, others_called, others_never, same_elsewhere, some_then, unawaited}
use Rattle.pth_waits.proofs.Resting.{rest_attempts}
use Rattle.pth_waits.proofs.attempts.attempt.Goals as goal

pub returns-in-Join-clause-attempts : goal.returns-in-Join-clause-attempts
unfolding row_of
returns-in-Join-clause-attempts g c =
    let n : SFits w64 c.in-Join.n = search rules in
    rw c.in-Join.is ((simp to_z-of_z at c.join.ensures.tries) Nothing).attempts

pub returns-in-Exit-clause-attempts : goal.returns-in-Exit-clause-attempts
unfolding row_of
returns-in-Exit-clause-attempts g c =
    let n : SFits w64 c.in-Exit.value = search rules in
    rw c.in-Exit.is ((simp to_z-of_z at c.exit.ensures.tries) Nothing).attempts

pub returns-in-Nap-clause-attempts : goal.returns-in-Nap-clause-attempts
unfolding row_of told answer_told
returns-in-Nap-clause-attempts g c =
    let n : SFits w64 c.in-Nap.n = search rules in
    rw c.in-Nap.is (rest_attempts c.args.w.now c.args.t.0 (Nap c.in-Nap.n) refl (λ a x. refl) (λ a is. is) 1 c.in-Nap.n 1 _ (λ s st. (simp to_z-of_z at c.rest.ensures.verdict) s 1 st (simp to_z-of_z at c.micros.ensures)) c.rest.ensures.rests)

pub returns-in-Usleep-clause-attempts : goal.returns-in-Usleep-clause-attempts
unfolding row_of told answer_told
returns-in-Usleep-clause-attempts g c =
    let n : SFits w64 c.in-Usleep.n = search rules in
    rw c.in-Usleep.is (rest_attempts c.args.w.now c.args.t.0 (Usleep c.in-Usleep.n) refl (λ a x. refl) (λ a is. is) 1 c.in-Usleep.n 0 _ (λ s st. (simp to_z-of_z at c.rest-in-Usleep.ensures.verdict) s 1 st (simp to_z-of_z at c.micros-in-Usleep.ensures)) c.rest-in-Usleep.ensures.rests)

pub returns-in-Sleep-clause-attempts : goal.returns-in-Sleep-clause-attempts
unfolding row_of told answer_told
returns-in-Sleep-clause-attempts g c =
    let n : SFits w64 c.in-Sleep.n = search rules in
    rw c.in-Sleep.is (rest_attempts c.args.w.now c.args.t.0 (Sleep c.in-Sleep.n) refl (λ a x. refl) (λ a is. is) 1000000 c.in-Sleep.n 0 _ (λ s st. (simp to_z-of_z at c.rest-in-Sleep.ensures.verdict) s 1000000 st (simp to_z-of_z at c.seconds.ensures)) c.rest-in-Sleep.ensures.rests)

pub returns-in_ok-wait-in-Wait-clause-attempts : goal.returns-in_ok-wait-in-Wait-clause-attempts
unfolding row_of
returns-in_ok-wait-in-Wait-clause-attempts g c =
    let n : SFits w64 c.in-Wait.e = search rules in
    rw c.in-Wait.is (simp to_z-of_z at c.in_ok-wait-in-Wait.ensures.attempts)

pub returns-in_ok-acquire_mutex-in-MutexAcquire-clause-attempts : goal.returns-in_ok-acquire_mutex-in-MutexAcquire-clause-attempts
unfolding row_of
returns-in_ok-acquire_mutex-in-MutexAcquire-clause-attempts g c =
    let m : SFits w64 c.in-MutexAcquire.m = search rules in
    let v : SFits w64 c.in-MutexAcquire.v = search rules in
    let e : SFits w64 c.in-MutexAcquire.e = search rules in
    rw c.in-MutexAcquire.is (simp to_z-of_z at c.in_ok-acquire_mutex-in-MutexAcquire.ensures.attempts)

pub returns-in_ok-acquire_lock-in-RwAcquire-clause-attempts : goal.returns-in_ok-acquire_lock-in-RwAcquire-clause-attempts
unfolding row_of
returns-in_ok-acquire_lock-in-RwAcquire-clause-attempts g c =
    let l : SFits w64 c.in-RwAcquire.l = search rules in
    let v : SFits w64 c.in-RwAcquire.v = search rules in
    let e : SFits w64 c.in-RwAcquire.e = search rules in
    rw c.in-RwAcquire.is (simp to_z-of_z at c.in_ok-acquire_lock-in-RwAcquire.ensures.attempts)

pub returns-in_ok-await_condition-in-CondAwait-clause-attempts : goal.returns-in_ok-await_condition-in-CondAwait-clause-attempts
unfolding row_of
returns-in_ok-await_condition-in-CondAwait-clause-attempts g c =
    let x : SFits w64 c.in-CondAwait.c = search rules in
    let m : SFits w64 c.in-CondAwait.m = search rules in
    let e : SFits w64 c.in-CondAwait.e = search rules in
    rw c.in-CondAwait.is (simp to_z-of_z at c.in_ok-await_condition-in-CondAwait.ensures.attempts)

pub returns-in_ok-reach_barrier-in-BarrierReach-clause-attempts : goal.returns-in_ok-reach_barrier-in-BarrierReach-clause-attempts
unfolding row_of
returns-in_ok-reach_barrier-in-BarrierReach-clause-attempts g c =
    let b : SFits w64 c.in-BarrierReach.b = search rules in
    rw c.in-BarrierReach.is (simp to_z-of_z at c.in_ok-reach_barrier-in-BarrierReach.ensures.attempts)

pub returns-in_default : goal.returns-in_default
returns-in_default g c =
    let call = c.args.call.now in
    let d = c.in_default in
    let s = state_of c.args.w.now in
    let st = stands_for_state c.args.w.now c.requires.whole.sound in
    record {
      attempts = c.begin_io.ensures.attempts;
      called = IfOk-weaker c.begin_io.result _ _ (λ o is. some_then o (λ some. others_called s call (sym (is s st) ∙ some))) c.begin_io.ensures.descriptors;
      never = IfOk-weaker c.begin_io.result _ _ (λ o is none.
          let here : is_some (first_awaited s call) ≡ false = sym (is s st) ∙ ap is_some none in
          record {
            away = others_never s call (none_is _ here) d.not-Join d.not-Exit d.not-Nap d.not-Usleep d.not-Sleep d.not-Wait d.not-MutexAcquire d.not-RwAcquire d.not-BarrierReach (unawaited call d.not-CondAwait);
            elsewhere = λ u. none_is _ (sym (same_elsewhere s call u) ∙ here);
            unawaited = unawaited call d.not-CondAwait;
          }) c.begin_io.ensures.descriptors;
      same = c.begin_io.ensures.same;
      frame = c.begin_io.ensures.frame;
    }
