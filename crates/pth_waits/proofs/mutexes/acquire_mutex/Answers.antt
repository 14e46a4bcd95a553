use Rattle.std.proofs.Common.{◌≡◌, ◌∙◌, ◌==◌, not, ap, refl, sym, Ok, Err, w64, of_z, to_z-of_z, rules}
use Rattle.pth_base.specs.declared.call.Call.TheVariants.{MutexAcquire}
use Rattle.pth_model.specs.declared.awaits.Awaits.TheVariants.{Mutex}
use Rattle.pth_model.specs.RingWaits.{extra_ring}
use Rattle.pth_model.specs.Verdict.{says}
use Rattle.pth_numbered.specs.Operands.{is_zero}
use Rattle.pth_world.proofs.Moves.{runner_alive}
use Rattle.pth_end.proofs.Handled.{stored_frame}
use Rattle.pth_waits.proofs.Acquiring.{by_taking, by_turning, mutex_ready, mutex_taking, without_ring}
use Rattle.pth_waits.proofs.mutexes.acquire_mutex.Goals as goal

pub returns-then-is_no_ring-clause-attempts : goal.returns-then-is_no_ring-clause-attempts
returns-then-is_no_ring-clause-attempts g c =
    let ring = c.extra_ring-ring.ensures ∙ ap extra_ring (to_z-of_z c.ranges.e) in
    without_ring c.args.t.0 (MutexAcquire c.args.m c.args.v c.args.e) (Mutex c.args.m) refl refl c.args.w.now c.requires.whole.sound (extra_ring c.args.e) (mutex_taking c.args.t.0 c.args.m) (not (is_zero c.args.v))
    (λ s st. sym ((rw ring at c.is_no_ring.ensures) s st) ∙ c.if-is_no_ring.true)

pub take_mutex-requires-clause-alive : goal.take_mutex-requires-clause-alive
take_mutex-requires-clause-alive g c = runner_alive c.args.w.now c.args.t.0 c.requires.whole c.requires.runs

pub returns-in-Ok-clause-attempts : goal.returns-in-Ok-clause-attempts
returns-in-Ok-clause-attempts g c =
    let ring = c.extra_ring-ring.ensures ∙ ap extra_ring (to_z-of_z c.ranges.e) in
    by_taking c.args.t.0 (MutexAcquire c.args.m c.args.v c.args.e) (Mutex c.args.m) refl refl c.args.w.now c.requires.whole.sound (extra_ring c.args.e) (mutex_taking c.args.t.0 c.args.m) (not (is_zero c.args.v)) c.take_mutex.new.self (says 1) (Ok tt)
    (λ s st. sym ((rw ring at c.is_no_ring.ensures) s st) ∙ c.if-is_no_ring.false)
    (sym c.in-Ok.is ∙ rw (to_z-of_z c.ranges.m) at c.take_mutex.ensures.answer)
    (λ s st. refl)
    (λ s st. mutex_ready c.args.w.now c.take_mutex.new.self c.args.t.0 c.take_mutex.ensures.keeps s st c.args.m c.args.v c.args.e (extra_ring c.args.e) (rw (to_z-of_z c.ranges.m) at c.in-Ok.ensures.changes))

pub returns-in-Ok-clause-frame : goal.returns-in-Ok-clause-frame
returns-in-Ok-clause-frame g c = stored_frame c.args.w.now _ refl c.take_mutex.new.self c.requires.whole c.take_mutex.ensures.keeps

pub returns-in-Err-clause-attempts : goal.returns-in-Err-clause-attempts
returns-in-Err-clause-attempts g c =
    let tries : not (of_z w64 c.args.v == 0) ≡ not (is_zero c.args.v) = search rules in
    let ring = c.extra_ring-ring.ensures ∙ ap extra_ring (to_z-of_z c.ranges.e) in
    let same = c.in-Err.ensures.refused in
    by_turning c.args.t.0 (MutexAcquire c.args.m c.args.v c.args.e) (Mutex c.args.m) refl refl c.args.w.now c.requires.whole.sound (extra_ring c.args.e) (mutex_taking c.args.t.0 c.args.m) (not (is_zero c.args.v)) c.turn_away.new.w c.turn_away.result (Err c.in-Err.errno)
    (λ s st. sym ((rw ring at c.is_no_ring.ensures) s st) ∙ c.if-is_no_ring.false)
    (sym c.in-Err.is ∙ rw (to_z-of_z c.ranges.m) at c.take_mutex.ensures.answer)
    (rw (tries, to_z-of_z c.ranges.m, ring, same) at c.turn_away.ensures.verdict)
    (rw (ring, same) at c.turn_away.ensures.ready)
