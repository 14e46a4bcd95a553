use Rattle.std.proofs.Common.{◌∙◌, None, to_z-of_z, refl, sym}
use Rattle.pth_base.specs.declared.call.Call.TheVariants.{RwAcquire}
use Rattle.pth_model.specs.declared.awaits.Awaits.TheVariants.{Lock}
use Rattle.pth_world.proofs.Moves.{runner_alive}
use Rattle.pth_waits.proofs.Acquiring.{has_again, lock_ready, lock_taken_if, may_take_lock, waits_again}
use Rattle.pth_waits.proofs.rwlocks.acquire_lock_again.Goals as goal

pub take_lock-requires-clause-alive : goal.take_lock-requires-clause-alive
take_lock-requires-clause-alive g c = runner_alive c.args.w.now c.args.t.0 c.requires.whole c.requires.runs

pub returns-in-Ok-clause-tries : goal.returns-in-Ok-clause-tries
returns-in-Ok-clause-tries g c v e a =
    has_again c.args.t.0 (RwAcquire c.args.l c.args.write v e) (Lock c.args.l c.args.write) refl refl c.args.w.now a (may_take_lock c.args.t.0 c.args.l c.args.write) c.take_lock.new.self
    (λ s st. lock_taken_if c.args.w.now s st c.args.t.0 c.args.l c.args.write _ (sym c.in-Ok.is ∙ rw (to_z-of_z c.ranges.l) at c.take_lock.ensures.answer))
    (λ s st. lock_ready c.args.w.now c.take_lock.new.self c.args.t.0 c.take_lock.ensures.keeps s st c.args.l c.args.write v e None (rw (to_z-of_z c.ranges.l) at c.in-Ok.ensures.changes))
    c.take_lock.ensures.keeps

pub returns-in-Err-clause-tries : goal.returns-in-Err-clause-tries
returns-in-Err-clause-tries g c v e a =
    rw (to_z-of_z c.ranges.l, c.in-Err.ensures.refused)
    (waits_again c.args.t.0 (RwAcquire c.args.l c.args.write v e) (Lock c.args.l c.args.write) refl refl c.args.w.now a (may_take_lock c.args.t.0 c.args.l c.args.write)
    (λ s st. lock_taken_if c.args.w.now s st c.args.t.0 c.args.l c.args.write _ (sym c.in-Err.is ∙ rw (to_z-of_z c.ranges.l) at c.take_lock.ensures.answer)))
