use Rattle.std.proofs.Common.{◌∙◌, sym, ap, subst}
use Rattle.pth_model.specs.RingWaits.{awaited_in}
use Rattle.pth_model.specs.Changes.{blocked_in}
use Rattle.pth_model.specs.declared.awaits.Awaited.{Awaited}
use Rattle.pth_tables.specs.Progress.{awaited_at}
use Rattle.pth_world.specs.WellFormed.{MayAwait}
use Rattle.pth_world.proofs.Awaiting.{may_await}
use Rattle.pth_world.proofs.Moves.{blocked_may}
use Rattle.pth_world.proofs.Showing.{progress_is, no_progress}
use Rattle.pth_world.proofs.world.World.awaited.Goals as goal

pub returns-in-Some-clause-awaited : goal.returns-in-Some-clause-awaited
returns-in-Some-clause-awaited g c k sh = (rw c.progress.ensures at c.awaited.ensures) ∙ sym (ap awaited_at (progress_is _ k c.args.t.0 c.in-Some.slot.0 c.requires (rw c.threads.ensures at c.in-Some.ensures.slot) sh.threads))

pub returns-in-Some-clause-may : goal.returns-in-Some-clause-may
returns-in-Some-clause-may g c whole =
    subst (λ (a : Awaited). MayAwait a.what) (sym (rw c.progress.ensures at c.awaited.ensures))
    (may_await c.args.t.0 _ (blocked_may _ c.args.t.0 c.in-Some.slot.0 whole (rw c.threads.ensures at c.in-Some.ensures.slot)))

pub returns-in-None-clause-awaited : goal.returns-in-None-clause-awaited
returns-in-None-clause-awaited g c k sh = ap awaited_in (ap blocked_in (no_progress _ k c.args.t.0 (rw c.threads.ensures at c.in-None.ensures.slot) sh.threads))
