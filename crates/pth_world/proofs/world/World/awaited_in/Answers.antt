use Rattle.std.proofs.Common.{◌∙◌, sym, ap, subst}
use Rattle.pth_threads.specs.Threads.{tid_at}
use Rattle.pth_model.specs.declared.awaits.Awaited.{Awaited}
use Rattle.pth_tables.specs.Progress.{awaited_at}
use Rattle.pth_world.specs.WellFormed.{MayAwait}
use Rattle.pth_world.proofs.Awaiting.{may_await}
use Rattle.pth_world.proofs.Moves.{blocked_may}
use Rattle.pth_world.proofs.Showing.{progress_is}
use Rattle.pth_world.proofs.world.World.awaited_in.Goals as goal

pub returns-clause-awaited : goal.returns-clause-awaited
returns-clause-awaited g c k sh = (rw c.progress.ensures at c.awaited.ensures) ∙ sym (ap awaited_at (progress_is _ k (tid_at c.args.self.now.threads.records c.args.s.0) c.args.s.0 c.requires.sound (c.requires.sound.tied.slot c.args.s.0 c.requires.used) sh.threads))

pub returns-clause-may : goal.returns-clause-may
returns-clause-may g c whole =
    let t = tid_at c.args.self.now.threads.records c.args.s.0 in
    subst (λ (a : Awaited). MayAwait a.what) (sym (rw c.progress.ensures at c.awaited.ensures))
    (may_await t _ (blocked_may _ t c.args.s.0 whole (c.requires.sound.tied.slot c.args.s.0 c.requires.used)))
