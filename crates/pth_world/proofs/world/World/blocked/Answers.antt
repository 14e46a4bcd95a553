use Rattle.std.proofs.Common.{◌∙◌, Option, IfSome, sym, ap, subst}
use Rattle.pth_model.specs.Changes.{blocked_in}
use Rattle.pth_model.specs.declared.blocked.Blocked.{Blocked}
use Rattle.pth_world.specs.WellFormed.{MayBlock}
use Rattle.pth_world.proofs.Moves.{blocked_may}
use Rattle.pth_world.proofs.Showing.{progress_is, no_progress}
use Rattle.pth_world.proofs.world.World.blocked.Goals as goal

pub returns-in-Some-get-clause-blocked : goal.returns-in-Some-get-clause-blocked
returns-in-Some-get-clause-blocked g c k sh = c.as_ref.ensures.value ∙ sym (ap blocked_in (progress_is _ k c.args.t.0 c.in-Some.slot.0 c.requires (rw c.threads.ensures at c.in-Some.ensures.slot) sh.threads ∙ sym (rw c.progress.ensures at c.in-Some-get.ensures)))

pub returns-in-Some-get-clause-may : goal.returns-in-Some-get-clause-may
returns-in-Some-get-clause-may g c whole =
    let may = blocked_may _ c.args.t.0 c.in-Some.slot.0 whole (rw c.threads.ensures at c.in-Some.ensures.slot) in
    subst (λ (o : Option Blocked). IfSome o (λ b. MayBlock c.args.t.0 b)) (ap blocked_in (sym (rw c.progress.ensures at c.in-Some-get.ensures)) ∙ sym c.as_ref.ensures.value) may

pub returns-in-None-clause-blocked : goal.returns-in-None-clause-blocked
returns-in-None-clause-blocked g c k sh = ap blocked_in (no_progress _ k c.args.t.0 (rw c.threads.ensures at c.in-None.ensures.slot) sh.threads)
