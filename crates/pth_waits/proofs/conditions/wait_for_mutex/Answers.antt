use Rattle.std.proofs.Common.{ap, false, refl, Some, subst, sym, to_z-of_z}
use Rattle.pth_world.specs.Frame.{Frame}
use Rattle.pth_world.specs.Numbering.{no_numbers}
use Rattle.pth_world.specs.WellFormed.{WellFormed}
use Rattle.pth_world.specs.World.{WorldOf}
use Rattle.pth_waits.proofs.Blocking.{progress_frame}
use Rattle.pth_waits.proofs.NoticeWaits.{blocked_goes}
use Rattle.std.proofs.lemmas.Result.{err_from_is_err_and}
use Rattle.pth_base.proofs.Cuts.{cut_none}
use Rattle.pth_waits.proofs.conditions.wait_for_mutex.Goals as goal

pub returns-clause-goes : goal.returns-clause-goes
returns-clause-goes g c =
    blocked_goes c.args.t.0 c.args.m c.args.c c.args.e g.P.Program.functions c.args.outcome c.args.w.now c.block.new.self _ _ (rw (to_z-of_z c.ranges.c, to_z-of_z c.ranges.m, to_z-of_z c.ranges.e) at c.block.ensures.shows) (ap (λ (z : WorldOf _ _ _). z.store) c.block.ensures.same) (rw (to_z-of_z c.ranges.c, to_z-of_z c.ranges.m, to_z-of_z c.ranges.e) at c.in_ok-push.ensures.ok)

pub returns-clause-frame : goal.returns-clause-frame
returns-clause-frame g c =
    subst (λ (v : WorldOf _ _ _). Frame c.args.w.now v no_numbers (Some c.args.t.0) false) (sym c.block.ensures.same)
    (progress_frame c.args.w.now c.block.new.self.threads.progress (Some c.args.t.0) c.requires.runs (subst (λ (v : WorldOf _ _ _). WellFormed v) c.block.ensures.same (c.block.ensures.whole c.requires.whole refl)))

pub returns-in_err-push-clause-goes : goal.returns-in_err-push-clause-goes
returns-in_err-push-clause-goes g c =
    let p = err_from_is_err_and c.from_residual.result c.from_residual.ensures.1 in
    rw p.1 (record { next = tt; leads = tt; cut = λ s st. cut_none _ _ _ c.in_err-push.ensures.err })
