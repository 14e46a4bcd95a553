use Rattle.std.proofs.Common.{refl, ap, sym, subst}
use Rattle.std.proofs.lemmas.Result.{err_from_is_err_and, on_ok_weaker, on_err_weaker}
use Rattle.pth_base.proofs.Cuts.{cut_none}
use Rattle.pth_sched.specs.Running.{Stands, Keeps}
use Rattle.pth_sched.proofs.Moving.{moved_keeps, moved_stands, move_makes, move_cut}
use Rattle.pth_end.specs.Whole.{Whole}
use Rattle.pth_end.proofs.Wholes.{kernel_whole}
use Rattle.pth_sched.specs.MachineOf.{MachineOf}
use Rattle.pth_sched.proofs.schedule.Schedule.move_to.Goals as goal

pub pass-requires : goal.pass-requires
pass-requires g c =
    let before = subst (λ m. Keeps m) (sym c.self.view_is) c.requires.keeps in
    record { keeps = moved_keeps _ _ c.args.moment before (c.set_time.ensures.whole before.going.whole) c.set_time.ensures.same refl }

pub returns-clause-ok : goal.returns-clause-ok
returns-clause-ok g c =
    on_ok_weaker c.pass.result (λ makes x st.
    let inside = subst (λ m. Stands m x) (sym c.self.view_is) st in
    let moved = moved_stands c.args.moment x _ _ refl c.set_time.ensures.shows (ap (λ w. w.store) c.set_time.ensures.same) inside in
    move_makes c.args.moment x g.P.Program.functions _ _ _ (c.in_ok-push.ensures.ok) _ (makes _ moved)) c.pass.ensures.ok

pub returns-in_err-push-clause-err : goal.returns-in_err-push-clause-err
returns-in_err-push-clause-err g c =
    let p = err_from_is_err_and c.from_residual.result c.from_residual.ensures.1 in
    rw p.1 (λ x st. cut_none _ _ _ c.in_err-push.ensures.err)

pub returns-clause-err : goal.returns-clause-err
returns-clause-err g c =
    on_err_weaker c.pass.result (λ cut x st.
    let inside = subst (λ m. Stands m x) (sym c.self.view_is) st in
    let moved = moved_stands c.args.moment x _ _ refl c.set_time.ensures.shows (ap (λ w. w.store) c.set_time.ensures.same) inside in
    move_cut c.args.moment x g.P.Program.functions _ _ _ (c.in_ok-push.ensures.ok) (cut _ moved)) c.pass.ensures.err

pub returns-clause-whole : goal.returns-clause-whole
returns-clause-whole g c =
    on_ok_weaker c.pass.result (λ passed full. passed (kernel_whole _ _ _ c.set_time.ensures.whole c.set_time.ensures.same (subst (λ (m : MachineOf _ _ _). Whole m.world) (sym c.self.view_is) full))) c.pass.ensures.whole
