use Rattle.std.proofs.Common.{refl, sym, subst}
use Rattle.std.proofs.lemmas.Result.{on_ok_weaker, on_err_weaker}
use Rattle.pth_sched.specs.Running.{Stands, Keeps}
use Rattle.pth_sched.proofs.Moving.{pass_makes, pass_keeps}
use Rattle.std.proofs.Common.{OnOk}
use Rattle.pth_end.specs.Whole.{Whole}
use Rattle.pth_sched.specs.MachineOf.{MachineOf}
use Rattle.pth_sched.proofs.schedule.Schedule.pass.Goals as goal

pub returns-clause-ok : goal.returns-clause-ok
returns-clause-ok g c =
    on_ok_weaker c.pass.result (λ leads x st.
    let inside = subst (λ m. Stands m x) (sym c.self.view_is) st in
    pass_makes _ _ g.P.Program.functions x _ _ inside refl (leads x.state inside.world)) c.pass.ensures.goes.leads

pub returns-clause-err : goal.returns-clause-err
returns-clause-err g c =
    on_err_weaker c.pass.result (λ cut x st.
    let inside = subst (λ m. Stands m x) (sym c.self.view_is) st in
    cut x.state inside.world) c.pass.ensures.goes.cut

pub returns-clause-wanted : goal.returns-clause-wanted
returns-clause-wanted g c =
    on_err_weaker c.pass.result (λ some x st.
    let inside = subst (λ m. Stands m x) (sym c.self.view_is) st in
    some x.state inside.world) c.pass.ensures.wanted

pub returns-clause-keeps : goal.returns-clause-keeps
returns-clause-keeps g c =
    let before = subst (λ m. Keeps m) (sym c.self.view_is) c.requires.keeps in
    pass_keeps _ _ c.pass.result before refl c.pass.ensures.only_wakes

pub returns-clause-whole : goal.returns-clause-whole
returns-clause-whole g c = subst (λ (m : MachineOf _ _ _). OnOk c.pass.result (Whole m.world → Whole c.pass.new.w)) c.self.view_is c.pass.ensures.keeps
