use Rattle.std.proofs.Common.{sym, subst}
use Rattle.std.proofs.lemmas.Result.{err_from_is_err_and}
use Rattle.pth_sched.specs.Running.{Stands}
use Rattle.pth_sched.proofs.Moving.{moves_as}
use Rattle.pth_sched.proofs.Parts.{makes_as, cut_as}
use Rattle.pth_end.specs.Whole.{Whole}
use Rattle.pth_sched.specs.MachineOf.{MachineOf}
use Rattle.pth_sched.proofs.schedule.Schedule.idle.Goals as goal

pub returns-in_err-move_to-in-Some-clause-err : goal.returns-in_err-move_to-in-Some-clause-err
returns-in_err-move_to-in-Some-clause-err g c =
    let p = err_from_is_err_and c.from_residual.result c.from_residual.ensures.1 in
    rw p.1 (λ x st.
    let inside = subst (λ m. Stands m x) (sym c.self.view_is) st in
    cut_as c.move_to.new.self _ _ (moves_as g.P.Program.functions x.turn x.state _ (c.in-Some.ensures.moment x.state inside.world)) _ _ (c.in_err-move_to-in-Some.ensures.err x inside))

pub returns-in_ok-move_to-in-Some-clause-moves : goal.returns-in_ok-move_to-in-Some-clause-moves
returns-in_ok-move_to-in-Some-clause-moves g c = λ yes x st.
    let inside = subst (λ m. Stands m x) (sym c.self.view_is) st in
    makes_as _ _ _ (moves_as g.P.Program.functions x.turn x.state _ (c.in-Some.ensures.moment x.state inside.world)) _ _ (c.in_ok-move_to-in-Some.ensures.ok x inside)

pub returns-in_ok-move_to-in-Some-clause-whole : goal.returns-in_ok-move_to-in-Some-clause-whole
returns-in_ok-move_to-in-Some-clause-whole g c = λ full. c.in_ok-move_to-in-Some.ensures.whole (subst (λ (m : MachineOf _ _ _). Whole m.world) (sym c.self.view_is) full)
