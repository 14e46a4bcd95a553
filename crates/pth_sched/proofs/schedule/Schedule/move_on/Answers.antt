use Rattle.std.proofs.Common.{◌∙◌, sym, subst}
use Rattle.pth_sched.specs.Running.{Stands}
use Rattle.pth_sched.proofs.Moving.{no_moment_as}
use Rattle.pth_sched.proofs.Parts.{stall_makes}
use Rattle.pth_sched.proofs.schedule.Schedule.move_on.Goals as goal

pub returns-then-not-branch-clause-ok : goal.returns-then-not-branch-clause-ok
returns-then-not-branch-clause-ok g c = λ x st.
    let none = c.if-not-branch.true in
    let same = c.in_ok-idle.ensures.stays none in
    let inside = subst (λ m. Stands m x) (sym (c.self.view_is ∙ same.0)) st in
    stall_makes _ x inside g.P.Program.functions _ _ same.1 ((no_moment_as _ _ (c.in_ok-idle.ensures.some x st)).0 none)
