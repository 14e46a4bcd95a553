use Rattle.std.proofs.Common.{sym, SFits, w64, rules, to_z-of_z}
use Rattle.pth_sched.proofs.Counting.{no_moment}
use Rattle.pth_sched.proofs.moments.occurs_at.Goals as goal

pub returns-in-Func : goal.returns-in-Func
returns-in-Func g c s st =
    let check : SFits w64 c.in-Func.check = search rules in
    let arg : SFits w64 c.in-Func.arg = search rules in
    rw c.in-Func.is ((rw (to_z-of_z check, to_z-of_z arg) at c.asked_moment.ensures) s 0 st)

pub returns-in_default : goal.returns-in_default
returns-in_default g c s st = sym (no_moment g.P.Program.functions s c.args.event.now.next_look c.args.event.now.spec c.in_default.not-Time c.in_default.not-Func)
