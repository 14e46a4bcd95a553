use Rattle.std.proofs.Common.{rules, SFits, w64, to_z-of_z}
use Rattle.pth_sched.proofs.Readying.{top_under}
use Rattle.pth_sched.proofs.turns.new_rank.Goals as goal

pub returns-then-favour-clause-under : goal.returns-then-favour-clause-under
returns-then-favour-clause-under g c =
    let fits : SFits w64 c.top.result = search rules in
    λ bound low under. rw (to_z-of_z, c.top.ensures.value) (top_under c.args.w.now.threads.queues.top bound c.args.w.now.threads.queues.ready c.requires.orderly.range.1 low under)
