use Rattle.std.proofs.Common.{pos, refl, to_z-of_z}
use Rattle.pth_base.specs.declared.answer.Answer.TheVariants.{Fail, Int}
use Rattle.pth_base.specs.declared.errno.Errno.TheVariants.{EINTR}
use Rattle.pth_waits.proofs.NoticeWaits.{answered_goes}
use Rattle.pth_waits.proofs.Carried.{goes_as}
use Rattle.pth_waits.proofs.conditions.answer_await.Goals as goal

pub returns-in-Notified-clause-goes : goal.returns-in-Notified-clause-goes
returns-in-Notified-clause-goes g c = rw c.in-Notified.is (answered_goes c.args.t.0 c.args.m c.args.c c.args.e (Int (pos 1)) c.args.w.now _ _ c.done.result c.done.ensures.next (rw (to_z-of_z c.ranges.c, to_z-of_z c.ranges.m, to_z-of_z c.ranges.e) at c.done.ensures.ok) c.done.ensures.err)

pub returns-in-Interrupted-clause-goes : goal.returns-in-Interrupted-clause-goes
returns-in-Interrupted-clause-goes g c =
    rw c.in-Interrupted.is (answered_goes c.args.t.0 c.args.m c.args.c c.args.e (Fail EINTR) c.args.w.now _ _ c.done-in-Interrupted.result c.done-in-Interrupted.ensures.next (rw (to_z-of_z c.ranges.c, to_z-of_z c.ranges.m, to_z-of_z c.ranges.e) at c.done-in-Interrupted.ensures.ok) c.done-in-Interrupted.ensures.err)

pub returns-clause-goes : goal.returns-clause-goes
returns-clause-goes g c =
    rw c.in-Canceled.is (goes_as _ _ _ _ _ _ _ _ (λ s has. (s, has.0, refl)) (rw (to_z-of_z c.ranges.m) at c.end_canceled.ensures.goes))
