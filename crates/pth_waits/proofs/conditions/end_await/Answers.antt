use Rattle.std.proofs.Common.{ap, refl, to_z-of_z}
use Rattle.pth_base.specs.declared.call.Call.TheVariants.{CondAwait}
use Rattle.pth_model.specs.Calls.{ends_await, retakes}
use Rattle.pth_model.specs.RingWaits.{stops_waiting}
use Rattle.pth_model.specs.Transition.{nothing}
use Rattle.pth_world.specs.World.{WorldOf}
use Rattle.pth_waits.proofs.NoticeWaits.{changed_goes}
use Rattle.pth_waits.proofs.conditions.end_await.Goals as goal

pub returns-clause-goes : goal.returns-clause-goes
returns-clause-goes g c =
    let f = g.P.Program.functions in
    let t = c.args.t.0 in
    let k = CondAwait c.args.c c.args.m c.args.e in
    changed_goes t c.args.m c.args.c c.args.e f c.args.outcome (stops_waiting t) c.args.w.now c.unblock.new.self _ (retakes f t k c.args.m c.args.outcome) (ends_await f t nothing k c.args.m c.args.outcome) _ _ _ (λ s. refl) c.unblock.ensures.shows (ap (λ (z : WorldOf _ _ _). z.store) c.unblock.ensures.same) (rw (to_z-of_z c.ranges.c, to_z-of_z c.ranges.m, to_z-of_z c.ranges.e) at c.take_back.ensures.goes)
