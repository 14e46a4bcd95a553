use Rattle.std.proofs.Common.{sym, subst}
use Rattle.std.proofs.lemmas.Result.{IfOk-weaker}
use Rattle.pth_kernel.specs.Kernel.{kernel_of}
use Rattle.pth_world.specs.Shows.{StandsFor}
use Rattle.pth_world.specs.Store.{store_of}
use Rattle.pth_snapshot.proofs.Dumped.{dumped}
use Rattle.pth_snapshot.proofs.Sizes.{dump_few}
use Rattle.pth_snapshot.proofs.save.add_dump.Goals as goal

pub returns-clause-dumped : goal.returns-clause-dumped
returns-clause-dumped g c =
    IfOk-weaker c.push.result _ _ (λ u last course st.
    dumped c.args.m.now course st c.args.out.now _ _ _ _ _ _ c.in_ok-add_place.ensures c.in_ok-add_single.ensures
    (c.in_ok-add_threads.ensures.rows course.state (subst (λ w. StandsFor w course.state) (sym c.world-w.ensures.world) st.world))
    (rw c.world-w.ensures.world at c.in_ok-add_mutexes.ensures) (rw (c.kernel.ensures, c.world-w.ensures.world) at c.in_ok-add_descriptors.ensures) last)
    c.push.ensures.ok

pub returns-clause-few : goal.returns-clause-few
returns-clause-few g c =
    IfOk-weaker c.push.result _ _ (λ u last.
    dump_few c.args.out.now _ _ _ _ _ _ c.args.m.now.turn.steps c.args.m.now.world.kernel.now c.args.m.now.turn.turns c.args.m.now.world.scheduler.running
    c.args.m.now.world.scheduler.favour_new c.args.m.now.world.scheduler.preferred (store_of c.world-w.result.now.store).mutexes (kernel_of c.kernel.result.now)
    c.in_ok-add_place.ensures c.in_ok-add_single.ensures c.in_ok-add_threads.ensures.few c.in_ok-add_mutexes.ensures c.in_ok-add_descriptors.ensures last)
    c.push.ensures.ok
