use Rattle.std.proofs.Common.{arith}
use Rattle.pth_sched.proofs.Known.{threads-listed}
use Rattle.pth_snapshot.proofs.FewThreads.{few_threads}
use Rattle.pth_snapshot.proofs.Threads.{no_threads, one_more_thread, all_threads}
use Rattle.pth_snapshot.proofs.thread_row.add_threads.Goals as goal

pub loop-t-init : goal.loop-t-init
loop-t-init g c = record {
  rows = λ s st.
      let are = threads-listed c.args.w.now _ _ _ c.threads.ensures c.deref-t-items.ensures.value c.in_ok-tids.ensures.listed c.in_ok-tids.ensures.rising in
      no_threads c.args.w.now _ are s c.requires st c.args.out.now;
  few = omega arith;
}

pub loop-t-preserved : goal.loop-t-preserved
loop-t-preserved g c = record {
  rows = λ s st.
      let are = threads-listed c.args.w.now _ _ _ c.threads.ensures c.deref-t-items.ensures.value c.in_ok-tids.ensures.listed c.in_ok-tids.ensures.rising in
      one_more_thread c.args.w.now c.deref-t-items.result.now are s c.requires st c.args.out.now c.loop-t.t-index c.loop-t.out _ c.loop-t-test.true (c.loop-t.invariant.rows s st)
      (c.in_ok-add_thread.ensures.row s st);
  few = let before = c.loop-t.invariant.few in let here = c.in_ok-add_thread.ensures.few in omega arith;
}

pub returns-clause-rows : goal.returns-clause-rows
returns-clause-rows g c = λ s st.
    let are = threads-listed c.args.w.now _ _ _ c.threads.ensures c.deref-t-items.ensures.value c.in_ok-tids.ensures.listed c.in_ok-tids.ensures.rising in
    all_threads c.args.w.now c.deref-t-items.result.now are s c.requires st c.args.out.now c.loop-t.t-index c.loop-t.out c.loop-t.auto.t-index-end c.loop-t-test.false (c.loop-t.invariant.rows s st)

pub returns-clause-few : goal.returns-clause-few
returns-clause-few g c =
    let are = threads-listed c.args.w.now _ _ _ c.threads.ensures c.deref-t-items.ensures.value c.in_ok-tids.ensures.listed c.in_ok-tids.ensures.rising in
    let most = few_threads c.args.w.now c.deref-t-items.result.now are c.requires in
    let last = c.loop-t.auto.t-index-end in
    let few = c.loop-t.invariant.few in
    omega (arith, most, last, few)
