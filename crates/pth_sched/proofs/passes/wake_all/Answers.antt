use Rattle.std.proofs.Common.{◌≡◌, [], drop, map, subst, List, arith}
use Rattle.std.proofs.lemmas.List.{drop_more, drop_all}
use Rattle.std.proofs.lemmas.Result.{err_from_is_err_and}
use Rattle.pth_base.specs.declared.ids.Tid.{Tid}
use Rattle.pth_threads.specs.Threads.{number_of}
use Rattle.pth_model.specs.Pass.{all_woken}
use Rattle.pth_sched.specs.Passing.{WaitOnce}
use Rattle.pth_sched.proofs.Waking.{wait_once, Wakes, wakes_first, wakes_next, wakes_all, wakes_cut, wakes_none, wakes_then}
use Rattle.pth_sched.proofs.passes.wake_all.Goals as goal

pub loop-t-init : goal.loop-t-init
loop-t-init g c = record {
  wakes = λ s st. wakes_first c.args.w.now _ _ s st;
  once = c.requires.wait;
  only_wakes = wakes_none _ c.requires.whole;
}

pub wake-requires-clause-waits : goal.wake-requires-clause-waits
wake-requires-clause-waits g c =
    let split = drop_more c.args.list.now c.loop-t.t-index (record { 0 = 0 }) c.loop-t-test.true in
    (subst (λ (l : List Tid). WaitOnce c.loop-t.w (map number_of l)) split c.loop-t.invariant.once).0

pub returns-in_err-wake-clause-goes : goal.returns-in_err-wake-clause-goes
returns-in_err-wake-clause-goes g c =
    let split = drop_more c.args.list.now c.loop-t.t-index (record { 0 = 0 }) c.loop-t-test.true in
    let p = err_from_is_err_and c.from_residual.result c.from_residual.ensures.1 in
    rw p.1 (record {
      leads = tt;
      cut = λ s st.
          let now = subst (λ (l : List Tid). Wakes c.loop-t.w (map number_of l) c.args.marks.now c.loop-t.marks (all_woken (map number_of c.args.list.now) s)) split (c.loop-t.invariant.wakes s st) in
          wakes_cut c.loop-t.w _ _ _ c.loop-t.marks _ _ now c.in_err-wake.ensures.goes.cut;
    })

pub returns-in_err-wake-clause-wanted : goal.returns-in_err-wake-clause-wanted
returns-in_err-wake-clause-wanted g c =
    let p = err_from_is_err_and c.from_residual.result c.from_residual.ensures.1 in
    rw p.1 (omega arith)

pub loop-t-preserved : goal.loop-t-preserved
loop-t-preserved g c =
    let split = drop_more c.args.list.now c.loop-t.t-index (record { 0 = 0 }) c.loop-t-test.true in
    let once = subst (λ (l : List Tid). WaitOnce c.loop-t.w (map number_of l)) split c.loop-t.invariant.once in
    record {
      wakes = λ s st.
          let now = subst (λ (l : List Tid). Wakes c.loop-t.w (map number_of l) c.args.marks.now c.loop-t.marks (all_woken (map number_of c.args.list.now) s)) split (c.loop-t.invariant.wakes s st) in
          wakes_next c.loop-t.w c.wake.new.w _ _ _ c.loop-t.marks _ _ now c.in_ok-wake.ensures.goes.leads;
      once = wait_once c.loop-t.w c.wake.new.w _ _ c.wake.ensures.others once.1 once.2;
      only_wakes = wakes_then _ _ _ c.loop-t.invariant.only_wakes c.wake.ensures.only_wakes;
    }

pub returns-clause-goes : goal.returns-clause-goes
returns-clause-goes g c =
    let none : drop c.loop-t.t-index c.args.list.now ≡ [] = drop_all c.loop-t.t-index c.args.list.now (omega arith) in
    record { leads = λ s st. wakes_all c.loop-t.w _ _ _ (subst (λ (l : List Tid). Wakes c.loop-t.w (map number_of l) c.args.marks.now c.loop-t.marks (all_woken (map number_of c.args.list.now) s)) none (c.loop-t.invariant.wakes s st)); cut = tt }
