use Rattle.std.proofs.Common.{[], ◌∷◌, map, sym, ap, ◌∙◌, append-nil}
use Rattle.pth_threads.specs.Threads.{number_of}
use Rattle.pth_sched.proofs.Known.{threads-listed}
use Rattle.pth_sched.proofs.Living.{living-none, living-more, living-all}
use Rattle.pth_sched.proofs.live.live.Goals as goal
use Rattle.pth_sched.proofs.live.live.Goals.{then-is_live+in_ok-push, else-is_live}

pub loop-t-init : goal.loop-t-init
loop-t-init g c = λ s st. ap (map number_of) c.new-live.ensures.items ∙ sym (living-none c.args.w.now _ (threads-listed c.args.w.now _ _ _ c.threads.ensures c.deref-t-items.ensures.value c.in_ok-tids.ensures.listed c.in_ok-tids.ensures.rising) s c.requires st)

pub loop-t-preserved : goal.loop-t-preserved
loop-t-preserved g c = λ s st.
    let are = threads-listed c.args.w.now _ _ _ c.threads.ensures c.deref-t-items.ensures.value c.in_ok-tids.ensures.listed c.in_ok-tids.ensures.rising in
    let one = c.is_live.ensures s st in
    let more = living-more c.args.w.now c.deref-t-items.result.now are s c.requires st c.loop-t.t-index c.loop-t.live.items in
    let so_far = c.loop-t.invariant s st in
    elim c.if-is_live.branch [
      | then-is_live+in_ok-push w ↦ more (_ ∷ []) _ c.loop-t-test.true so_far (rw w.if-is_live.true at one) (rw w.live-is w.in_ok-push.ensures.items)
      | else-is_live w ↦ more [] _ c.loop-t-test.true so_far (rw w.if-is_live.false at one) (rw w.live-is (sym (append-nil c.loop-t.live.items)))
    ]

pub returns : goal.returns
returns g c = λ s st.
    let are = threads-listed c.args.w.now _ _ _ c.threads.ensures c.deref-t-items.ensures.value c.in_ok-tids.ensures.listed c.in_ok-tids.ensures.rising in
    living-all c.args.w.now _ are s c.requires st c.loop-t.t-index _ c.loop-t.auto.t-index-end c.loop-t-test.false (c.loop-t.invariant s st)
