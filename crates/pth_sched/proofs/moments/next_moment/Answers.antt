use Rattle.std.proofs.Common.{◌≡◌, ◌∙◌, ◌++◌, ℕ, List, [], flat_map, map, drop, slice_index_or, refl, sym, ap, subst, arith}
use Rattle.std.proofs.lemmas.List.{drop_more, drop_all}
use Rattle.pth_base.specs.declared.ids.Slot.{Slot}
use Rattle.pth_kernel.specs.Kernel.{Kernel, kernel_of, arrival_times}
use Rattle.pth_kernel.specs.Moments.{least_after}
use Rattle.pth_threads.specs.Threads.{tid_at}
use Rattle.pth_model.specs.Pass.{moments, moments_of}
use Rattle.pth_sched.proofs.Counting.{Counted, counts_more, all_counted}
use Rattle.pth_sched.proofs.Times.{next_later, next_within}
use Rattle.pth_sched.proofs.moments.next_moment.Goals as goal

pub loop-slot-init : goal.loop-slot-init
loop-slot-init g c s st = record { done = arrival_times (kernel_of c.args.w.now.kernel); split = refl; least = rw c.kernel.ensures at c.next_entry-best.ensures }

pub loop-slot-preserved : goal.loop-slot-preserved
loop-slot-preserved g c s st =
    let name = λ (x : Slot). tid_at c.args.w.now.threads.records x.0 in
    let own = moments_of g.P.Program.functions s in
    let all = arrival_times (kernel_of c.args.w.now.kernel) ++ flat_map own (map name c.args.slots.now) in
    let split = drop_more c.args.slots.now c.loop-slot.slot-index (record { 0 = 0 }) c.loop-slot-test.true in
    let so_far = subst (λ (l : List Slot). Counted c.args.w.now.kernel.now all (flat_map own (map name l)) c.loop-slot.best) split (c.loop-slot.invariant s st) in
    counts_more c.args.w.now.kernel.now all _ c.loop-slot.best c.count_of-best.result (own (name (slice_index_or c.args.slots.now c.loop-slot.slot-index (record { 0 = 0 })))) so_far (c.count_of-best.ensures s so_far.done st so_far.least)

pub returns-clause-moment : goal.returns-clause-moment
returns-clause-moment g c s st =
    let name = λ (x : Slot). tid_at c.args.w.now.threads.records x.0 in
    let own = moments_of g.P.Program.functions s in
    let k = kernel_of c.args.w.now.kernel in
    let none : drop c.loop-slot.slot-index c.args.slots.now ≡ [] = drop_all c.loop-slot.slot-index c.args.slots.now (omega arith) in
    all_counted k.now _ _ c.loop-slot.best (ap (λ (l : List Slot). flat_map own (map name l)) none) (c.loop-slot.invariant s st)
    ∙ ap (λ (l : List ℕ). least_after k.now (arrival_times k ++ flat_map own l)) (c.requires.waiting s.control st.control)
    ∙ ap (λ (x : Kernel). least_after x.now (arrival_times x ++ moments g.P.Program.functions s)) (sym st.control.kernel)

pub returns-clause-later : goal.returns-clause-later
returns-clause-later g c = next_later g.P.Program.functions c.args.w.now c.loop-slot.best c.requires.whole.sound (returns-clause-moment g c)

pub returns-clause-within : goal.returns-clause-within
returns-clause-within g c = next_within g.P.Program.functions c.args.w.now c.loop-slot.best c.requires.whole.sound (returns-clause-moment g c)
