use Rattle.std.proofs.Common.{◌<◌, ◌≤◌, ◌↔◌, ◌∙◌, List, length, sym, ap, rules, IsSome}
use Rattle.std.specs.List.{slice_get}
use Rattle.pth_store.specs.Cleanups.{PushedHandler}
use Rattle.pth_store.proofs.Stacks.{stack_past, stack_read, stack_popped, popped_past, kept_where_none, takes, not_taken}
use Rattle.pth_store.proofs.cleanups.pop_at.Goals as goal

pub returns-then-place-len-clause-answer : goal.returns-then-place-len-clause-answer
returns-then-place-len-clause-answer c =
    let low : c.args.place < length c.args.stacks.now.items = search rules in
    let some : IsSome c.pop.result ↔ (0 < length c.index_mut.result.now.items) = search rules in
    (takes c.index_mut.result.now.items c.pop.new.self.items c.pop.result c.pop.ensures.items some).given
    ∙ sym (ap (λ (cs : List PushedHandler). slice_get cs 0) (stack_read _ c.args.stacks.now.items c.args.place c.index_mut.result.now low c.index_mut.ensures.value))

pub returns-then-place-len-clause-changes : goal.returns-then-place-len-clause-changes
returns-then-place-len-clause-changes c =
    let low : c.args.place < length c.args.stacks.now.items = search rules in
    let some : IsSome c.pop.result ↔ (0 < length c.index_mut.result.now.items) = search rules in
    stack_popped _ c.args.stacks.now.items c.args.place c.index_mut.result.now low c.index_mut.ensures.value c.pop.new.self
    (takes c.index_mut.result.now.items c.pop.new.self.items c.pop.result c.pop.ensures.items some).left

pub returns-then-place-len-clause-none : goal.returns-then-place-len-clause-none
returns-then-place-len-clause-none c =
    let low : c.args.place < length c.args.stacks.now.items = search rules in
    kept_where_none _ c.args.stacks.now.items c.args.place c.index_mut.result.now low c.index_mut.ensures.value c.pop.new.self c.pop.result
    (not_taken c.index_mut.result.now.items c.pop.new.self.items c.pop.result c.pop.ensures.items)

pub returns-else-place-len-clause-answer : goal.returns-else-place-len-clause-answer
returns-else-place-len-clause-answer c =
    let high : length c.args.stacks.now.items ≤ c.args.place = search rules in
    sym (ap (λ (cs : List PushedHandler). slice_get cs 0) (stack_past _ c.args.stacks.now.items c.args.place high))

pub returns-else-place-len-clause-changes : goal.returns-else-place-len-clause-changes
returns-else-place-len-clause-changes c = let high : length c.args.stacks.now.items ≤ c.args.place = search rules in popped_past _ c.args.stacks.now.items c.args.place high
