use Rattle.std.proofs.Common.{◌<◌, ◌≤◌, length, ap, rules, reverse}
use Rattle.pth_store.proofs.Stacks.{stack_emptied, emptied_past}
use Rattle.pth_store.proofs.cleanups.clear_at.Goals as goal

pub returns-then-place-len : goal.returns-then-place-len
returns-then-place-len c =
    let low : c.args.place < length c.args.stacks.now.items = search rules in
    stack_emptied _ c.args.stacks.now.items c.args.place c.index_mut.result.now low c.index_mut.ensures.value c.clear.new.self (ap reverse c.clear.ensures.items)

pub returns-else-place-len : goal.returns-else-place-len
returns-else-place-len c = let high : length c.args.stacks.now.items ≤ c.args.place = search rules in emptied_past _ c.args.stacks.now.items c.args.place high
