use Rattle.std.proofs.Common.{◌≡◌, ◌<◌, ◌≤◌, ◌-◌, ◌∙◌, List, length, get_or, sym, ap, rules}
use Rattle.std.specs.List.{slice_get}
use Rattle.pth_store.specs.Cleanups.{PushedHandler}
use Rattle.pth_store.proofs.Stacks.{stack_past, stack_read, below_top_read, below_top_none}
use Rattle.pth_store.proofs.cleanups.below_top_at.Goals as goal

pub returns-then-place-len : goal.returns-then-place-len
returns-then-place-len c =
    let high : length c.args.stacks.now.items ≤ c.args.place = search rules in
    sym (ap (λ (cs : List PushedHandler). slice_get cs c.args.n) (stack_past _ c.args.stacks.now.items c.args.place high))

pub returns-then-n-len : goal.returns-then-n-len
returns-then-n-len c =
    let low : c.args.place < length c.args.stacks.now.items = search rules in
    let high : length c.index-stack.result.now.items ≤ c.args.n = search rules in
    below_top_none c.index-stack.result.now.items c.args.n high
    ∙ sym (ap (λ (cs : List PushedHandler). slice_get cs c.args.n) (stack_read _ c.args.stacks.now.items c.args.place c.index-stack.result.now low c.index-stack.ensures))

pub returns : goal.returns
returns c =
    let low : c.args.place < length c.args.stacks.now.items = search rules in
    let within : c.args.n < length c.index-stack.result.now.items = search rules in
    let read : c.index.result.now ≡ get_or c.index-stack.result.now.items (length c.index-stack.result.now.items - 1 - c.args.n) c.index.result.now = search rules in
    below_top_read c.index-stack.result.now.items c.args.n c.index.result.now within read
    ∙ sym (ap (λ (cs : List PushedHandler). slice_get cs c.args.n) (stack_read _ c.args.stacks.now.items c.args.place c.index-stack.result.now low c.index-stack.ensures))
