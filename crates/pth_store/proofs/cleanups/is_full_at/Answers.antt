use Rattle.std.proofs.Common.{◌≡◌, ◌<◌, ◌≤◌, ◌∙◌, false, length, nat_lt, sym, ap, arith, rules}
use Rattle.std.proofs.lemmas.Bool.Decides.{nat_tests}
use Rattle.pth_store.specs.Cleanups.{is_full_stack}
use Rattle.pth_store.proofs.Stacks.{stack_past, stack_read, full_read}
use Rattle.pth_store.proofs.cleanups.is_full_at.Goals as goal

pub returns-then-place-len : goal.returns-then-place-len
returns-then-place-len c =
    let low : c.args.place < length c.args.stacks.now.items = search rules in
    let long : c.len-then-place-len.result ≡ length c.index.result.now.items = search rules in
    full_read c.index.result.now.items c.len-then-place-len.result long
    ∙ sym (ap is_full_stack (stack_read _ c.args.stacks.now.items c.args.place c.index.result.now low c.index.ensures))

pub returns-else-place-len : goal.returns-else-place-len
returns-else-place-len c =
    let high : length c.args.stacks.now.items ≤ c.args.place = search rules in
    let past : nat_lt c.args.place c.len.result ≡ false = grind (arith, nat_tests) in
    past ∙ sym (ap is_full_stack (stack_past _ c.args.stacks.now.items c.args.place high))
