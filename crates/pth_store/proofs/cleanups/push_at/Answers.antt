use Rattle.std.proofs.Common.{◌<◌, ◌∙◌, length, ap, rules, reverse}
use Rattle.std.proofs.lemmas.Result.{err_from_is_err_and}
use Rattle.pth_store.specs.Cleanups.{stacks_of}
use Rattle.pth_store.proofs.Stacks.{stack_kept, stack_pushed, reverse_pushed}
use Rattle.pth_store.proofs.cleanups.push_at.Goals as goal

pub returns-in_err-push-clause-refused : goal.returns-in_err-push-clause-refused
returns-in_err-push-clause-refused c =
    let low : c.args.place < length c.args.stacks.now.items = search rules in
    let refused = err_from_is_err_and c.from_residual.result c.from_residual.ensures.1 in
    rw refused.1 (ap stacks_of (stack_kept _ c.args.stacks.now.items c.args.place c.index_mut.result.now low c.index_mut.ensures.value c.push.new.self (ap reverse c.in_err-push.ensures.items)))

pub returns-clause-changes : goal.returns-clause-changes
returns-clause-changes c =
    let low : c.args.place < length c.args.stacks.now.items = search rules in
    stack_pushed _ c.args.stacks.now.items c.args.place c.index_mut.result.now low c.index_mut.ensures.value c.push.new.self c.args.c (ap reverse c.in_ok-push.ensures.items ∙ reverse_pushed c.index_mut.result.now.items c.args.c)
