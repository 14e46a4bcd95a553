use Rattle.std.proofs.Common.{◌≡◌, ◌+◌, ◌-◌, vec_len}
use Rattle.pth_store.specs.Cleanups.{stacks_of, top_first}
use Rattle.pth_store.proofs.cleanups.grow.Given as goal

abbrev pub invariant-loop-alloc : goal.invariant-loop-alloc
invariant-loop-alloc l = stacks_of (top_first l.stacks) ≡ stacks_of (top_first l.initial.stacks)

abbrev pub decreases-loop-alloc : goal.decreases-loop-alloc
decreases-loop-alloc l = l.place + 1 - vec_len l.stacks
