use mathlib.Core.Path.{fun_ext}
use Rattle.pth_base.specs.Limits.{thread_limit}
use Rattle.pth_lock.proofs.Sweeps.{sets_none}
use Rattle.pth_lock.proofs.sets.SlotSets.new.Goals as goal

pub returns-clause-empty : goal.returns-clause-empty
returns-clause-empty c = fun_ext (λ s. fun_ext (sets_none c.in_ok-sets.sets.items thread_limit (c.in_ok-sets.ensures.items_if_clones_equal (λ y is. is)) s))
