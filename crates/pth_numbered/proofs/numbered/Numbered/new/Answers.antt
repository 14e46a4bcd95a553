use Rattle.pth_numbered.specs.Numbered.{thing_at, number_at, slot_of, count}
use Rattle.pth_numbered.proofs.Slots.{kept_none}
use Rattle.pth_numbered.proofs.numbered.Numbered.new.Goals as goal

pub invariant_of-result : goal.invariant_of-result
invariant_of-result g c = rw (c.new.ensures.empty, c.new-2.ensures.empty) (kept_none c.args.limit c.requires)

pub returns-clause-slots : goal.returns-clause-slots
unfolding slot_of
returns-clause-slots g c = rw c.new-2.ensures.empty

pub returns-clause-numbers : goal.returns-clause-numbers
unfolding number_at
returns-clause-numbers g c = rw c.new.ensures.empty

pub returns-clause-things : goal.returns-clause-things
unfolding thing_at
returns-clause-things g c = rw c.new.ensures.empty

pub returns-clause-count : goal.returns-clause-count
unfolding count
returns-clause-count g c = rw c.new.ensures.empty
