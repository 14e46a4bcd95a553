use Rattle.std.proofs.Common.{rules}
use Rattle.pth_numbered.specs.Numbered.{slot_of}
use Rattle.pth_numbered.proofs.Slots.{named, used}
use Rattle.pth_numbered.proofs.numbered.Numbered.find.Goals as goal

pub returns-in-None-clause-slot : goal.returns-in-None-clause-slot
unfolding slot_of
returns-in-None-clause-slot g c = rw (← c.self.view_is) (search rules)

pub returns-in-None-clause-used : goal.returns-in-None-clause-used
returns-in-None-clause-used g c = used c.args.self.now c.args.number _ (rw c.self.view_is at c.self.invariant.tied) (returns-in-None-clause-slot g c)

pub returns-in-None-clause-named : goal.returns-in-None-clause-named
returns-in-None-clause-named g c = named c.args.self.now c.args.number _ (rw c.self.view_is at c.self.invariant.tied) (returns-in-None-clause-slot g c)
