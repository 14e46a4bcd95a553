use Rattle.pth_threads.proofs.Entries.{entry_is, tid_is}
use Rattle.pth_threads.proofs.threads.Threads.get.Goals as goal

pub returns-clause-entry : goal.returns-clause-entry
returns-clause-entry c = rw (← c.self.view_is) (entry_is c.self.inside.entries c.args.s.0 _ c.get.ensures)

pub returns-clause-tid : goal.returns-clause-tid
returns-clause-tid c = rw (← c.self.view_is) (tid_is c.self.inside.entries c.args.s.0 _ c.get.ensures)

pub returns-clause-dispatches : goal.returns-clause-dispatches
returns-clause-dispatches c = c.self.invariant.countable c.args.s.0 _ (entry_is c.self.inside.entries c.args.s.0 _ c.get.ensures)
