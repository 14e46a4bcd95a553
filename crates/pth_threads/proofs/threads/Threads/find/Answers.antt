use Rattle.pth_threads.proofs.Entries.{empty}
use Rattle.pth_threads.proofs.threads.Threads.find.Goals as goal

pub returns-clause-empty : goal.returns-clause-empty
returns-clause-empty c = rw (← c.self.view_is) (empty c.self.inside.entries c.self.invariant c.find.ensures.kept)
