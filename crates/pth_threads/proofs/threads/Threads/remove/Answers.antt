use Rattle.pth_threads.proofs.Entries.{removed, kept_removed}
use Rattle.pth_threads.proofs.threads.Threads.remove.Goals as goal

pub invariant_of-self : goal.invariant_of-self
invariant_of-self c = kept_removed c.self.inside.entries c.remove.new.self c.args.s.0 c.self.invariant c.remove.ensures.kept c.remove.ensures.removes

pub returns : goal.returns
returns c = rw (← c.self.view_is) (removed c.self.inside.entries c.remove.new.self c.args.s.0 c.self.invariant c.remove.ensures.kept c.remove.ensures.removes)
