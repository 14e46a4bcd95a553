use Rattle.pth_threads.proofs.Entries.{changes, kept_changed}
use Rattle.pth_threads.proofs.threads.Threads.change.Goals as goal

pub invariant_of-self : goal.invariant_of-self
invariant_of-self c = kept_changed c.self.inside.entries _ c.args.s.0 c.args.c _ _ c.self.invariant c.get_mut.ensures.value c.set.ensures (c.get_mut.ensures.changes c.set.new.self) c.requires.countable

pub returns : goal.returns
returns c = rw (← c.self.view_is) (changes c.self.inside.entries _ c.args.s.0 c.args.c _ _ c.self.invariant c.get_mut.ensures.value c.set.ensures (c.get_mut.ensures.changes c.set.new.self))
