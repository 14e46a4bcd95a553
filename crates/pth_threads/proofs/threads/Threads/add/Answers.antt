use Rattle.pth_threads.proofs.Entries.{added, kept_added}
use Rattle.pth_threads.proofs.threads.Threads.add.Goals as goal

pub invariant_of-self-2 : goal.invariant_of-self-2
invariant_of-self-2 c =
    kept_added c.self.inside.entries c.add.new.self c.in_ok-slot.slot.0 c.args.of c.self.invariant c.add.ensures.kept (rw (c.new.ensures, c.made.ensures.value) at c.in_ok-slot.ensures.ok)

pub returns-clause-ok : goal.returns-clause-ok
returns-clause-ok c =
    rw (← c.self.view_is, c.made.ensures.value) (added c.self.inside.entries c.add.new.self c.in_ok-slot.slot.0 c.args.of c.self.invariant c.add.ensures.kept (rw (c.new.ensures, c.made.ensures.value) at c.in_ok-slot.ensures.ok))
