use Rattle.pth_threads.proofs.Objects.{exchanged, kept_exchanged}
use Rattle.pth_threads.proofs.attrs.Attrs.exchange.Goals as goal

pub invariant_of-self : goal.invariant_of-self
invariant_of-self c = kept_exchanged (record { objects = c.self.inside.objects; top = c.self.inside.top }) _ c.args.s.0 c.args.object (c.get_mut.ensures.changes c.args.object) c.self.invariant (rw (← c.self.view_is) at c.requires.allowed)

pub returns : goal.returns
returns c = rw (← c.self.view_is) (exchanged (record { objects = c.self.inside.objects; top = c.self.inside.top }) _ c.args.s.0 c.args.object (c.get_mut.ensures.changes c.args.object) (rw (← c.self.view_is) at c.requires.kept) (rw (← c.self.view_is) at c.requires.used))
