use Rattle.pth_store.proofs.Calls.{kept-unset}
use Rattle.pth_store.proofs.keys.Keys.unset.Goals as goal

pub invariant_of-self : goal.invariant_of-self
invariant_of-self c = kept-unset c.self.inside.keys _ c.self.invariant _ c.args.k c.args.s.0 c.clear_at.ensures
