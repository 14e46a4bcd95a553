use Rattle.pth_store.proofs.Calls.{kept-forgotten}
use Rattle.pth_store.proofs.keys.Keys.forget.Goals as goal

pub invariant_of-self : goal.invariant_of-self
invariant_of-self c = kept-forgotten c.self.inside.keys _ c.self.invariant _ _ c.clear_row.ensures
