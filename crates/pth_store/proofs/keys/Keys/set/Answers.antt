use Rattle.pth_store.proofs.Calls.{kept-set}
use Rattle.pth_store.proofs.keys.Keys.set.Goals as goal

pub invariant_of-self-in-Ok : goal.invariant_of-self-in-Ok
invariant_of-self-in-Ok c = kept-set c.self.inside.keys _ c.self.invariant c.in-Ok.key c.in-Ok.ensures.low _ _ _ _ c.in-Ok.ensures.named c.in-Ok.ensures.known c.in_ok-set_at-in-Ok.ensures.ok
