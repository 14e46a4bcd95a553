use Rattle.pth_lock.proofs.Ownerships.{sound}
use Rattle.pth_lock.proofs.mutexes.Mutexes.owner.Goals as goal

pub returns-clause-sound : goal.returns-clause-sound
returns-clause-sound c = rw (← c.self.view_is) (sound c.self.inside.mutexes c.self.inside.sets c.self.invariant)
