use Rattle.std.proofs.Common.{ap, refl}
use Rattle.pth_model.specs.State.{Scheduler}
use Rattle.pth_world.proofs.Scheduling.{scheduler_shows, scheduler_whole}
use Rattle.pth_world.proofs.world.World.set_favour.Goals as goal

pub returns-clause-shows : goal.returns-clause-shows
returns-clause-shows g c = rw (← c.self.view_is) (λ k sh. scheduler_shows _ _ k _ sh (ap (λ (x : Scheduler). record x { favour_new = c.args.on }) sh.scheduler))

pub returns-clause-whole : goal.returns-clause-whole
returns-clause-whole g c = rw (← c.self.view_is) (λ whole. scheduler_whole _ _ refl whole)
