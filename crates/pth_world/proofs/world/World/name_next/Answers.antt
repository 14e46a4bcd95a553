use Rattle.std.proofs.Common.{ap, refl, option_map}
use Rattle.pth_model.specs.State.{Scheduler}
use Rattle.pth_threads.specs.Threads.{number_of}
use Rattle.pth_world.proofs.Scheduling.{scheduler_shows, scheduler_whole}
use Rattle.pth_world.proofs.world.World.name_next.Goals as goal

pub returns-clause-shows : goal.returns-clause-shows
returns-clause-shows g c = rw (← c.self.view_is) (λ k sh. scheduler_shows _ _ k _ sh (ap (λ (x : Scheduler). record x { preferred = option_map number_of c.args.t }) sh.scheduler))

pub returns-clause-whole : goal.returns-clause-whole
returns-clause-whole g c = rw (← c.self.view_is) (λ whole. scheduler_whole _ _ refl whole)
