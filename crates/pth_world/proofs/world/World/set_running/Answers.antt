use Rattle.std.proofs.Common.{ap, refl, option_map}
use Rattle.pth_model.specs.State.{Scheduler}
use Rattle.pth_threads.specs.Threads.{number_of}
use Rattle.pth_world.proofs.Scheduling.{scheduler_shows}
use Rattle.pth_world.proofs.Moves.{rerun_but}
use Rattle.pth_world.proofs.world.World.set_running.Goals as goal

pub returns-clause-shows : goal.returns-clause-shows
returns-clause-shows g c = rw (← c.self.view_is) (λ k sh. scheduler_shows _ _ k _ sh (ap (λ (x : Scheduler). record x { running = option_map number_of c.args.t }) sh.scheduler))

pub returns-clause-but : goal.returns-clause-but
returns-clause-but g c = rw (← c.self.view_is) (λ u before after but. rerun_but _ _ u refl refl refl before after but)
