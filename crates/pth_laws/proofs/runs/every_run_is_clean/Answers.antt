use Rattle.pth_laws.proofs.Arrivals.{run_arrived}
use Rattle.pth_laws.proofs.EveryRun.{run_clean}
use Rattle.pth_laws.proofs.EventsSeated.{run_events}
use Rattle.pth_laws.proofs.Seated.{run_seats}
use Rattle.pth_laws.proofs.runs.every_run_is_clean.Goals as goal

pub returns : goal.returns
returns p c = λ g i on. let f = p.P.Program.functions in run_clean f g i on (λ b round t h. run_arrived f g i b round t h) (λ c t h. run_seats f g i c t h) (λ c e h. run_events f g i c e h)
