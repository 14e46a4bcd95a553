use Rattle.pth_agreement.proofs.WholeRuns.{trace_kept}
use Rattle.pth_agreement.proofs.traces.every_run_keeps_its_trace.Goals as goal

pub returns : goal.returns
returns p c = record { keeps = λ g i. trace_kept p.P.Program.functions g i }
