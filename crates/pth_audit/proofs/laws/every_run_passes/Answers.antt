use Rattle.pth_audit.specs.declared.verdict.Verdict.TheVariants.{Yes}
use Rattle.pth_audit.proofs.Verdicts.{one_verdict, run_lawful}
use Rattle.pth_audit.proofs.laws.every_run_passes.Goals as goal

pub returns : goal.returns
returns p c = λ g i v is. one_verdict _ v Yes is (run_lawful p.P.Program.functions g i)
