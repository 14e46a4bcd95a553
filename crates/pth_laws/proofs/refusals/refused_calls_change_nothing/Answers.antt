use Rattle.pth_laws.proofs.Refusing.{refuses_so}
use Rattle.pth_laws.proofs.refusals.refused_calls_change_nothing.Goals as goal

pub returns : goal.returns
returns p c = λ s t k e. refuses_so p.P.Program.functions t e k s
