use Rattle.pth_laws.proofs.Waiting.{all_ask}
use Rattle.pth_laws.proofs.states.consistent_waits_ask_no_more.Goals as goal

pub returns : goal.returns
returns p c = λ s r. all_ask p.P.Program.functions s r.rightly
