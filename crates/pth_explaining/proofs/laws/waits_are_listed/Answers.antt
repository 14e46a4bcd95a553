use Rattle.pth_explaining.proofs.Listed.{listed}
use Rattle.pth_explaining.proofs.laws.waits_are_listed.Goals as goal

pub returns : goal.returns
returns c = λ marks t. listed marks t
