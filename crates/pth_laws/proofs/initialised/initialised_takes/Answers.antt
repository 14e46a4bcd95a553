use Rattle.pth_laws.proofs.Refused.{owners_taken}
use Rattle.pth_laws.proofs.initialised.initialised_takes.Goals as goal

pub returns : goal.returns
returns c = owners_taken
