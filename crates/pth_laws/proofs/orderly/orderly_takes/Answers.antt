use Rattle.pth_laws.proofs.Refused.{destroyed_taken}
use Rattle.pth_laws.proofs.orderly.orderly_takes.Goals as goal

pub returns : goal.returns
returns c = destroyed_taken
