use Rattle.pth_cond.proofs.SeatingLaws.{handing_on}
use Rattle.pth_cond.proofs.conditions.handing_on_keeps_ones.Goals as goal

pub returns : goal.returns
returns c = handing_on
