use Rattle.pth_print.proofs.Made.{made}
use Rattle.pth_print.proofs.laws.each_call_is_made_of_its_parts.Goals as goal

pub returns : goal.returns
returns c = made
