use Rattle.pth_turns.proofs.Refused.{all_allowed}
use Rattle.pth_turns.proofs.turns.in_turns_takes.Goals as goal

pub returns : goal.returns
returns c = all_allowed
