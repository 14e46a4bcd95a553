use Rattle.pth_cond.proofs.ToldOnce.{first_is_told_once}
use Rattle.pth_cond.proofs.rounds.first_of_a_round_is_told_once.Goals as goal

pub returns : goal.returns
returns c = first_is_told_once
