use Rattle.pth_turns.proofs.Accounts.{allowed_before}
use Rattle.pth_turns.specs.Turns.{first_account}
use Rattle.pth_turns.proofs.turns.beginnings_are_in_turns.Goals as goal

pub returns : goal.returns
returns c = λ before later h. allowed_before first_account before later h
