use Rattle.pth_snapshot.proofs.Finding.{found}
use Rattle.pth_snapshot.proofs.laws.saved_runs_are_found.Goals as goal

pub returns : goal.returns
returns c = λ input g i gives s r loaded. found input g i gives s r loaded
