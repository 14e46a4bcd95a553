use Rattle.pth_agreement.proofs.LongerScripts.{lines_agree, never_again}
use Rattle.pth_agreement.proofs.scripts.longer_scripts_agree.Goals as goal

pub returns-clause-agrees : goal.returns-clause-agrees
returns-clause-agrees c = λ b lines g i never. lines_agree b lines g i never

pub returns-clause-again : goal.returns-clause-again
returns-clause-again c = λ b d lines g i never nor_there. never_again b d lines g i never nor_there
