use Rattle.pth_drawing.proofs.TurnsTold.{all_told, each_told}
use Rattle.pth_drawing.proofs.laws.turns_are_told.Goals as goal

pub returns-clause-all : goal.returns-clause-all
returns-clause-all c = all_told

pub returns-clause-each : goal.returns-clause-each
returns-clause-each c = each_told
