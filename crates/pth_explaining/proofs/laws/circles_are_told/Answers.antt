use Rattle.pth_explaining.proofs.Rounds.{all, each}
use Rattle.pth_explaining.proofs.laws.circles_are_told.Goals as goal

pub returns-clause-each : goal.returns-clause-each
returns-clause-each c = λ blocks ts is. each blocks ts is

pub returns-clause-all : goal.returns-clause-all
returns-clause-all c = λ blocks ts circle least. all blocks ts circle least
