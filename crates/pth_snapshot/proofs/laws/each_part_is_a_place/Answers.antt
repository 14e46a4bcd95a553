use Rattle.pth_snapshot.proofs.Finding.{named_there}
use Rattle.pth_snapshot.proofs.Parts.{part_is_place}
use Rattle.pth_snapshot.proofs.laws.each_part_is_a_place.Goals as goal

pub returns-clause-place : goal.returns-clause-place
returns-clause-place p c = λ g i s. part_is_place p.P.Program.functions g i s

pub returns-clause-named : goal.returns-clause-named
returns-clause-named p c = λ g i began s. named_there p.P.Program.functions g began i s
