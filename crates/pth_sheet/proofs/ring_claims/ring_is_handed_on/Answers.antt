use Rattle.std.proofs.Common.{refl}
use Rattle.pth_numbered.specs.Operands.{number}
use Rattle.pth_sheet.proofs.Claims.{handed_on_at, none_handed_on}
use Rattle.pth_sheet.proofs.ring_claims.ring_is_handed_on.Goals as goal

pub returns-clause-seats : goal.returns-clause-seats
returns-clause-seats p c = λ s i r seats here. handed_on_at s.control.events i (s.control.events.rings (number r)) s.control.conditions seats here

pub returns-clause-no_condition : goal.returns-clause-no_condition
returns-clause-no_condition p c = λ s i r here. none_handed_on s.control.events i (s.control.events.rings (number r)) s.control.conditions here

pub returns-clause-rest : goal.returns-clause-rest
returns-clause-rest p c = λ s r. refl
