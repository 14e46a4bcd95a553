use Rattle.std.proofs.Common.{refl}
use Rattle.pth_numbered.specs.Operands.{number}
use Rattle.pth_model.specs.Awaits.{is_retaking}
use Rattle.pth_model.specs.Changes.{goes_on}
use Rattle.pth_model.specs.RingWaits.{gives_back, stops_waiting}
use Rattle.pth_sheet.proofs.Cases.{by_cases}
use Rattle.pth_sheet.proofs.Claims.{left_at, none_left_at, returned_event}
use Rattle.pth_sheet.proofs.ring_claims.ring_is_given_back.Goals as goal

pub returns-clause-events : goal.returns-clause-events
unfolding stops_waiting gives_back goes_on
returns-clause-events p c = λ s t e r x has here.
    rw (has.blocks, has.waits, has.given) (returned_event s.control.events.events (number r) e x here)

pub returns-clause-seats : goal.returns-clause-seats
unfolding stops_waiting gives_back goes_on
returns-clause-seats p c = λ s t i r seats has here once.
    rw (has.blocks, has.waits, has.given) (left_at s.control.events i (s.control.events.rings (number r)) s.control.conditions seats here once)

pub returns-clause-no_condition : goal.returns-clause-no_condition
unfolding stops_waiting gives_back goes_on
returns-clause-no_condition p c = λ s t i r has here.
    rw (has.blocks, has.waits, has.given) (none_left_at s.control.events i (s.control.events.rings (number r)) s.control.conditions here)

pub returns-clause-rest : goal.returns-clause-rest
unfolding stops_waiting gives_back goes_on
returns-clause-rest p c = λ s t r has. rw (has.blocks, has.waits, has.given) refl

pub returns-clause-no_ring : goal.returns-clause-no_ring
unfolding stops_waiting gives_back
returns-clause-no_ring p c = λ s t call a blocks none.
    by_cases (is_retaking a) (λ b0. rw (blocks, b0) refl) (λ b0. rw (blocks, b0, none) refl)

pub returns-clause-retaking : goal.returns-clause-retaking
unfolding stops_waiting gives_back
returns-clause-retaking p c = λ s t call m o blocks. rw (blocks) refl
