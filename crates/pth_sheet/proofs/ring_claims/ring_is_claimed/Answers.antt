use Rattle.std.proofs.Common.{◌∙◌, ◌++◌, Some, ap, refl}
use Rattle.pth_numbered.specs.Operands.{number}
use Rattle.pth_ring.specs.Rings.{claimed}
use Rattle.pth_model.specs.RingWaits.{claims}
use Rattle.pth_model.specs.State.{now_of}
use Rattle.pth_model.specs.Transition.{tid}
use Rattle.pth_sheet.specs.Events.{entered_by}
use Rattle.pth_sheet.proofs.Claims.{claimed_event, entered_at, none_entered, same_events_at}
use Rattle.pth_sheet.proofs.ring_claims.ring_is_claimed.Goals as goal

pub returns-clause-events : goal.returns-clause-events
unfolding claims
returns-clause-events p c = λ s t e r x here.
    claimed_event (s.control.events.rings (number r)) s.control.events.events (number r) (now_of s.control) (tid t) e x here

pub returns-clause-seats : goal.returns-clause-seats
unfolding claims
returns-clause-seats p c = λ s t i r seats here.
    let ring = s.control.events.rings (number r) in
    entered_at (claimed (number r) (tid t) (now_of s.control) s.control.events) i ring s.control.conditions seats here
    ∙ ap (λ es. Some (seats ++ entered_by es)) (same_events_at ring s.control.events.events (number r) (now_of s.control) (tid t) i ring)

pub returns-clause-no_condition : goal.returns-clause-no_condition
unfolding claims
returns-clause-no_condition p c = λ s t i r here.
    none_entered (claimed (number r) (tid t) (now_of s.control) s.control.events) i (s.control.events.rings (number r)) s.control.conditions here

pub returns-clause-rest : goal.returns-clause-rest
unfolding claims
returns-clause-rest p c = λ s t r. refl

pub returns-clause-null : goal.returns-clause-null
unfolding claims
returns-clause-null p c = λ s t. refl
