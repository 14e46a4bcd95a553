-- Claims that go, those of a thread or all.
use Rattle.std.specs.Prelude.{Option, None}
use Rattle.pth_base.specs.declared.ids.Tid.{Tid}
use Rattle.pth_ring.specs.declared.event.Event.{Event}
use Rattle.pth_ring.specs.declared.marks.Claims.{Claims}
use Rattle.pth_ring.specs.declared.marks.Claims.TheVariants.{OfThread, OfAll}
use Rattle.pth_ring.specs.Rings.{kept_claim}

-- what is left of a claim
abbrev pub claim_left : Claims → Option Tid → Option Tid
claim_left (OfThread t) claim = kept_claim t.0 claim
claim_left OfAll claim = None

-- an event without such a claim
abbrev pub without_claims : Claims → Event → Event
without_claims gone v = record v { claim = claim_left gone v.claim }
