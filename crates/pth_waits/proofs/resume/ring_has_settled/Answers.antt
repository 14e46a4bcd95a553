use Rattle.std.proofs.Common.{◌≡◌, ◌∙◌, ap, ap₂, option_copied, Some, sym}
use Rattle.pth_model.specs.declared.blocked.Blocked.{Blocked}
use Rattle.pth_model.specs.RingWaits.{has_settled, ring_given}
use Rattle.pth_ring.specs.Arena.{events_of}
use Rattle.pth_waits.proofs.resume.ring_has_settled.Goals as goal

pub returns-in-Some : goal.returns-in-Some
returns-in-Some g c s b st has =
    let held : Some c.in-Some.blocked.now ≡ Some b = ap (λ o. option_copied o) (sym c.in-Some.is) ∙ c.blocked.ensures.blocked s.control st.control ∙ has in
    let is : c.in-Some.blocked.now ≡ b = cc in
    c.has_settled.ensures ∙ ap₂ has_settled (ap events_of c.rings.ensures ∙ sym st.control.events) (c.ring_given.ensures ∙ ap (λ (x : Blocked). ring_given x.call) is)

pub returns-in-None : goal.returns-in-None
returns-in-None g c s b st has = absurd (cc (ap (λ o. option_copied o) (sym c.in-None.is) ∙ c.blocked.ensures.blocked s.control st.control ∙ has))
