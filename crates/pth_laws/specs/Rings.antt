-- Rings of events, and the claims of threads that wait for them (pth_wait, and the calls that are given a ring beside).
use Rattle.std.specs.Prelude.{◌≡◌, ◌≤◌, ℕ, true, Some}
use Rattle.pth_base.specs.Chain.{Distinct}
use Rattle.pth_ring.specs.Ring.{ring_holds, turned}
use Rattle.pth_ring.specs.Rings.{is_event}
use Rattle.pth_model.specs.Changes.{blocked_of}
use Rattle.pth_model.specs.RingWaits.{claimant}
use Rattle.pth_model.specs.State.{State}
use Rattle.pth_laws.specs.Clean.{event_held}

pub record AreRingsHeld {P S H : Type 0} (s : State P S H) : Type 0 where
  -- who is blocked by a call that was given an event has a claim, and it stands at that event, unless the call takes its mutex back
  pub held : (t e : ℕ) → event_held (blocked_of s.control t) ≡ Some e → claimant s.control.events e ≡ Some t
  -- two claims on one ring are one: of one thread, at one event
  pub one_claim : (t u e g : ℕ) → claimant s.control.events e ≡ Some t → claimant s.control.events g ≡ Some u → ring_holds g (s.control.events.rings e) ≡ true → (t ≡ u) × (e ≡ g)
  -- so no two threads that are blocked wait for one ring
  pub one_waits : (t u e g : ℕ) → event_held (blocked_of s.control t) ≡ Some e → event_held (blocked_of s.control u) ≡ Some g → ring_holds g (s.control.events.rings e) ≡ true → t ≡ u

pub record AreRingsCircles {P S H : Type 0} (s : State P S H) : Type 0 where
  -- an event stands in its ring
  pub own : (e : ℕ) → is_event s.control.events e ≡ true → ring_holds e (s.control.events.rings e) ≡ true
  -- and only what stands in its own ring has one
  pub begun : (e g : ℕ) → ring_holds g (s.control.events.rings e) ≡ true → ring_holds e (s.control.events.rings e) ≡ true
  -- and what stands in a ring is an event
  pub events : (e g : ℕ) → ring_holds g (s.control.events.rings e) ≡ true → is_event s.control.events g ≡ true
  -- its number is not above that of the last event that was made
  pub made : (e g : ℕ) → ring_holds g (s.control.events.rings e) ≡ true → g ≤ s.control.events.made
  -- nothing stands in a ring twice
  pub once : (e : ℕ) → Distinct (s.control.events.rings e)
  -- the ring of another event of a ring is this ring, read from that event on
  pub rotated : (e g : ℕ) → ring_holds g (s.control.events.rings e) ≡ true → s.control.events.rings g ≡ turned g (s.control.events.rings e)
