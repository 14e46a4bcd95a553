-- The node of an event, told by the rings.
use Rattle.std.specs.Prelude.{◌≢◌, ℕ, Option, Some, option_map, option_and_then}
use Rattle.pth_ring.specs.declared.event.RingNode.{RingNode}
use Rattle.pth_ring.specs.Rings.{Events, event_id, event_after, event_before}

abbrev pub a_ring_node : (prev next : ℕ) → RingNode
a_ring_node prev next = record { prev = event_id prev; next = event_id next }

-- the node of an event: the events before and after it in its ring. None where there is no such event
abbrev pub ring_node : Events → ℕ → Option RingNode
ring_node x e = option_and_then (λ prev. option_map (λ next. a_ring_node prev next) (event_after x e)) (event_before x e)

-- the event that a node names as the next
abbrev pub next_event : Events → ℕ → Option ℕ
next_event x e = option_map (λ (n : RingNode). n.next.0) (ring_node x e)

-- the event that a node names as the one before
abbrev pub prev_event : Events → ℕ → Option ℕ
prev_event x e = option_map (λ (n : RingNode). n.prev.0) (ring_node x e)

-- d is neither e nor the event before it
pub record IsClear (d e : ℕ) (x : Events) : Type 0 where
  pub other : d ≢ e
  pub prev : prev_event x e ≢ Some d

-- d is neither e nor one of its two neighbours
pub record IsApart (d e : ℕ) (x : Events) : Type 0 where
  pub clear : IsClear d e x
  pub next : next_event x e ≢ Some d
