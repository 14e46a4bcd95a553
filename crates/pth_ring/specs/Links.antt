-- Nodes that name the ones before and after them, by place.
use Rattle.std.specs.Prelude.{◌≡◌, ◌<◌, ◌==◌, ℕ, zero, suc, if◌then◌else◌, List, [], ◌∷◌, Option, Some, None, IsSome}
use Rattle.pth_base.specs.Table.{put}
use Rattle.pth_base.specs.Chain.{StandsIn, Distinct, ClosedChain}
use Rattle.pth_ring.specs.declared.event.Event.{Event}
use Rattle.pth_ring.specs.declared.node.Node.{Node}
use Rattle.pth_ring.specs.Rings.{event_limit}

abbrev pub node_next : Option Node → ℕ
node_next (Some n) = n.next.0
node_next None = 0

abbrev pub node_prev : Option Node → ℕ
node_prev (Some n) = n.prev.0
node_prev None = 0

abbrev pub node_next_id : Option Node → ℕ
node_next_id (Some n) = n.ring.next.0
node_next_id None = 0

abbrev pub node_prev_id : Option Node → ℕ
node_prev_id (Some n) = n.ring.prev.0
node_prev_id None = 0

abbrev pub node_id : Option Node → ℕ
node_id (Some n) = n.id.0
node_id None = 0

abbrev pub node_event : Option Node → Option Event
node_event (Some n) = Some n.event
node_event None = None

-- the place after, and the place before
unfoldable pub next_place : (ℕ → Option Node) → ℕ → ℕ
next_place x u = node_next (x u)

unfoldable pub prev_place : (ℕ → Option Node) → ℕ → ℕ
prev_place x u = node_prev (x u)

-- the numbers of the events after and before, as the node at a place has them
unfoldable pub next_id : (ℕ → Option Node) → ℕ → ℕ
next_id x u = node_next_id (x u)

unfoldable pub prev_id : (ℕ → Option Node) → ℕ → ℕ
prev_id x u = node_prev_id (x u)

-- the number in the node at a place, 0 where there is none
unfoldable pub id_at : (ℕ → Option Node) → ℕ → ℕ
id_at x u = node_id (x u)

-- what is kept of the event at a place
unfoldable pub event_at : (ℕ → Option Node) → ℕ → Option Event
event_at x u = node_event (x u)

-- from u along the links until they lead to the end
unfoldable pub places_along : (ℕ → ℕ) → ℕ → ℕ → ℕ → List ℕ
places_along next zero end u = []
places_along next (suc fuel) end u = u ∷ (if next u == end then [] else places_along next fuel end (next u))

abbrev pub if_some : Option Event → List ℕ → List ℕ
if_some (Some _) xs = xs
if_some None xs = []

-- the places of a ring read from u on, [] where there is no event
unfoldable pub ring : (ℕ → Option Node) → ℕ → List ℕ
ring x u = if_some (event_at x u) (places_along (next_place x) event_limit u u)

-- these places are linked in a circle
pub record IsLinkedRing (x : ℕ → Option Node) (xs : List ℕ) : Type 0 where
  pub links : ClosedChain (next_place x) (prev_place x) xs
  pub distinct : Distinct xs
  pub live : (y : ℕ) → StandsIn y xs → IsSome (event_at x y)
  pub low : (y : ℕ) → StandsIn y xs → y < event_limit

-- each place with an event is linked in a circle
pub record IsLinked (x : ℕ → Option Node) : Type 0 where
  pub low : (u : ℕ) → IsSome (event_at x u) → u < event_limit
  pub circle : (u : ℕ) → IsSome (event_at x u) → (rest : List ℕ) × IsLinkedRing x (u ∷ rest)

-- where there are events, these are the numbers at these places
abbrev pub AreNumbersAt : (event : ℕ → Option Event) → (ids places numbers : ℕ → ℕ) → Type 0
AreNumbersAt event ids places numbers = (u : ℕ) → IsSome (event u) → numbers u ≡ ids (places u)

-- the numbers of the neighbours in a node are those at their places
pub record IsNumbered (x : ℕ → Option Node) : Type 0 where
  pub next : AreNumbersAt (event_at x) (id_at x) (next_place x) (next_id x)
  pub prev : AreNumbersAt (event_at x) (id_at x) (prev_place x) (prev_id x)

-- a and b have exchanged the ones before them
pub record Splices (old new : ℕ → Option Node) (a b : ℕ) : Type 0 where
  pub next : next_place new ≡ put (put (next_place old) (prev_place old a) b) (prev_place old b) a
  pub prev : prev_place new ≡ put (put (prev_place old) b (prev_place old a)) a (prev_place old b)
  pub next_id : next_id new ≡ put (put (next_id old) (prev_place old a) (id_at old b)) (prev_place old b) (id_at old a)
  pub prev_id : prev_id new ≡ put (put (prev_id old) b (id_at old (prev_place old a))) a (id_at old (prev_place old b))
  pub event : event_at new ≡ event_at old
