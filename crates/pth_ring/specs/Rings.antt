-- Events and the rings in which they stand, by their numbers (pth_event, pth_event_concat, pth_event_isolate, pth_event_walk,
-- pth_event_status, pth_event_typeof, pth_event_free).
use Rattle.std.specs.Prelude.{ℕ, ◌+◌, ◌==◌, Bool, true, false, not, ◌&&◌, ◌||◌, if◌then◌else◌, List, [], ◌∷◌, ◌++◌, reverse, find, count_by, Option, Some, None, is_some, option_map, Result, Ok, Err, ◌≡◌}
use Rattle.std.specs.List.{list_any}
use Rattle.std.specs.Option.{ok_or}
use Rattle.pth_base.specs.Table.{put}
use Rattle.pth_base.specs.declared.errno.Errno.{Errno}
use Rattle.pth_base.specs.declared.errno.Errno.TheVariants.{EAGAIN, EBUSY, EINVAL, ENOENT}
use Rattle.pth_base.specs.declared.event.EventSpec.{EventSpec}
use Rattle.pth_base.specs.declared.event.EventSpec.TheVariants as of
use Rattle.pth_base.specs.declared.ids.EventId.{EventId}
use Rattle.pth_base.specs.declared.ids.Tid.{Tid}
use Rattle.pth_base.specs.declared.refusal.Refusal.{Refusal}
use Rattle.pth_base.specs.declared.refusal.Refusal.TheVariants.{Fail, OutOfMemory}
use Rattle.pth_numbered.specs.Numbered.{number_known}
use Rattle.pth_ring.specs.declared.event.Event.{Event}
use Rattle.pth_ring.specs.declared.event.Status.{Status}
use Rattle.pth_ring.specs.declared.event.Status.TheVariants.{Pending, Occurred, Failed}
use Rattle.pth_ring.specs.Ring.{ring_holds, circle, each, rest_of, head_event, last_event, turned_once}

-- the events by their numbers
pub record Events : Type 0 where
  -- the ring of an event read from it on, [] where there is no such event
  pub rings : ℕ → List ℕ
  -- what is kept of an event
  pub events : ℕ → Option Event
  -- how many there ever were
  pub made : ℕ

-- how many events there may be at once
abbrev pub event_limit : ℕ
event_limit = 4096

abbrev pub event_id : ℕ → EventId
event_id n = record { 0 = n }

-- ---- events

-- a new event
abbrev pub pending : EventSpec → Event
pending spec = record { spec = spec; status = Pending; next_look = 0; claim = None }

-- the number that stands for what an event is of (pth_event_typeof)
abbrev pub kind_of : EventSpec → ℕ
kind_of (of.Fd goals fd) = 1
kind_of (of.Select r w x) = 2
kind_of (of.Time at) = 3
kind_of (of.Msg p) = 4
kind_of (of.Tid state t) = 5
kind_of (of.Func check arg interval) = 6
kind_of (of.Cond c) = 7

abbrev pub is_pending : Status → Bool
is_pending Pending = true
is_pending Occurred = false
is_pending Failed = false

abbrev pub is_occurred : Status → Bool
is_occurred Pending = false
is_occurred Occurred = true
is_occurred Failed = false

abbrev pub with_status : Status → Event → Event
with_status status v = record v { status = status }

abbrev pub with_next_look : ℕ → Event → Event
with_next_look at v = record v { next_look = at }

abbrev pub with_claim : Option Tid → Event → Event
with_claim claim v = record v { claim = claim }

-- an event that is waited for from now on
abbrev pub awaited : ℕ → Event → Event
awaited now v = record v { status = Pending; next_look = now }

-- a claim, unless it is that of a thread
abbrev pub kept_claim : ℕ → Option Tid → Option Tid
kept_claim t None = None
kept_claim t (Some holder) = if holder.0 == t then None else Some holder

-- an event without the claim of a thread
abbrev pub released : ℕ → Event → Event
released t v = record v { claim = kept_claim t v.claim }

-- ---- tests

-- an event has a claim, has occurred, or is not pending any more
abbrev pub has_claim : Option Event → Bool
has_claim (Some v) = is_some v.claim
has_claim None = false

abbrev pub has_occurred : Option Event → Bool
has_occurred (Some v) = is_occurred v.status
has_occurred None = false

abbrev pub is_settled : Option Event → Bool
is_settled (Some v) = not (is_pending v.status)
is_settled None = false

-- there is such an event
abbrev pub is_event : Events → ℕ → Bool
is_event x e = is_some (x.events e)

-- some event of its ring has a claim
abbrev pub is_claimed : Events → ℕ → Bool
is_claimed x e = list_any (λ y. has_claim (x.events y)) (x.rings e)

-- there are as many events as there may be
abbrev pub is_full_of_events : Events → Bool
is_full_of_events x = number_known x.events x.made == event_limit

-- how many events of its ring are not pending
abbrev pub settled_in : Events → ℕ → ℕ
settled_in x e = count_by (λ y. is_settled (x.events y)) (x.rings e)

-- the event after it in its ring
abbrev pub event_after : Events → ℕ → Option ℕ
event_after x e = head_event (turned_once (x.rings e))

-- the event before it in its ring
abbrev pub event_before : Events → ℕ → Option ℕ
event_before x e = last_event (x.rings e)

-- ---- answers: the tests stand in order, and the first that holds is the answer

-- why a call on the ring of e is refused
abbrev pub ring_refusal : Events → ℕ → Option Errno
ring_refusal x e =
    if not (is_event x e) then Some EINVAL else
    if is_claimed x e then Some EBUSY else
    None

-- why two rings don't become one
abbrev pub concat_refusal : Events → ℕ → ℕ → Option Errno
concat_refusal x a b =
    if not (is_event x a && is_event x b) then Some EINVAL else
    if ring_holds a (x.rings b) then Some EINVAL else
    if is_claimed x a || is_claimed x b then Some EBUSY else
    None

-- the refusal, or else the answer
abbrev pub unless : {A : Type 0} → Option Errno → Result A Errno → Result A Errno
unless (Some e) answer = Err e
unless None answer = answer

-- an event is made
abbrev pub make_answer : Events → Result ℕ Errno
make_answer x =
    if is_full_of_events x then Err EAGAIN else
    Ok (x.made + 1)

-- an event is made just before e
abbrev pub chain_answer : Events → ℕ → Result ℕ Errno
chain_answer x e = unless (ring_refusal x e) (make_answer x)

-- two rings become one
abbrev pub concat_answer : Events → ℕ → ℕ → Result (Unit {0}) Errno
concat_answer x a b = unless (concat_refusal x a b) (Ok tt)

-- an event is taken out of its ring: the next one of the rest
abbrev pub isolate_answer : Events → ℕ → Result (Option EventId) Errno
isolate_answer x e = unless (ring_refusal x e) (Ok (option_map event_id (head_event (rest_of (x.rings e)))))

-- an event is freed, or its ring
abbrev pub free_answer : Events → ℕ → Result (Unit {0}) Errno
free_answer x e = unless (ring_refusal x e) (Ok tt)

-- a thread claims a ring
abbrev pub claim_answer : Events → ℕ → Result (Unit {0}) Errno
claim_answer x e = unless (ring_refusal x e) (Ok tt)

-- the events at which a walk from e looks, in their order: e is the last
abbrev pub candidates : Bool → List ℕ → List ℕ
candidates true ring = turned_once ring
candidates false ring = reverse ring

-- the first of them, or the first that has occurred
abbrev pub walk_end : Bool → (ℕ → Option Event) → List ℕ → Option ℕ
walk_end true events ring = find (λ y. has_occurred (events y)) ring
walk_end false events ring = head_event ring

-- a walk
abbrev pub walk_answer : Events → ℕ → Bool → Bool → Result EventId Errno
walk_answer x e forward until_occurred =
    if not (is_event x e) then Err EINVAL else
    ok_or (option_map event_id (walk_end until_occurred x.events (candidates forward (x.rings e)))) ENOENT

-- a status is read, as it was set last
abbrev pub status_answer : Events → ℕ → Result Status Errno
status_answer x e = ok_or (option_map (λ (v : Event). v.status) (x.events e)) EINVAL

-- what an event is of
abbrev pub kind_answer : Events → ℕ → Result ℕ Errno
kind_answer x e = ok_or (option_map (λ (v : Event). kind_of v.spec) (x.events e)) EINVAL

-- how a call that takes memory is answered: a refusal comes for certain, and else the number or want of memory
abbrev pub AnswersEvent : Result ℕ Errno → Result EventId Refusal → Type 0
AnswersEvent (Err e) r = r ≡ Err (Fail e)
AnswersEvent (Ok n) (Ok e) = e.0 ≡ n
AnswersEvent (Ok n) (Err e) = e ≡ OutOfMemory

-- ---- changes

-- no events
abbrev pub no_events : Events
no_events = record { rings = λ _. []; events = λ _. None; made = 0 }

-- one more event, which stands alone
abbrev pub alone : EventSpec → Events → Events
alone spec x = record { rings = circle ((x.made + 1) ∷ []) x.rings; events = put x.events (x.made + 1) (Some (pending spec)); made = x.made + 1 }

-- one more event, which stands just before e
abbrev pub chained : EventSpec → ℕ → Events → Events
chained spec e x = record { rings = circle (x.rings e ++ (x.made + 1) ∷ []) x.rings; events = put x.events (x.made + 1) (Some (pending spec)); made = x.made + 1 }

-- two rings are one, read from a and then from b
abbrev pub concatenated : ℕ → ℕ → Events → Events
concatenated a b x = record x { rings = circle (x.rings a ++ x.rings b) x.rings }

-- an event stands alone, and so does the rest of its ring
abbrev pub isolated : ℕ → Events → Events
isolated e x = record x { rings = circle (e ∷ []) (circle (rest_of (x.rings e)) x.rings) }

-- an event is gone, and the rest of its ring stands alone
abbrev pub freed : ℕ → Events → Events
freed e x = record x { rings = put (circle (rest_of (x.rings e)) x.rings) e []; events = put x.events e None }

-- a ring is gone
abbrev pub ring_freed : ℕ → Events → Events
ring_freed e x = record x { rings = each (x.rings e) (λ _. []) x.rings; events = each (x.rings e) (λ _. None) x.events }

-- what is kept of an event is changed
abbrev pub with_event : (Event → Event) → ℕ → Events → Events
with_event g e x = record x { events = put x.events e (option_map g (x.events e)) }

-- what is kept of each event is changed
abbrev pub with_each_event : (Event → Event) → Events → Events
with_each_event g x = record x { events = λ e. option_map g (x.events e) }

-- all events of a ring are waited for from now on
abbrev pub ring_awaited : ℕ → ℕ → Events → Events
ring_awaited e now x = record x { events = each (x.rings e) (option_map (awaited now)) x.events }

-- a thread waits for a ring, and its claim stands at e
abbrev pub claimed : ℕ → Tid → ℕ → Events → Events
claimed e t now x = with_event (with_claim (Some t)) e (ring_awaited e now x)

-- a thread has no claim any more
abbrev pub unclaimed : ℕ → Events → Events
unclaimed t x = with_each_event (released t) x

-- no event has a claim any more
abbrev pub all_unclaimed : Events → Events
all_unclaimed x = with_each_event (with_claim None) x
