-- Until when a blocked thread is not to wake, if nothing changes but time.
use Rattle.std.specs.Prelude.{◌≡◌, ℕ, ◌<◌, ◌≤◌, ◌+◌, ◌&&◌, Bool, false, List, Option, Some, None, All}
use Rattle.pth_base.specs.Program.{Functions}
use Rattle.pth_base.specs.declared.event.EventSpec.{EventSpec}
use Rattle.pth_base.specs.declared.event.EventSpec.TheVariants.{Tid, Func}
use Rattle.pth_base.specs.Limits.{last_moment}
use Rattle.pth_threads.specs.declared.entry.Entry.{Entry}
use Rattle.pth_ring.specs.declared.event.Event.{Event}
use Rattle.pth_ring.specs.declared.event.Status.TheVariants.{Pending}
use Rattle.pth_model.specs.declared.awaits.Awaits.{Awaits}
use Rattle.pth_model.specs.declared.awaits.Awaits.TheVariants.{Alone, AnyDeath, Selection}
use Rattle.pth_model.specs.State.{Control, State, now_of, main}
use Rattle.pth_model.specs.Awaits.{awaits_in}
use Rattle.pth_model.specs.Cancellation.{may_be_canceled}
use Rattle.pth_model.specs.Changes.{blocked_of, entry_of, moves_to, or_nobody}
use Rattle.pth_model.specs.Coming.{has_come}
use Rattle.pth_model.specs.Looks.{found_unasked}
use Rattle.pth_model.specs.Pass.{is_to_wake}
use Rattle.pth_model.specs.RingWaits.{awaited_events, has_settled, ring_held}
use Rattle.pth_model.specs.ThreadControl.{is_dead_in}
use Rattle.pth_model.specs.Transition.{controlled}

-- the next arrival, or what is after the last moment
abbrev pub bound : Option ℕ → ℕ
bound None = last_moment + 1
bound (Some m) = m

-- the deadline of what is awaited at descriptors, or what is after the last moment
abbrev pub deadline_in : Awaits → ℕ
deadline_in (Selection r w x (Some m)) = m
deadline_in a = last_moment + 1

-- until which moment something holds, if it is known of now alone
abbrev pub after_now : {P S H : Type 0} → Control P S H → ℕ
after_now k = now_of k + 1

-- a dead thread that can be joined
abbrev pub is_left_to_join : Option Entry → Bool
is_left_to_join o = is_dead_in o && (or_nobody o).joinable

module _ {P S H : Type 0} (s : State P S H) (until : ℕ) where
  -- An event is asked again only from a moment on, which is later than now. One of a thread or of a function is asked at each pass:
  -- threads change their states in each turn, and a claim makes the next look of each event in its ring due.
  abbrev pub IsSteady : EventSpec → Type 0
  IsSteady (Tid state t) = until ≤ now_of s.control
  IsSteady (Func check arg interval) = until ≤ now_of s.control
  IsSteady spec = Unit {0}

  abbrev pub IsSteadyEvent : Option Event → Type 0
  IsSteadyEvent None = Unit {0}
  IsSteadyEvent (Some v) = IsSteady v.spec

  -- at each moment from now on and before that one an event would be found pending
  abbrev pub IsFoundPending : ℕ → EventSpec → Type 0
  IsFoundPending e spec =
      IsSteady spec
      × ((n : ℕ) → now_of s.control ≤ n → n < until → found_unasked (controlled (moves_to n) s) e spec ≡ Pending)

  abbrev pub FindsPending : ℕ → Option Event → Type 0
  FindsPending e None = Unit {0}
  FindsPending e (Some v) = IsFoundPending e v.spec

  -- and is pending already
  abbrev pub StaysPending : ℕ → Option Event → Type 0
  StaysPending e None = Unit {0}
  StaysPending e (Some v) = (v.status ≡ Pending) × IsFoundPending e v.spec

  abbrev pub AreFoundPending : List ℕ → Type 0
  AreFoundPending es = All (λ e. FindsPending e (s.control.events.events e)) es

  abbrev pub ArePending : List ℕ → Type 0
  ArePending es = All (λ e. StaysPending e (s.control.events.events e)) es

module _ {P S H : Type 0} (s : State P S H) (until : ℕ) where
  -- At each moment from now on and before that one, what t waits for has not come. Who waits for any death is told by the records
  -- of all threads. To be alone only main waits: whether it is, is told by no moment.
  abbrev pub StaysAway : ℕ → Awaits → Type 0
  StaysAway t Alone = t ≡ main
  StaysAway t AnyDeath = (u : ℕ) → is_left_to_join (entry_of s.control u) ≡ false
  StaysAway t a = (n : ℕ) → now_of s.control ≤ n → n < until → has_come (controlled (moves_to n) s) t a ≡ false

  -- t is not to wake before a moment, if nothing changes but time and who is alone, and a look at its ring changes nothing
  pub record IsDormant (t : ℕ) : Type 0 where
    pub away : StaysAway t (awaits_in (blocked_of s.control t))
    pub pending : ArePending s until (awaited_events s.control t)
    pub unasked : may_be_canceled s.control t ≡ false

module _ {P S H : Type 0} (f : P → Functions S H) (s : State P S H) where
  -- t is not to wake, no event of its ring is settled, and none is of a thread or of a function
  pub record IsUndue (t : ℕ) : Type 0 where
    pub unwoken : is_to_wake f s t ≡ false
    pub unsettled : has_settled s.control.events (ring_held (blocked_of s.control t)) ≡ false
    pub steady : All (λ e. IsSteadyEvent s (after_now s.control) (s.control.events.events e)) (awaited_events s.control t)
