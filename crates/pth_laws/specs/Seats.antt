-- Seats of threads and of events at conditions (pth_cond_await, PTH_EVENT_COND).
use Rattle.std.specs.Prelude.{◌≡◌, ◌≤◌, ℕ, true, Some, None, count_by}
use Rattle.pth_cond.specs.declared.seats.Seat.{Seat}
use Rattle.pth_cond.specs.declared.seats.Seat.TheVariants.{Await}
use Rattle.pth_cond.specs.Seats.{is_at}
use Rattle.pth_cond.specs.Conditions.{Condition, has_seat}
use Rattle.pth_model.specs.Changes.{blocked_of}
use Rattle.pth_model.specs.State.{State}
use Rattle.pth_model.specs.Transition.{tid}
use Rattle.pth_laws.specs.Clean.{condition_held}

-- who waits for the notice of a condition has its seat there
abbrev pub AllHaveSeats : {P S H : Type 0} → State P S H → Type 0
AllHaveSeats s = (t c : ℕ) → condition_held (blocked_of s.control t) ≡ Some c → has_seat s.control.conditions c (Await (tid t)) ≡ true

-- how often a seat is taken at a condition, with a mark or without: never where it is not initialised
abbrev pub seats_of : Seat → Condition → ℕ
seats_of u None = 0
seats_of u (Some ts) = count_by (is_at u) ts

-- no seat is taken twice at a condition, neither a thread's nor an event's
abbrev pub NoneSeatedTwice : {P S H : Type 0} → State P S H → Type 0
NoneSeatedTwice s = (c : ℕ) (u : Seat) → seats_of u (s.control.conditions c) ≤ 1
