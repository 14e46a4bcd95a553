-- The seats of a condition, in order of entry, with their marks, and a law of how marks are handed on.
use Rattle.std.specs.Prelude.{◌≡◌, ◌≢◌, ℕ, ◌+◌, ◌<◌, ◌==◌, Bool, true, false, not, if◌then◌else◌, List, [], ◌∷◌, ◌++◌, map, count_by, Option, Some, None, is_some, ◌&&◌}
use Rattle.std.specs.List.{list_any}
use Rattle.pth_cond.specs.declared.seats.Seat.{Seat}
use Rattle.pth_cond.specs.declared.seats.Seat.TheVariants.{Await, Event}
use Rattle.pth_cond.specs.declared.seats.SeatMark.{SeatMark}
use Rattle.pth_cond.specs.declared.seats.SeatMark.TheVariants.{Unmarked, One, All}
use Rattle.pth_cond.specs.declared.seats.Taken.{Taken}

-- ---- tests

-- two seats are the same
abbrev pub is_seat : Seat → Seat → Bool
is_seat (Await t) (Await u) = t.0 == u.0
is_seat (Await t) (Event e) = false
is_seat (Event e) (Await t) = false
is_seat (Event e) (Event f) = e.0 == f.0

-- the number of whose seat it is, a thread or an event
abbrev pub seat_number : Seat → ℕ
seat_number (Await t) = t.0
seat_number (Event e) = e.0

-- a seat that is taken is this one
abbrev pub is_at : Seat → Taken → Bool
is_at s t = is_seat t.seat s

-- a seat is an event's
abbrev pub is_event : Seat → Bool
is_event (Await t) = false
is_event (Event e) = true

abbrev pub is_mark : SeatMark → Bool
is_mark Unmarked = false
is_mark One = true
is_mark All = true

abbrev pub is_one : SeatMark → Bool
is_one Unmarked = false
is_one One = true
is_one All = false

abbrev pub is_all : SeatMark → Bool
is_all Unmarked = false
is_all One = false
is_all All = true

-- the mark of a seat: none where nobody has it
abbrev pub mark_at : Seat → List Taken → Option SeatMark
mark_at s [] = None
mark_at s (t ∷ ts) = if is_at s t then Some t.mark else mark_at s ts

-- the mark of a seat, if it has one, is One
abbrev pub is_one_at : Option SeatMark → Bool
is_one_at (Some n) = is_one n
is_one_at None = false

-- the mark of a seat, if it has one, is one
abbrev pub is_marked_at : Option SeatMark → Bool
is_marked_at (Some n) = is_mark n
is_marked_at None = false

abbrev pub has_mark : Taken → Bool
has_mark t = is_mark t.mark

-- how many seats have a mark
abbrev pub marks : List Taken → ℕ
marks ts = count_by has_mark ts

-- how many seats events have
abbrev pub event_seats : List Taken → ℕ
event_seats ts = count_by (λ t. is_event t.seat) ts

-- none without a mark stands before one that has a mark
abbrev pub marks_stand_first : List Taken → Bool
marks_stand_first [] = true
marks_stand_first (t ∷ ts) = if has_mark t then marks_stand_first ts else not (list_any has_mark ts)

-- ---- changes

-- one more, without a mark
abbrev pub with_seat : Seat → List Taken → List Taken
with_seat s ts = ts ++ (record { seat = s; mark = Unmarked } ∷ [])

-- a seat is left, if anybody has it: the first, where it was entered more than once
abbrev pub without_seat : Seat → List Taken → List Taken
without_seat s [] = []
without_seat s (t ∷ ts) = if is_at s t then ts else t ∷ without_seat s ts

-- the first without a mark has the mark One
abbrev pub one_notified : List Taken → List Taken
one_notified [] = []
one_notified (t ∷ ts) = if has_mark t then t ∷ one_notified ts else record t { mark = One } ∷ ts

-- each without a mark has the mark All
abbrev pub all_notified : List Taken → List Taken
all_notified ts = map (λ t. if has_mark t then t else record t { mark = All }) ts

abbrev pub notified : Bool → List Taken → List Taken
notified all ts = if all then all_notified ts else one_notified ts

-- a seat is left, and its mark One goes to the first without a mark
abbrev pub handed_on : Seat → List Taken → List Taken
handed_on s ts = if is_one_at (mark_at s ts) then one_notified (without_seat s ts) else without_seat s ts

-- how many seats of events go with a seat that is left, of which this was the mark: none where nobody had it
abbrev pub event_seats_gone : Seat → Option SeatMark → ℕ
event_seats_gone s mark = if is_some mark && is_event s then 1 else 0

-- ---- how seats are kept

-- what holds of the seats of a condition, with how many of them have a mark
pub record SeatsAreKept (marked : ℕ) (ts : List Taken) : Type 0 where
  pub count : marks ts ≡ marked
  pub order : marks_stand_first ts ≡ true

-- ---- a law

-- how many seats have the mark One, and how many the mark All
abbrev pub seats_with_one : List Taken → ℕ
seats_with_one ts = count_by (λ t. is_one t.mark) ts

abbrev pub seats_with_all : List Taken → ℕ
seats_with_all ts = count_by (λ t. is_all t.mark) ts

-- how many have none
abbrev pub unmarked : List Taken → ℕ
unmarked ts = count_by (λ t. not (has_mark t)) ts

-- a mark One is not lost while another seat has none: as many seats have it after one of them was handed on
pub record HandingOnKeepsOnes : Type 0 where
  pub kept : (s : Seat) (ts : List Taken) → mark_at s ts ≡ Some One → 0 < unmarked ts → seats_with_one (handed_on s ts) ≡ seats_with_one ts
  -- one that had no mark has it then
  pub given : (s : Seat) (ts : List Taken) → mark_at s ts ≡ Some One → 0 < unmarked ts → unmarked (handed_on s ts) + 1 ≡ unmarked ts
  -- where each has a mark, it is lost
  pub lost : (s : Seat) (ts : List Taken) → mark_at s ts ≡ Some One → unmarked ts ≡ 0 → seats_with_one (handed_on s ts) + 1 ≡ seats_with_one ts
  -- a seat without that mark takes none along
  pub others : (s : Seat) (ts : List Taken) → mark_at s ts ≢ Some One → seats_with_one (handed_on s ts) ≡ seats_with_one ts
  -- the mark All is not handed on
  pub stays : (s : Seat) (ts : List Taken) → mark_at s ts ≢ Some All → seats_with_all (handed_on s ts) ≡ seats_with_all ts
