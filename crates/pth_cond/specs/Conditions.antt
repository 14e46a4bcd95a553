-- Conditions: which are initialised, and who has which seat at each (pth_cond_init, pth_cond_await, pth_cond_notify).
use Rattle.std.specs.Prelude.{◌≡◌, ℕ, ◌<◌, ◌≤◌, ◌^◌, ℤ, Bool, true, false, not, if◌then◌else◌, List, [], length, Option, Some, None, is_some, is_none, option_map, Result, Ok, Err, sum_by}
use Rattle.std.specs.List.{list_any}
use Rattle.pth_base.specs.Table.{put, table}
use Rattle.pth_base.specs.declared.ids.EventId.{EventId}
use Rattle.pth_base.specs.declared.errno.Errno.{Errno}
use Rattle.pth_base.specs.declared.errno.Errno.TheVariants.{EBUSY, EINVAL}
use Rattle.pth_lock.specs.Objects.{object_limit, object_named, is_object}
use Rattle.pth_cond.specs.declared.seats.Seat.{Seat}
use Rattle.pth_cond.specs.declared.seats.Seat.TheVariants.{Event}
use Rattle.pth_cond.specs.declared.seats.Taken.{Taken}
use Rattle.pth_cond.specs.Seats.{is_at, mark_at, is_marked_at, marks_stand_first, event_seats, with_seat, without_seat, notified, handed_on}

-- a condition: none where it is not initialised, and else its seats in order of entry
abbrev pub Condition : Type 0
Condition = Option (List Taken)

-- the conditions by number
abbrev pub ConditionTable : Type 0
ConditionTable = ℕ → Condition

-- ---- tests

-- a condition is initialised
abbrev pub is_initialised : ConditionTable → ℤ → Bool
is_initialised x c = is_some (x (object_named c))

-- a seat of a condition has a mark
abbrev pub is_marked_in : Seat → Condition → Bool
is_marked_in s (Some ts) = is_marked_at (mark_at s ts)
is_marked_in s None = false

abbrev pub is_marked : ConditionTable → ℤ → Seat → Bool
is_marked x c s = is_marked_in s (x (object_named c))

-- somebody has this seat at a condition
abbrev pub has_seat_here : Seat → Condition → Bool
has_seat_here s None = false
has_seat_here s (Some ts) = list_any (is_at s) ts

abbrev pub has_seat : ConditionTable → (c : ℕ) → Seat → Bool
has_seat x c s = has_seat_here s (x c)

-- no event has a seat
abbrev pub NoEventIsSeated : ConditionTable → Type 0
NoEventIsSeated x = (c : ℕ) (e : EventId) → has_seat x c (Event e) ≡ false

-- ---- answers: the tests stand in order, and the first that holds is the answer

-- a condition is initialised
abbrev pub cond_init_answer : ConditionTable → ℤ → Result (Unit {0}) Errno
cond_init_answer x c =
    if not (is_object c) then Err EINVAL else
    if is_initialised x c then Err EBUSY else
    Ok tt

-- what needs an initialised condition
abbrev pub live_answer : Condition → Result (Unit {0}) Errno
live_answer condition =
    if is_none condition then Err EINVAL else
    Ok tt

-- a seat is entered
abbrev pub cond_enter_answer : ConditionTable → ℤ → Result (Unit {0}) Errno
cond_enter_answer x c = live_answer (x (object_named c))

-- a condition is notified
abbrev pub cond_notify_answer : ConditionTable → ℤ → Result (Unit {0}) Errno
cond_notify_answer x c = live_answer (x (object_named c))

-- ---- changes

-- none is initialised
abbrev pub no_conditions : ConditionTable
no_conditions c = None

-- a condition is initialised, and nobody has a seat there
abbrev pub cond_initialised : ℤ → ConditionTable → ConditionTable
cond_initialised c x = put x (object_named c) (Some [])

-- the seats of a condition are others: nothing changes where it is not initialised
abbrev pub with_seats : ℕ → (List Taken → List Taken) → ConditionTable → ConditionTable
with_seats k change x = put x k (option_map change (x k))

-- a seat is entered last, without a mark
abbrev pub seat_entered : ℤ → Seat → ConditionTable → ConditionTable
seat_entered c s = with_seats (object_named c) (with_seat s)

-- a seat is left
abbrev pub seat_left : ℤ → Seat → ConditionTable → ConditionTable
seat_left c s = with_seats (object_named c) (without_seat s)

-- a seat is left, and its mark One goes to the first seat without a mark
abbrev pub seat_handed_on : ℤ → Seat → ConditionTable → ConditionTable
seat_handed_on c s = with_seats (object_named c) (handed_on s)

-- the first seat without a mark has the mark One, or each the mark All
abbrev pub cond_notified : ℤ → Bool → ConditionTable → ConditionTable
cond_notified c all = with_seats (object_named c) (notified all)

-- nobody has a seat at a condition
abbrev pub all_left : Condition → Condition
all_left condition = option_map (λ ts. []) condition

-- nobody has a seat anywhere
abbrev pub all_seats_left : ConditionTable → ConditionTable
all_seats_left x c = all_left (x c)

-- ---- the conditions as data

-- the table that a list by number stands for
abbrev pub conditions_of : List Condition → ConditionTable
conditions_of conditions = table None conditions

-- the seats with a mark stand first
abbrev pub IsInOrder : Condition → Type 0
IsInOrder (Some ts) = marks_stand_first ts ≡ true
IsInOrder None = Unit {0}

-- what the table says at every moment
pub record ConditionsAreSound (x : ConditionTable) : Type 0 where
  -- there are no others
  pub past : (c : ℕ) → object_limit ≤ c → x c ≡ None
  pub order : (c : ℕ) → IsInOrder (x c)

-- how many seats events have at a condition
abbrev pub event_seats_here : Condition → ℕ
event_seats_here None = 0
event_seats_here (Some ts) = event_seats ts

-- those at a condition are counted by 64 bits
abbrev pub HasFewEvents : Condition → Type 0
HasFewEvents y = event_seats_here y < 2 ^ 64

-- how many they have at all conditions
abbrev pub all_event_seats : List Condition → ℕ
all_event_seats conditions = sum_by event_seats_here conditions

-- whether a condition was initialised
abbrev pub IsAnyLive : Bool → ConditionTable → Type 0
IsAnyLive true x = (c : ℕ) × (is_some (x c) ≡ true)
IsAnyLive false x = x ≡ no_conditions

-- what holds at every moment of the conditions, with whether one was initialised, and how many seats of events are counted
pub record ConditionsAreKept (any_live : Bool) (counted : ℕ) (conditions : List Condition) : Type 0 where
  pub many : length conditions ≡ object_limit
  pub order : (c : ℕ) → IsInOrder (conditions_of conditions c)
  pub live : IsAnyLive any_live (conditions_of conditions)
  pub count : counted ≡ all_event_seats conditions
  pub few : (c : ℕ) → HasFewEvents (conditions_of conditions c)
