-- Barriers: the size of each, the number of its round, and who waits there (pth_barrier_init, pth_barrier_reach).
use Rattle.std.specs.Prelude.{◌≡◌, ℕ, ◌+◌, ◌<◌, ◌≤◌, ◌==◌, ℤ, pos, negsuc, Bool, true, false, not, ◌&&◌, nat_lt, if◌then◌else◌, List, [], ◌∷◌, ◌++◌, length, filter, map, count_by, Option, Some, None, is_some, option_map, Result, Ok, Err}
use Rattle.std.specs.List.{list_any}
use Rattle.std.specs.Option.{ok_or}
use Rattle.pth_base.specs.Table.{put, table}
use Rattle.pth_base.specs.declared.errno.Errno.{Errno}
use Rattle.pth_base.specs.declared.errno.Errno.TheVariants.{EBUSY, EINVAL}
use Rattle.pth_lock.specs.Objects.{object_limit, object_named, is_object}
use Rattle.pth_cond.specs.declared.barriers.Arrival.{Arrival}
use Rattle.pth_cond.specs.declared.barriers.Arrival.TheVariants.{Incomplete, Tail}

-- an arrival that was neither answered nor taken back: who waits for which round, and whether an earlier arrival of its round
-- was answered
pub record Arrived : Type 0 where
  pub tid : ℕ
  pub round : ℕ
  pub late : Bool

-- a barrier: how many threads make a round, the number of its round, and the arrivals that wait, in order
pub record Barrier : Type 0 where
  pub size : ℕ
  pub round : ℕ
  pub arrivals : List Arrived

-- the barriers by number: none where one is not initialised
abbrev pub BarrierTable : Type 0
BarrierTable = ℕ → Option Barrier

-- how many threads may make a round, and how many arrivals may wait at a barrier
abbrev pub arrival_limit : ℕ
arrival_limit = 4096

-- threads arrive only in rounds that are numbered below this
abbrev pub round_number_limit : ℕ
round_number_limit = 4611686018427387904

-- what a thread is answered whose arrival is the first of its round that was not taken back (PTH_BARRIER_HEADLIGHT), the last
-- (PTH_BARRIER_TAILLIGHT), or between
abbrev pub headlight : ℤ
headlight = negsuc 0

abbrev pub taillight : ℤ
taillight = negsuc 1

abbrev pub between : ℤ
between = pos 1

-- ---- tests

-- how many arrivals wait for a round
abbrev pub arrived_in : ℕ → List Arrived → ℕ
arrived_in round xs = count_by (λ a. a.round == round) xs

-- one more arrival, and the round of a barrier passes
abbrev pub lacks_one : Barrier → Bool
lacks_one b = arrived_in b.round b.arrivals + 1 == b.size

-- a thread has an arrival that waits
abbrev pub waits_among : ℕ → List Arrived → Bool
waits_among t xs = list_any (λ a. a.tid == t) xs

-- of the arrivals that wait for a round the first is this thread's, and none before it was answered
abbrev pub is_headlight : (thread round : ℕ) → List Arrived → Bool
is_headlight t round [] = false
is_headlight t round (a ∷ rest) = if a.round == round then (a.tid == t) && not a.late else is_headlight t round rest

-- the round of a barrier is past this one
abbrev pub is_past : ℕ → Option Barrier → Bool
is_past round (Some b) = nat_lt round b.round
is_past round None = false

abbrev pub has_passed : BarrierTable → ℤ → ℕ → Bool
has_passed x b round = is_past round (x (object_named b))

-- a thread has an arrival that waits at a barrier
abbrev pub waits_here : ℕ → Option Barrier → Bool
waits_here t (Some b) = waits_among t b.arrivals
waits_here t None = false

abbrev pub waits_at : BarrierTable → ℤ → ℕ → Bool
waits_at x b t = waits_here t (x (object_named b))

-- a barrier does not lack room for one more arrival: one that is not initialised refuses each
abbrev pub takes_more : Option Barrier → Bool
takes_more (Some b) = nat_lt (length b.arrivals) arrival_limit && nat_lt b.round round_number_limit
takes_more None = true

abbrev pub has_room : BarrierTable → ℤ → Bool
has_room x b = takes_more (x (object_named b))

-- ---- answers: the tests stand in order, and the first that holds is the answer

-- an operand is a size of rounds
abbrev pub is_size : ℤ → Bool
is_size (pos n) = nat_lt 0 n && nat_lt n (arrival_limit + 1)
is_size (negsuc n) = false

-- a barrier is initialised
abbrev pub barrier_init_answer : BarrierTable → (b n : ℤ) → Result (Unit {0}) Errno
barrier_init_answer x b n =
    if not (is_object b && is_size n) then Err EINVAL else
    if is_some (x (object_named b)) then Err EBUSY else
    Ok tt

-- a thread arrives at a barrier: it is the last of its round, or waits for it
abbrev pub arrival_at : Barrier → Arrival
arrival_at b = if lacks_one b then Tail else Incomplete b.round

abbrev pub arrival_answer : BarrierTable → ℤ → Result Arrival Errno
arrival_answer x b = ok_or (option_map arrival_at (x (object_named b))) EINVAL

-- what the thread is answered whose round has passed
abbrev pub answer_in : (thread round : ℕ) → Option Barrier → ℤ
answer_in t round (Some b) = if is_headlight t round b.arrivals then headlight else between
answer_in t round None = between

abbrev pub round_answer : BarrierTable → ℤ → (round thread : ℕ) → ℤ
round_answer x b round t = answer_in t round (x (object_named b))

-- ---- changes

-- none is initialised
abbrev pub no_barriers : BarrierTable
no_barriers b = None

-- the size that an operand gives
abbrev pub size_given : ℤ → ℕ
size_given (pos n) = n
size_given (negsuc n) = 0

-- a barrier is initialised: nobody waits there, and its rounds are numbered from 1
abbrev pub barrier_initialised : ℤ → ℤ → BarrierTable → BarrierTable
barrier_initialised b n x = put x (object_named b) (Some (record { size = size_given n; round = 1; arrivals = [] }))

-- one barrier is another
abbrev pub with_barrier : ℤ → (Barrier → Barrier) → BarrierTable → BarrierTable
with_barrier b change x = put x (object_named b) (option_map change (x (object_named b)))

-- a thread has arrived: the last of its round lets it pass, and any other waits
abbrev pub arrived : ℕ → Barrier → Barrier
arrived t b =
    if lacks_one b
    then record b { round = b.round + 1 }
    else record b { arrivals = b.arrivals ++ (record { tid = t; round = b.round; late = false } ∷ []) }

abbrev pub barrier_reached : ℤ → ℕ → BarrierTable → BarrierTable
barrier_reached b t = with_barrier b (arrived t)

-- the arrivals of all threads but this one
abbrev pub without_thread : ℕ → List Arrived → List Arrived
without_thread t xs = filter (λ a. not (a.tid == t)) xs

-- the arrival of a thread is taken back
abbrev pub withdrawn : ℤ → ℕ → BarrierTable → BarrierTable
withdrawn b t = with_barrier b (λ y. record y { arrivals = without_thread t y.arrivals })

-- the arrivals of a round are late
abbrev pub made_late : ℕ → List Arrived → List Arrived
made_late round xs = map (λ (a : Arrived). if a.round == round then record a { late = true } else a) xs

-- the arrivals of a round are late that stand behind the arrival of this thread, which is answered
abbrev pub late_behind : (thread round : ℕ) → List Arrived → List Arrived
late_behind t round [] = []
late_behind t round (a ∷ rest) = a ∷ (if a.tid == t then made_late round rest else late_behind t round rest)

-- the arrival of a thread is answered
abbrev pub answered : (thread round : ℕ) → List Arrived → List Arrived
answered t round xs = without_thread t (late_behind t round xs)

abbrev pub round_answered : ℤ → (round thread : ℕ) → BarrierTable → BarrierTable
round_answered b round t = with_barrier b (λ y. record y { arrivals = answered t round y.arrivals })

-- no arrival waits anywhere
abbrev pub all_withdrawn : BarrierTable → BarrierTable
all_withdrawn x b = option_map (λ (y : Barrier). record y { arrivals = [] }) (x b)

-- ---- the barriers as data

-- the table that a list by number stands for
abbrev pub barriers_of : List (Option Barrier) → BarrierTable
barriers_of xs b = table None xs b

-- ---- what holds at every moment

-- rounds have from 1 to 4,096 arrivals, and are numbered from 1; fewer arrivals wait for the current round than make it, and at
-- most 4,096 wait in all
pub record BarrierIsSound (b : Barrier) : Type 0 where
  pub some : 0 < b.size
  pub many : b.size ≤ arrival_limit
  pub first : 0 < b.round
  pub waiting : arrived_in b.round b.arrivals < b.size
  pub few : length b.arrivals ≤ arrival_limit

-- what the table says at every moment
pub record BarriersAreSound (x : BarrierTable) : Type 0 where
  -- there are no others
  pub past : (b : ℕ) → object_limit ≤ b → x b ≡ None
  pub each : (b : ℕ) (y : Barrier) → x b ≡ Some y → BarrierIsSound y
