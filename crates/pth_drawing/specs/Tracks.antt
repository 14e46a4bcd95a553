-- What is kept of a thread while a run is drawn.
use Rattle.std.specs.Prelude.{◌≡◌, ℕ, ◌+◌, ◌-◌, ◌==◌, ◌&&◌, ◌||◌, suc, zero, nat_lt, ℤ, pos, negsuc, not, Bool, true, false, if◌then◌else◌, List, [], ◌∷◌, ◌++◌, length, slice_get, flat_map, map, Option, Some, None}
use Rattle.std.specs.BTreeMap.{BTreeMap, get}
use Rattle.std.specs.Global.{Global}
use Rattle.std.specs.Ordering.{nat_cmp}
use Rattle.std.specs.declared.vec.Vec.{Vec}
use Rattle.pth_base.specs.declared.answer.Answer.TheVariants.{Int}
use Rattle.pth_base.specs.declared.call.Call.TheVariants as call
use Rattle.pth_base.specs.declared.mark.Mark.{Mark}
use Rattle.pth_base.specs.declared.mark.Mark.TheVariants as mark
use Rattle.pth_drawing.specs.declared.chart.Lane.{Lane}
use Rattle.pth_drawing.specs.declared.chart.Shown.{Shown}
use Rattle.pth_drawing.specs.declared.chart.Shown.TheVariants.{Running, Waiting, Ready}
use Rattle.pth_drawing.specs.declared.chart.Stretch.{Stretch}
use Rattle.pth_drawing.specs.declared.thread_event.Event.{Event}
use Rattle.pth_drawing.specs.declared.thread_event.Event.TheVariants as event
use Rattle.pth_drawing.specs.declared.thread_event.ThreadEvent.{ThreadEvent}
use Rattle.pth_drawing.specs.declared.track.Track.{Track}
use Rattle.pth_drawing.specs.Charts.{LaneSeen, lane_seen}
use Rattle.pth_drawing.specs.Drawing.{is_same}

-- ---- what a mark tells of a thread

-- it tells this of t
abbrev pub tells : ℕ → Event → Option ThreadEvent
tells t e = Some (record { thread = t; event = e })

-- a spawn is answered a number
abbrev pub spawned : ℤ → Option ThreadEvent
spawned (pos t) = tells t event.Spawned
spawned (negsuc n) = None

-- what it tells: nothing, if no thread begins or ceases to be there or to wait, and none is canceled
abbrev pub thread_event_of : Mark → Option ThreadEvent
thread_event_of (mark.Answered u (call.Spawn b v a) (Int n)) = spawned n
thread_event_of (mark.Waits u c) = tells u.0 event.Waits
thread_event_of (mark.Retakes u c) = tells u.0 event.Waits
thread_event_of (mark.Woke u rank) = tells u.0 event.Woke
thread_event_of (mark.Canceled u c) = tells u.0 event.Canceled
thread_event_of (mark.Ended u v) = tells u.0 event.Ended
thread_event_of m = None

-- ---- a track

-- what is kept of a thread
pub record TrackSeen : Type 0 where
  pub is_there : Bool
  pub has_ended : Bool
  pub is_waiting : Bool
  -- the first column that is not in a stretch yet
  pub since : ℕ
  pub stretches : List Stretch
  pub canceled : List ℕ
  pub ended : Option ℕ

-- a track, as it is seen
abbrev pub track_seen : Track → TrackSeen
track_seen x = record {
  is_there = x.is_there;
  has_ended = x.has_ended;
  is_waiting = x.is_waiting;
  since = x.since;
  stretches = x.stretches.items;
  canceled = x.canceled.items;
  ended = x.ended;
}

-- the track of a thread of which no mark tells
abbrev pub new_track : ℕ → TrackSeen
new_track t = record {
  is_there = 1 == t;
  has_ended = false;
  is_waiting = false;
  since = 0;
  stretches = [];
  canceled = [];
  ended = None;
}

abbrev pub track_or_new : ℕ → Option Track → TrackSeen
track_or_new t None = new_track t
track_or_new t (Some x) = track_seen x

-- a thread's track
abbrev pub track_in : BTreeMap ℕ Track → ℕ → TrackSeen
track_in tracks t = track_or_new t (get nat_cmp tracks t)

-- all threads have the same tracks as before
abbrev pub AreSame : (old new : BTreeMap ℕ Track) → Type 0
AreSame old new = (u : ℕ) → track_in new u ≡ track_in old u

-- t's track becomes something else, and the others stay
abbrev pub ChangesAt : ℕ → (TrackSeen → TrackSeen) → (old new : BTreeMap ℕ Track) → Type 0
ChangesAt t becomes old new = (u : ℕ) → track_in new u ≡ (if t == u then becomes (track_in old u) else track_in old u)

-- ---- stretches

-- a stretch is drawn as s, and ends where a column begins
abbrev pub leads_to : Shown → ℕ → Stretch → Bool
leads_to s i x = is_same x.shown s && (x.first + x.columns == i)

-- n columns more, from a column on: they lengthen the last stretch, or are a stretch of their own
unfoldable pub with_columns : Shown → (first n : ℕ) → List Stretch → List Stretch
with_columns s first n [] = record { shown = s; first = first; columns = n } ∷ []
with_columns s first n (x ∷ []) =
    if leads_to s first x
    then record x { columns = x.columns + n } ∷ []
    else x ∷ record { shown = s; first = first; columns = n } ∷ []
with_columns s first n (x ∷ y ∷ ys) = x ∷ with_columns s first n (y ∷ ys)

-- as what a thread is drawn while it does not run
abbrev pub shown_idle : (is_there has_ended is_waiting : Bool) → Option Shown
shown_idle there ended waiting =
    if ended || not there then None else (
    if waiting then Some Waiting else
    Some Ready)

-- the stretches with the columns of one state from one column up to another
abbrev pub up_to : Option Shown → (since columns : ℕ) → List Stretch → List Stretch
up_to None since columns xs = xs
up_to (Some s) since columns xs = if nat_lt since columns then with_columns s since (columns - since) xs else xs

-- a track's stretches with all columns so far
abbrev pub settled : ℕ → TrackSeen → List Stretch
settled columns x = up_to (shown_idle x.is_there x.has_ended x.is_waiting) x.since columns x.stretches

-- ---- what becomes of a track

-- the stretches get all columns so far
abbrev pub settle : ℕ → TrackSeen → TrackSeen
settle columns x = record x { since = columns; stretches = settled columns x }

-- the thread runs in the next column
abbrev pub run : ℕ → TrackSeen → TrackSeen
run columns x = record x { since = columns + 1; stretches = with_columns Running columns 1 (settled columns x) }

-- the last column so far
abbrev pub last_of : ℕ → Option ℕ
last_of zero = None
last_of (suc i) = Some i

-- the last column is this one
abbrev pub is_last : ℕ → Option ℕ → Bool
is_last i None = false
is_last i (Some j) = j == i

-- columns with one more, unless it is their last
abbrev pub with_place : Option ℕ → List ℕ → List ℕ
with_place None is = is
with_place (Some i) is = if is_last i (slice_get is (length is - 1)) then is else is ++ i ∷ []

-- the first column if there is one already, else this one
abbrev pub first_of : Option ℕ → Option ℕ → Option ℕ
first_of (Some i) column = Some i
first_of None column = column

-- how a thread stands from now on, after something happened
abbrev pub changed : Event → ℕ → TrackSeen → TrackSeen
changed event.Spawned columns x = record x { is_there = true }
changed event.Waits columns x = record x { is_waiting = true }
changed event.Woke columns x = record x { is_waiting = false }
changed event.Canceled columns x = x
changed event.Ended columns x = record x { has_ended = true; ended = first_of x.ended (last_of columns) }

-- a track after something happened, while there are so many columns
abbrev pub after : Event → ℕ → TrackSeen → TrackSeen
after event.Canceled columns x = record x { canceled = with_place (last_of columns) x.canceled }
after e columns x = changed e columns (settle columns x)

-- ---- all tracks

-- the lane of a thread, if its stretches have all columns
abbrev pub whole_lane : ℕ → TrackSeen → LaneSeen
whole_lane t x = record { thread = t; stretches = x.stretches; canceled = x.canceled; ended = x.ended }

-- that lane, if it has a stretch
abbrev pub lane_if : ℕ → TrackSeen → List LaneSeen
lane_if t x = if length x.stretches == 0 then [] else whole_lane t x ∷ []

-- the lane of a track, if it has a stretch once it is settled
abbrev pub lane_in : ℕ → ℕ × Track → List LaneSeen
lane_in columns e = lane_if e.0 (settle columns (track_seen e.1))

-- a lane, if there is one, as it is seen
abbrev pub lanes_seen : Option Lane → List LaneSeen
lanes_seen None = []
lanes_seen (Some l) = lane_seen l ∷ []

-- lanes, as they are seen
abbrev pub seen_in : Vec Lane Global → List LaneSeen
seen_in lanes = map lane_seen lanes.items

-- the lanes of tracks
abbrev pub lanes_in : ℕ → List (ℕ × Track) → List LaneSeen
lanes_in columns es = flat_map (lane_in columns) es
