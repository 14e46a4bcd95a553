-- The last mark about each thread, and who lives.
use Rattle.std.specs.Prelude.{ℕ, ◌+◌, pos, List, [], ◌∷◌, Option, Some, None, slice_get}
use Rattle.std.specs.BTreeMap.{insert_entry}
use Rattle.std.specs.List.{filter_map}
use Rattle.std.specs.Ordering.{nat_cmp}
use Rattle.pth_base.specs.declared.answer.Answer.TheVariants.{Int}
use Rattle.pth_base.specs.declared.call.Call.TheVariants as call
use Rattle.pth_base.specs.declared.mark.Mark.{Mark}
use Rattle.pth_base.specs.declared.mark.Mark.TheVariants as mark
use Rattle.pth_laws.specs.Marks.{thread_of}
use Rattle.pth_explaining.specs.Clocks.{start, clock_after}
use Rattle.pth_explaining.specs.declared.clock.Clock.{Clock}
use Rattle.pth_explaining.specs.declared.threads.Place.{Place}

-- ---- the last mark about each thread

-- the place of a mark about each thread, by rising number of the thread
abbrev pub Places : Type 0
Places = List (ℕ × Place)

-- the thread that a mark spawns
abbrev pub spawned_by : Mark → Option ℕ
spawned_by (mark.Answered u (call.Spawn b v a) (Int (pos t))) = Some t
spawned_by m = None

-- a place about a thread, if there is one, in the place of an earlier one
abbrev pub with_place : Place → Option ℕ → Places → Places
with_place x None places = places
with_place x (Some t) places = insert_entry nat_cmp places t x

-- a mark is about the thread that it spawns, and about its own
abbrev pub places_after : Place → Mark → Places → Places
places_after x m places = with_place x (thread_of m) (with_place x (spawned_by m) places)

-- the places after further marks, the first of which has this index
abbrev pub places_from : ℕ → Clock → Places → List Mark → Places
places_from i clock places [] = places
places_from i clock places (m ∷ ms) =
    places_from (i + 1) (clock_after clock m) (places_after (record { index = i; clock = clock_after clock m }) m places) ms

-- the place of the last mark about each thread
abbrev pub places_of : List Mark → Places
places_of marks = places_from 0 start [] marks

-- ---- who lives

-- a thread, unless the last mark about it is its end
abbrev pub alive_by : ℕ → Option Mark → Option ℕ
alive_by t (Some (mark.Ended u v)) = None
alive_by t m = Some t

-- the threads that live, by rising number
abbrev pub living_in : List Mark → Places → List ℕ
living_in marks places = filter_map (λ e. alive_by e.0 (slice_get marks e.1.index)) places

abbrev pub living : List Mark → List ℕ
living marks = living_in marks (places_of marks)
