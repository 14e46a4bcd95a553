-- What a kernel keeps beside its trace.
use Rattle.std.specs.Prelude.{◌≡◌, ℕ, ◌==◌, ◌<◌, ◌≤◌, false, List, [], ◌∷◌, length, take, map, filter, filter_map, flat_map, slice_index_or, All, IfSome}
use Rattle.pth_base.specs.Descriptors.{descriptor_limit, contains}
use Rattle.pth_base.specs.Table.{table}
use Rattle.pth_base.specs.Limits.{last_moment}
use Rattle.pth_kernel.specs.declared.trace.Entry.{Entry}
use Rattle.pth_kernel.specs.declared.trace.Stamp.{Stamp}
use Rattle.pth_kernel.specs.Entries.{bytes_brought, room_brought, connection_brought}
use Rattle.pth_kernel.specs.Trace.{stamp_limit, latest_time, most_room, most_clock}
use Rattle.pth_kernel.specs.Kernel.{Kernel, came_to, unread, connections, untouched}
use Rattle.pth_kernel.specs.Arrivals.{arrived_of}
use Rattle.pth_kernel.specs.Channels.{ChannelOf, bytes_left, connections_left}

-- ---- a trace that breaks no rule

pub record IsSoundStamp (s : Stamp) : Type 0 where
  pub early : s.at ≤ latest_time
  pub fd : s.fd.0 < descriptor_limit
  pub room : room_brought s.what ≤ most_room
  pub connection : IfSome (connection_brought s.what) (λ g. g < descriptor_limit)

-- no stamp is before this time, nor before one above it
abbrev pub IsRising : ℕ → List Stamp → Type 0
IsRising at [] = Unit {0}
IsRising at (s ∷ ss) = (at ≤ s.at) × IsRising s.at ss

pub record IsSoundTrace (ss : List Stamp) : Type 0 where
  pub few : length ss ≤ stamp_limit
  pub rising : IsRising 0 ss
  pub each : All IsSoundStamp ss

-- ---- what has come

-- the entries for f among the first n stamps
unfoldable pub entries : ℕ → ℕ → List Stamp → List Entry
entries f n ss = map (λ (s : Stamp). s.what) (filter (λ (s : Stamp). s.fd.0 == f) (take n ss))

-- the stamps before a place have come by now, and those from it on have not
pub record IsDivided (ss : List Stamp) (now place : ℕ) : Type 0 where
  pub within : place ≤ length ss
  pub past : (k : ℕ) (d : Stamp) → k < place → (slice_index_or ss k d).at ≤ now
  pub to_come : (d : Stamp) → place < length ss → now < (slice_index_or ss place d).at

-- a descriptor has what these entries bring, of which some have come
pub record IsFed (all some : List Entry) (x : ChannelOf) : Type 0 where
  pub bytes : x.bytes ≡ flat_map bytes_brought all
  pub connections : x.connections ≡ filter_map connection_brought all
  pub arrived : x.arrived ≡ arrived_of some

-- each descriptor has what the first `all` stamps bring, of which the first `some` have come
abbrev pub AreFed : List Stamp → (all some : ℕ) → List ChannelOf → Type 0
AreFed ss all some xs = (f : ℕ) (d : ChannelOf) → f < length xs → IsFed (entries f all ss) (entries f some ss) (slice_index_or xs f d)

-- nothing was done with any yet: some are open from the start
abbrev pub AreOpen : (live : ℕ) → List ChannelOf → Type 0
AreOpen live xs = table (untouched false) (map (λ (x : ChannelOf). x.used) xs) ≡ (λ f. untouched (contains live f))

pub record IsKeptBeside (ss : List Stamp) (now clock place : ℕ) (xs : List ChannelOf) : Type 0 where
  pub sound : IsSoundTrace ss
  pub early : now ≤ last_moment
  pub short : clock ≤ most_clock
  pub divided : IsDivided ss now place
  pub many : length xs ≡ descriptor_limit
  pub fed : AreFed ss (length ss) place xs

-- ---- a descriptor of a kernel

pub record IsChannelOf (k : Kernel) (f : ℕ) (x : ChannelOf) : Type 0 where
  pub used : x.used ≡ k.descriptors f
  pub arrived : x.arrived ≡ arrived_of (came_to k f)
  pub bytes : bytes_left x ≡ unread k f
  pub connections : connections_left x ≡ connections k f

-- no descriptor has this number
pub record IsUnknown (k : Kernel) (f : ℕ) : Type 0 where
  pub used : k.descriptors f ≡ untouched false
  pub came : came_to k f ≡ []
