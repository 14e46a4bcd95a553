-- What is kept for a descriptor.
use Rattle.std.specs.Prelude.{ℕ, ◌≤◌, nat_lt, ◌==◌, if◌then◌else◌, ℤ, pos, negsuc, Bool, List, [], ◌++◌, length, take, drop, option_to_list}
use Rattle.pth_kernel.specs.declared.trace.Entry.{Entry}
use Rattle.pth_kernel.specs.declared.arrived.Arrived.{Arrived}
use Rattle.pth_kernel.specs.Entries.{bytes_brought, connection_brought}
use Rattle.pth_kernel.specs.Kernel.{Descriptor, untouched}
use Rattle.pth_kernel.specs.Arrivals.{arrived_of, with_entry}

pub record ChannelOf : Type 0 where
  -- all that its trace brings, also later
  pub bytes : List ℕ
  pub connections : List ℕ
  -- how much of it has come
  pub arrived : Arrived
  pub used : Descriptor

-- no more is used than has come, and no more has come than there is
pub record IsUsedWithin (x : ChannelOf) : Type 0 where
  pub taken : x.used.taken ≤ x.arrived.bytes
  pub bytes : x.arrived.bytes ≤ length x.bytes
  pub given : x.used.given ≤ x.arrived.room
  pub accepted : x.used.accepted ≤ x.arrived.connections
  pub connections : x.arrived.connections ≤ length x.connections

-- ---- questions

-- the bytes and the connections that have come and are left
abbrev pub bytes_left : ChannelOf → List ℕ
bytes_left x = drop x.used.taken (take x.arrived.bytes x.bytes)

abbrev pub connections_left : ChannelOf → List ℕ
connections_left x = drop x.used.accepted (take x.arrived.connections x.connections)

abbrev pub has_bytes : ChannelOf → Bool
has_bytes x = nat_lt x.used.taken x.arrived.bytes

abbrev pub has_room_left : ChannelOf → Bool
has_room_left x = nat_lt x.used.given x.arrived.room

abbrev pub has_waiting : ChannelOf → Bool
has_waiting x = nat_lt x.used.accepted x.arrived.connections

-- ---- changes

-- what an entry brings is kept
abbrev pub gathered : Entry → ChannelOf → ChannelOf
gathered e x = record x { bytes = x.bytes ++ bytes_brought e; connections = x.connections ++ option_to_list (connection_brought e) }

-- an entry has come
abbrev pub counted : Entry → ChannelOf → ChannelOf
counted e x = record x { arrived = with_entry e x.arrived }

abbrev pub using : Descriptor → ChannelOf → ChannelOf
using d x = record x { used = d }

-- a mode is set, which 0 leaves
abbrev pub moded : ℤ → Descriptor → Descriptor
moded (pos m) d = if m == 0 then d else record d { mode = m }
moded (negsuc m) d = d

-- nothing is kept
abbrev pub unfed : Bool → ChannelOf
unfed live = record { bytes = []; connections = []; arrived = arrived_of []; used = untouched live }
