-- The rules of a trace: a list of what comes, in the order of time. Each rule speaks of a stamp and of those above it, the
-- nearest first, where some descriptors are open from the start.
use Rattle.std.specs.Prelude.{ℕ, ◌==◌, ◌&&◌, ◌||◌, not, nat_lt, nat_le, Bool, false, List, [], ◌∷◌, length, Option, Some, None, if◌then◌else◌}
use Rattle.std.specs.List.{list_any}
use Rattle.pth_base.specs.Descriptors.{contains, descriptor_limit}
use Rattle.pth_kernel.specs.declared.trace.Entry.{Entry}
use Rattle.pth_kernel.specs.declared.trace.Entry.TheVariants as entry
use Rattle.pth_kernel.specs.declared.trace.Stamp.{Stamp}
use Rattle.pth_kernel.specs.Entries.{is_eof, is_input, brings}

-- how many stamps there may be, their last time in microseconds, the bytes that one may bring, and the room
abbrev pub stamp_limit : ℕ
stamp_limit = 65536

abbrev pub latest_time : ℕ
latest_time = 1000000000000000

abbrev pub most_bytes : ℕ
most_bytes = 2048

abbrev pub most_room : ℕ
most_room = 1000000000

-- a turn takes at most so many microseconds
abbrev pub most_clock : ℕ
most_clock = 1000000

-- ---- a stamp by itself

-- it brings no byte or too many, no room or too much, or the connection of no descriptor
abbrev pub is_misshapen : Entry → Bool
is_misshapen (entry.Arrive bytes) = (length bytes == 0) || nat_lt most_bytes (length bytes)
is_misshapen (entry.Room n) = (n == 0) || nat_lt most_room n
is_misshapen (entry.Conn g) = nat_le descriptor_limit g.0
is_misshapen e = false

-- or its time or its descriptor are past the last ones
abbrev pub is_out_of_range : Stamp → Bool
is_out_of_range s = nat_lt latest_time s.at || nat_le descriptor_limit s.fd.0 || is_misshapen s.what

-- ---- a stamp below others

-- its time is before that of the stamp above
abbrev pub is_before_last : List Stamp → ℕ → Bool
is_before_last [] at = false
is_before_last (s ∷ above) at = nat_lt at s.at

module _ (live : ℕ) where
  -- a descriptor is open from the start, or comes by a connection above
  abbrev pub is_fd_known : List Stamp → ℕ → Bool
  is_fd_known above f = contains live f || list_any (λ (s : Stamp). brings f s.what) above

  -- an entry brings the connection of a descriptor that is known
  abbrev pub brings_known : List Stamp → Entry → Bool
  brings_known above (entry.Conn g) = is_fd_known above g.0
  brings_known above e = false

-- the input of its descriptor has ended above
abbrev pub has_input_ended : List Stamp → ℕ → Bool
has_input_ended above f = list_any (λ (s : Stamp). (s.fd.0 == f) && is_eof s.what) above

-- what a stamp may do to its descriptor is broken: it is not known, brings one that is, or brings input after its end
abbrev pub breaks_fd : (live : ℕ) → List Stamp → Stamp → Bool
breaks_fd live above s = not (is_fd_known live above s.fd.0) || brings_known live above s.what || (is_input s.what && has_input_ended above s.fd.0)

-- there are as many stamps above as there may be
abbrev pub is_full_of_stamps : List Stamp → Bool
is_full_of_stamps above = nat_le stamp_limit (length above)

-- a stamp breaks a rule
abbrev pub faults : (live : ℕ) → List Stamp → Stamp → Bool
faults live above s = is_out_of_range s || is_before_last above s.at || breaks_fd live above s || is_full_of_stamps above

-- ---- the whole trace

-- the first that does, below these
unfoldable pub first_fault_below : (live : ℕ) → List Stamp → List Stamp → Option ℕ
first_fault_below live above [] = None
first_fault_below live above (s ∷ ss) = if faults live above s then Some (length above) else first_fault_below live (s ∷ above) ss

-- the place of the first stamp that breaks a rule, counted from 0
abbrev pub first_fault : (live : ℕ) → List Stamp → Option ℕ
first_fault live trace = first_fault_below live [] trace
