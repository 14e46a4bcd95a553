-- What a kernel shows of its descriptors at a moment: filters of the whole trace, less what threads have taken.
use Rattle.std.specs.Prelude.{ℕ, ◌+◌, ◌-◌, ◌==◌, ◌&&◌, ◌||◌, nat_lt, nat_le, ℤ, pos, negsuc, Bool, true, false, List, [], ◌∷◌, length, drop, map, filter, filter_map, flat_map, sum_by, Option, Some, None, is_some, if◌then◌else◌}
use Rattle.std.specs.List.{list_any}
use Rattle.pth_base.specs.Table.{put, table}
use Rattle.pth_base.specs.Descriptors.{contains, descriptor_limit}
use Rattle.pth_kernel.specs.declared.trace.Entry.{Entry}
use Rattle.pth_kernel.specs.declared.trace.Stamp.{Stamp}
use Rattle.pth_kernel.specs.Entries.{bytes_brought, room_brought, connection_brought, settling_brought, is_eof, is_exception, is_failure}
use Rattle.pth_kernel.specs.Moments.{least_after}

-- what threads have done with a descriptor
pub record Descriptor : Type 0 where
  -- open from the start or by its accept, and not closed
  pub live : Bool
  -- how many bytes were taken, how much room was used, and how many connections were accepted
  pub taken : ℕ
  pub given : ℕ
  pub accepted : ℕ
  -- 1 blocks, 2 does not (pth_fdmode)
  pub mode : ℕ

pub record Kernel : Type 0 where
  -- what comes, in the order of time
  pub trace : List Stamp
  -- the moment, and how far a turn moves it, in microseconds
  pub now : ℕ
  pub clock : ℕ
  pub descriptors : ℕ → Descriptor

-- a descriptor of which nothing was taken
abbrev pub untouched : Bool → Descriptor
untouched live = record { live = live; taken = 0; given = 0; accepted = 0; mode = 1 }

-- before anything came: some descriptors are open from the start
abbrev pub started : (clock live : ℕ) → List Stamp → Kernel
started clock live trace = record { trace = trace; now = 0; clock = clock; descriptors = λ f. untouched (contains live f) }

-- the descriptor that an operand names: a negative one names none
abbrev pub fd_named : ℤ → ℕ
fd_named (pos f) = f
fd_named (negsuc f) = descriptor_limit

abbrev pub earliest : {A : Type 0} → List A → Option A
earliest [] = None
earliest (x ∷ xs) = Some x

-- ---- questions

module _ (k : Kernel) where
  -- what came to f up to now
  unfoldable pub came_to : ℕ → List Entry
  came_to f = map (λ (s : Stamp). s.what) (filter (λ (s : Stamp). (s.fd.0 == f) && nat_le s.at k.now) k.trace)

  abbrev pub came : (Entry → Bool) → ℕ → Bool
  came is f = list_any is (came_to f)

  -- the bytes that are left, the room that is left, and the connections that wait
  unfoldable pub unread : ℕ → List ℕ
  unread f = drop (k.descriptors f).taken (flat_map bytes_brought (came_to f))

  unfoldable pub room : ℕ → ℕ
  room f = sum_by room_brought (came_to f) - (k.descriptors f).given

  unfoldable pub connections : ℕ → List ℕ
  connections f = drop (k.descriptors f).accepted (filter_map connection_brought (came_to f))

  abbrev pub is_fd_live : ℕ → Bool
  is_fd_live f = (k.descriptors f).live

  -- the first of `up` and `refuse` that came to a live descriptor
  unfoldable pub connected : ℕ → Option Bool
  connected f = if is_fd_live f then earliest (filter_map settling_brought (came_to f)) else None

  abbrev pub is_at_end : ℕ → Bool
  is_at_end f = is_fd_live f && came is_eof f

  abbrev pub is_faulty : ℕ → Bool
  is_faulty f = is_fd_live f && came is_failure f

  abbrev pub has_connection : ℕ → Bool
  has_connection f = is_fd_live f && nat_lt 0 (length (connections f))

  abbrev pub is_readable : ℕ → Bool
  is_readable f = is_fd_live f && (nat_lt 0 (length (unread f)) || came is_eof f || came is_failure f || nat_lt 0 (length (connections f)))

  abbrev pub is_writeable : ℕ → Bool
  is_writeable f = is_fd_live f && (nat_lt 0 (room f) || came is_failure f)

  abbrev pub is_exceptional : ℕ → Bool
  is_exceptional f = is_fd_live f && came is_exception f

  abbrev pub is_connect_settled : ℕ → Bool
  is_connect_settled f = is_fd_live f && (is_some (connected f) || came is_failure f)

  abbrev pub is_nonblocking : ℕ → Bool
  is_nonblocking f = is_fd_live f && ((k.descriptors f).mode == 2)

  -- the times at which something comes, also to descriptors that are closed
  abbrev pub arrival_times : List ℕ
  arrival_times = map (λ (s : Stamp). s.at) k.trace

  -- the next of them
  abbrev pub next_time : Option ℕ
  next_time = least_after k.now arrival_times

-- ---- changes

abbrev pub with_descriptor : ℕ → (Descriptor → Descriptor) → Kernel → Kernel
with_descriptor f g k = record k { descriptors = put k.descriptors f (g (k.descriptors f)) }

-- time moves to a moment
abbrev pub advanced : ℕ → Kernel → Kernel
advanced to k = record k { now = to }

-- the next n bytes are taken
abbrev pub bytes_taken : ℕ → ℕ → Kernel → Kernel
bytes_taken f n = with_descriptor f (λ d. record d { taken = d.taken + n })

-- room for n bytes is used
abbrev pub room_used : ℕ → ℕ → Kernel → Kernel
room_used f n = with_descriptor f (λ d. record d { given = d.given + n })

-- the oldest connection of f is accepted, and its descriptor is live
abbrev pub connection_accepted : ℕ → Option ℕ → Kernel → Kernel
connection_accepted f None k = k
connection_accepted f (Some g) k = with_descriptor g (λ d. record d { live = true }) (with_descriptor f (λ d. record d { accepted = d.accepted + 1 }) k)

-- f is live no longer
abbrev pub fd_closed : ℕ → Kernel → Kernel
fd_closed f = with_descriptor f (λ d. record d { live = false })

abbrev pub with_mode : ℕ → ℕ → Kernel → Kernel
with_mode f m = with_descriptor f (λ d. record d { mode = m })

-- ---- a kernel as data

-- its descriptors in a list
pub record KernelOf : Type 0 where
  pub trace : List Stamp
  pub now : ℕ
  pub clock : ℕ
  pub descriptors : List Descriptor

abbrev pub kernel_of : KernelOf → Kernel
kernel_of x = record { trace = x.trace; now = x.now; clock = x.clock; descriptors = table (untouched false) x.descriptors }
