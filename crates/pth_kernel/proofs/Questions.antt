-- What is asked of a descriptor of a kernel is read of what is kept for it.
use Rattle.std.proofs.Common.{◌≡◌, ℕ, ◌==◌, ◌-◌, ltb, Bool, true, false, if◌then◌else◌, ◌&&◌, ◌||◌, [], length, filter_map, flat_map, Option, None, is_some, refl, sym, ◌∙◌, ap, ap₂, arith}
use Rattle.std.proofs.lemmas.Bool.Decides.{nat_tests}
use Rattle.std.proofs.lemmas.List.{drop_all}
use Rattle.pth_kernel.specs.declared.arrived.Arrived.{Arrived}
use Rattle.pth_kernel.specs.Entries.{bytes_brought, connection_brought, settling_brought, is_eof, is_exception, is_failure}
use Rattle.pth_kernel.specs.Kernel.{Descriptor, Kernel, came_to, came, earliest, unread, room, connections, connected, is_fd_live, is_at_end, is_faulty, has_connection, is_readable, is_writeable, is_exceptional, is_connect_settled, is_nonblocking}
use Rattle.pth_kernel.specs.Arrivals.{arrived_of}
use Rattle.pth_kernel.specs.Channels.{ChannelOf, has_bytes, has_room_left, has_waiting}
use Rattle.pth_kernel.specs.Kept.{IsChannelOf, IsUnknown}
use Rattle.pth_kernel.proofs.Lists.{is_left}

more-room : (given room : ℕ) → ltb given room ≡ ltb 0 (room - given)
more-room given room = grind (arith, nat_tests)

settled_while : (live : Bool) (o : Option Bool) (failed : Bool) → (live && (is_some o || failed)) ≡ (live && (is_some (if live then o else None) || failed))
settled_while true o failed = refl
settled_while false o failed = refl

module _ (k : Kernel) (f : ℕ) (x : ChannelOf) (s : IsChannelOf k f x) where
  pub live : x.used.live ≡ is_fd_live k f
  live = ap (λ (d : Descriptor). d.live) s.used

  ended : x.arrived.ended ≡ came k is_eof f
  unfolding arrived_of
  ended = ap (λ (a : Arrived). a.ended) s.arrived

  raised : x.arrived.exceptional ≡ came k is_exception f
  unfolding arrived_of
  raised = ap (λ (a : Arrived). a.exceptional) s.arrived

  failed : x.arrived.failed ≡ came k is_failure f
  unfolding arrived_of
  failed = ap (λ (a : Arrived). a.failed) s.arrived

  pub answered : (if x.used.live then x.arrived.settled else None) ≡ connected k f
  unfolding arrived_of connected
  answered = ap₂ (λ (b : Bool) (o : Option Bool). if b then o else None) live (ap (λ (a : Arrived). a.settled) s.arrived)

  some_left : has_bytes x ≡ ltb 0 (length (unread k f))
  unfolding arrived_of unread
  some_left = ap₂ ltb (ap (λ (d : Descriptor). d.taken) s.used) (ap (λ (a : Arrived). a.bytes) s.arrived) ∙ sym (is_left (k.descriptors f).taken (flat_map bytes_brought (came_to k f)))

  some_waits : has_waiting x ≡ ltb 0 (length (connections k f))
  unfolding arrived_of connections
  some_waits = ap₂ ltb (ap (λ (d : Descriptor). d.accepted) s.used) (ap (λ (a : Arrived). a.connections) s.arrived) ∙ sym (is_left (k.descriptors f).accepted (filter_map connection_brought (came_to k f)))

  pub how_much : x.arrived.room - x.used.given ≡ room k f
  unfolding arrived_of room
  how_much = ap₂ (λ (m n : ℕ). m - n) (ap (λ (a : Arrived). a.room) s.arrived) (ap (λ (d : Descriptor). d.given) s.used)

  some_room : has_room_left x ≡ ltb 0 (room k f)
  some_room = more-room x.used.given x.arrived.room ∙ ap (ltb 0) how_much

  pub at_end : (x.used.live && x.arrived.ended) ≡ is_at_end k f
  at_end = ap₂ (λ (a b : Bool). a && b) live ended

  pub faulty : (x.used.live && x.arrived.failed) ≡ is_faulty k f
  faulty = ap₂ (λ (a b : Bool). a && b) live failed

  pub exceptional : (x.used.live && x.arrived.exceptional) ≡ is_exceptional k f
  exceptional = ap₂ (λ (a b : Bool). a && b) live raised

  pub has_conn : (x.used.live && has_waiting x) ≡ has_connection k f
  has_conn = ap₂ (λ (a b : Bool). a && b) live some_waits

  pub nonblock : (x.used.live && (x.used.mode == 2)) ≡ is_nonblocking k f
  nonblock = ap (λ (d : Descriptor). d.live && (d.mode == 2)) s.used

  pub settled : (x.used.live && (is_some x.arrived.settled || x.arrived.failed)) ≡ is_connect_settled k f
  settled = settled_while x.used.live x.arrived.settled x.arrived.failed ∙ ap₂ (λ (a b : Bool). a && b) live (ap₂ (λ (o : Option Bool) (b : Bool). is_some o || b) answered failed)

  pub writeable : (x.used.live && (has_room_left x || x.arrived.failed)) ≡ is_writeable k f
  writeable = ap₂ (λ (a b : Bool). a && b) live (ap₂ (λ (a b : Bool). a || b) some_room failed)

  pub readable : (x.used.live && (has_bytes x || x.arrived.ended || x.arrived.failed || has_waiting x)) ≡ is_readable k f
  readable = ap₂ (λ (a b : Bool). a && b) live (ap₂ (λ (a b : Bool). a || b) (ap₂ (λ (a b : Bool). a || b) (ap₂ (λ (a b : Bool). a || b) some_left ended) failed) some_waits)

-- ---- of no descriptor

module _ (k : Kernel) (f : ℕ) (u : IsUnknown k f) where
  pub nothing_answered : None ≡ connected k f
  unfolding connected
  nothing_answered = ap (λ (d : Descriptor). if d.live then earliest (filter_map settling_brought (came_to k f)) else None) (sym u.used)

  pub no_bytes : [] ≡ unread k f
  unfolding unread
  no_bytes = rw u.came (sym (drop_all (k.descriptors f).taken [] (omega arith)))

  pub no_connections : [] ≡ connections k f
  unfolding connections
  no_connections = rw (u.came, u.used) refl

  pub no_room : 0 ≡ room k f
  unfolding room
  no_room = rw u.came (omega arith)
