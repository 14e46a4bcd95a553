-- A kernel with another trace, of which the same came up to now, and other descriptors: what it answers where it is asked of those
-- that are left, and what becomes of it.
use Rattle.std.proofs.Common.{◌≡◌, ℕ, ℤ, pos, negsuc, ◌==◌, ◌+◌, ◌-◌, ◌&&◌, ◌||◌, nat_lt, length, drop, sum_by, flat_map, filter_map, filter, Bool, List, [], ◌∷◌, ◌++◌, Option, Some, None, is_some, true, false, not, ◌∙◌, if◌then◌else◌, refl, ap, ap₂, sym}
use Rattle.std.specs.List.{list_any, list_all}
use Rattle.pth_base.specs.Descriptors.{members}
use Rattle.pth_base.specs.Table.{put}
use Rattle.pth_base.specs.declared.answer.Answer.{Answer}
use Rattle.pth_base.specs.declared.answer.Answer.TheVariants as answer
use Rattle.pth_base.specs.declared.ids.FdSet.{FdSet}
use Rattle.pth_kernel.specs.Entries.{bytes_brought, room_brought, connection_brought, settling_brought, is_eof, is_exception, is_failure}
use Rattle.pth_kernel.specs.Kernel.{Kernel, Descriptor, came_to, unread, room, connections, connected, is_fd_live, is_readable, is_writeable, is_exceptional, is_nonblocking, earliest, room_used, connection_accepted, with_descriptor, with_mode, fd_named}
use Rattle.pth_kernel.specs.Modes.{sets_mode, mode_answer}
use Rattle.pth_io.specs.Attempts.{read_answer, write_answer, accept_answer, connect_answer, select_answer, fits, written, taken_by, read_after, write_after, accept_after, is_any_ready, are_all_live, fails, sets_answer, is_past, not_yet}
use Rattle.pth_numbered.specs.Clauses as Clauses
use Rattle.pth_base.specs.declared.errno.Errno.TheVariants.{EBADF}
use Rattle.pth_ring.specs.declared.event.Event.{Event}
use Rattle.pth_model.specs.Awaits.{awaits_in}
use Rattle.pth_model.specs.Changes.{blocked_of}
use Rattle.pth_model.specs.State.{Control}
use Rattle.pth_model.specs.declared.blocked.Blocked.{Blocked}
use Rattle.pth_model.specs.Coming.{descriptors_bring}
use Rattle.pth_model.specs.Io.{trial_for, answered_or_waits}
use Rattle.pth_model.specs.declared.awaits.Awaits.{Awaits}
use Rattle.pth_model.specs.declared.awaits.Awaits.TheVariants as awaits
use Rattle.pth_agreement.specs.Descriptors.{in_sets}
use Rattle.pth_agreement.proofs.Asked.{asked_by_wait, asked_by_event}
use Rattle.pth_agreement.proofs.Others.{Others, other_kernel, AllLeft, left_parts}

-- of the other trace the same came up to now
abbrev pub ShowsSame : Others → Kernel → Type 0
ShowsSame other k = came_to (other_kernel other k) ≡ came_to k

-- what a blocked call waits for, and what an event is of, asks only of descriptors that are left
abbrev pub WaitLeft : Others → Option Blocked → Type 0
WaitLeft other None = Unit {0}
WaitLeft other (Some b) = AllLeft other (asked_by_wait b.awaits)

abbrev pub EventLeft : Others → Option Event → Type 0
EventLeft other None = Unit {0}
EventLeft other (Some x) = AllLeft other (asked_by_event x.spec)

-- so do all waits and all events, and of the other trace the same came
pub record AsksLeft {P S H : Type 0} (other : Others) (k : Control P S H) : Type 0 where
  pub shows : ShowsSame other k.kernel
  pub waits : (t : ℕ) → WaitLeft other (blocked_of k t)
  pub events : (e : ℕ) → EventLeft other (k.events.events e)

pub wait_left : (other : Others) (o : Option Blocked) → WaitLeft other o → AllLeft other (asked_by_wait (awaits_in o))
wait_left other None h = tt
wait_left other (Some b) h = h

-- two tests that tell the same of those that are left
module _ (other : Others) (t u : ℕ → Bool) (same : (f : ℕ) → other.left f ≡ true → t f ≡ u f) where
  any_left : (fs : List ℕ) → AllLeft other fs → list_any t fs ≡ list_any u fs
  any_left [] h = refl
  any_left (f ∷ fs) h = ap₂ (λ a b. a || b) (same f h.0) (any_left fs h.1)

  all_left : (fs : List ℕ) → AllLeft other fs → list_all t fs ≡ list_all u fs
  all_left [] h = refl
  all_left (f ∷ fs) h = ap₂ (λ a b. a && b) (same f h.0) (all_left fs h.1)

  those_left : (fs : List ℕ) → AllLeft other fs → filter t fs ≡ filter u fs
  those_left [] h = refl
  those_left (f ∷ fs) h = ap₂ (λ (b : Bool) gs. if b then f ∷ gs else gs) (same f h.0) (those_left fs h.1)

-- what is done to a descriptor that is left, and the opening of any
pub changed_same : (other : Others) (k : Kernel) (f : ℕ) (g : Descriptor → Descriptor) → other.left f ≡ true → with_descriptor f g (other_kernel other k) ≡ other_kernel other (with_descriptor f g k)
changed_same other k f g left = ap (λ (ds : ℕ → Descriptor). record (other_kernel other k) { descriptors = ds }) (ap (λ x. put (other.descriptors k.descriptors) f (g x)) (other.same_at k.descriptors f left) ∙ sym (other.puts k.descriptors f (g (k.descriptors f)) left))

opened_same : (other : Others) (k : Kernel) (f : ℕ) → with_descriptor f (λ d. record d { live = true }) (other_kernel other k) ≡ other_kernel other (with_descriptor f (λ d. record d { live = true }) k)
opened_same other k f = ap (λ (ds : ℕ → Descriptor). record (other_kernel other k) { descriptors = ds }) (sym (other.opens k.descriptors f))

-- a mode that is set
mode_by : (other : Others) (d m : ℕ) (b : Bool) (k : Kernel) → other.left d ≡ true → (if b then other_kernel other k else with_mode d m (other_kernel other k)) ≡ other_kernel other (if b then k else with_mode d m k)
mode_by other d m true k left = refl
mode_by other d m false k left = changed_same other k d (λ x. record x { mode = m }) left

pub mode_sets : (other : Others) (d : ℕ) (m : ℤ) (k : Kernel) → other.left d ≡ true → sets_mode d m (other_kernel other k) ≡ other_kernel other (sets_mode d m k)
mode_sets other d (pos m) k left = mode_by other d m (m == 0) k left
mode_sets other d (negsuc m) k left = refl

module _ (other : Others) (k : Kernel) where
  abbrev its : Kernel
  its = other_kernel other k

  pub live_at : (f : ℕ) → other.left f ≡ true → is_fd_live its f ≡ is_fd_live k f
  live_at f left = ap (λ (d : Descriptor). d.live) (other.same_at k.descriptors f left)

  pub blocking_at : (f : ℕ) → other.left f ≡ true → is_nonblocking its f ≡ is_nonblocking k f
  blocking_at f left = ap (λ (d : Descriptor). d.live && (d.mode == 2)) (other.same_at k.descriptors f left)

  pub mode_at : (f : ℕ) (m : ℤ) → other.left f ≡ true → mode_answer its f m ≡ mode_answer k f m
  mode_at f m left = simp (other.same_at k.descriptors f left)

  -- all members of three sets are left
  abbrev pub SetsLeft : FdSet → FdSet → FdSet → Type 0
  SetsLeft r w x = AllLeft other (members r.0) × AllLeft other (members w.0) × AllLeft other (members x.0)

  pub sets_left : (r w x : FdSet) → AllLeft other (in_sets r w x) → SetsLeft r w x
  sets_left r w x h =
      let a = left_parts other (members r.0 ++ members w.0) (members x.0) h in
      let b = left_parts other (members r.0) (members w.0) a.0 in
      (b.0, b.1, a.1)

  pub live_same : (r w x : FdSet) → SetsLeft r w x → are_all_live its r.0 w.0 x.0 ≡ are_all_live k r.0 w.0 x.0
  live_same r w x h =
      let all = all_left other (is_fd_live its) (is_fd_live k) live_at in
      λ i. all (members r.0) h.0 i && all (members w.0) h.1 i && all (members x.0) h.2 i

module _ (other : Others) (k : Kernel) (shows : ShowsSame other k) where
  module _ (f : ℕ) (left : other.left f ≡ true) where
    at : other.descriptors k.descriptors f ≡ k.descriptors f
    at = other.same_at k.descriptors f left

    came_at : came_to (its other k) f ≡ came_to k f
    came_at = ap (λ c. c f) shows

    unread_at : unread (its other k) f ≡ unread k f
    unfolding unread
    unread_at = λ i. drop (at i).taken (flat_map bytes_brought (shows i f))

    room_at : room (its other k) f ≡ room k f
    unfolding room
    room_at = λ i. sum_by room_brought (shows i f) - (at i).given

    connections_at : connections (its other k) f ≡ connections k f
    unfolding connections
    connections_at = λ i. drop (at i).accepted (filter_map connection_brought (shows i f))

    connected_at : connected (its other k) f ≡ connected k f
    unfolding connected
    connected_at = λ i. if (at i).live then earliest (filter_map settling_brought (shows i f)) else None

    pub readable_at : is_readable (its other k) f ≡ is_readable k f
    readable_at = λ i. (at i).live && (nat_lt 0 (length (unread_at i)) || list_any is_eof (shows i f) || list_any is_failure (shows i f) || nat_lt 0 (length (connections_at i)))

    pub writeable_at : is_writeable (its other k) f ≡ is_writeable k f
    writeable_at = λ i. (at i).live && (nat_lt 0 (room_at i) || list_any is_failure (shows i f))

    pub exceptional_at : is_exceptional (its other k) f ≡ is_exceptional k f
    exceptional_at = λ i. (at i).live && list_any is_exception (shows i f)

    read_same : (n : ℤ) → read_answer (its other k) f n ≡ read_answer k f n
    unfolding read_answer
    read_same n = simp (at, unread_at, came_at)

    fits_same : (total done : ℕ) → fits (its other k) f total done ≡ fits k f total done
    fits_same total done = simp (at, room_at, came_at)

    written_same : (total done : ℕ) → written (its other k) f total done ≡ written k f total done
    unfolding written
    written_same total done = simp (at, room_at, came_at)

    write_same : (total done : ℕ) → write_answer (its other k) f total done ≡ write_answer k f total done
    unfolding write_answer
    write_same total done = simp (at, room_at, came_at)

    accept_same : accept_answer (its other k) f ≡ accept_answer k f
    unfolding accept_answer
    accept_same = simp (at, connections_at, came_at)

    connect_same : connect_answer (its other k) f ≡ connect_answer k f
    unfolding connect_answer
    connect_same = simp (at, connected_at, came_at)

    taken_same : (o : Option Answer) → taken_by f o (its other k) ≡ other_kernel other (taken_by f o k)
    taken_same (Some (answer.Bytes bytes)) = changed_same other k f (λ d. record d { taken = d.taken + length bytes }) left
    taken_same o = refl

    accepted_same : (o : Option ℕ) → connection_accepted f o (its other k) ≡ other_kernel other (connection_accepted f o k)
    accepted_same None = refl
    accepted_same (Some g) =
        ap (with_descriptor g (λ d. record d { live = true })) (changed_same other k f (λ d. record d { accepted = d.accepted + 1 }) left)
        ∙ opened_same other (with_descriptor f (λ d. record d { accepted = d.accepted + 1 }) k) g

    accepted_if : (live : Bool) (o : Option ℕ) → (if live then connection_accepted f o (its other k) else its other k) ≡ other_kernel other (if live then connection_accepted f o k else k)
    accepted_if true o = accepted_same o
    accepted_if false o = refl

  pub any_same : (r w x : FdSet) → SetsLeft other k r w x → is_any_ready (its other k) r.0 w.0 x.0 ≡ is_any_ready k r.0 w.0 x.0
  any_same r w x h = λ i.
      any_left other (is_readable (its other k)) (is_readable k) readable_at (members r.0) h.0 i
      || any_left other (is_writeable (its other k)) (is_writeable k) writeable_at (members w.0) h.1 i
      || any_left other (is_exceptional (its other k)) (is_exceptional k) exceptional_at (members x.0) h.2 i

  select_same : (r w x : FdSet) (deadline : Option ℕ) → SetsLeft other k r w x → select_answer (its other k) r.0 w.0 x.0 deadline ≡ select_answer k r.0 w.0 x.0 deadline
  unfolding select_answer
  select_same r w x deadline h =
      let live = live_same other k r w x h in
      let any = any_same r w x h in
      let rs = those_left other (is_readable (its other k)) (is_readable k) readable_at (members r.0) h.0 in
      let ws = those_left other (is_writeable (its other k)) (is_writeable k) writeable_at (members w.0) h.1 in
      let xs = those_left other (is_exceptional (its other k)) (is_exceptional k) exceptional_at (members x.0) h.2 in
      λ i. Clauses.◌when◌otherwise◌ (fails EBADF) (not (live i)) (Clauses.◌when◌otherwise◌ (Some (sets_answer k (rs i) (ws i) (xs i))) (any i) (Clauses.◌when◌otherwise◌ (Some (sets_answer k [] [] [])) (is_past k deadline) not_yet))

  -- what an attempt comes to
  pub trial_same : (a : Awaits) → AllLeft other (asked_by_wait a) → (trial_for (its other k) a).verdict ≡ (trial_for k a).verdict
  trial_same (awaits.Reading f n) left = ap (λ o. answered_or_waits o (awaits.Reading f n)) (read_same (fd_named f) left.0 n)
  trial_same (awaits.Writing f total done) left = ap₂ (λ o m. answered_or_waits o (awaits.Writing f total m)) (write_same (fd_named f) left.0 total done) (written_same (fd_named f) left.0 total done)
  trial_same (awaits.Connection f) left = ap (λ o. answered_or_waits o (awaits.Connection f)) (accept_same (fd_named f) left.0)
  trial_same (awaits.ConnectAnswer f) left = ap (λ o. answered_or_waits o (awaits.ConnectAnswer f)) (connect_same (fd_named f) left.0)
  trial_same (awaits.Selection r w x deadline) left = ap (λ o. answered_or_waits o (awaits.Selection r w x deadline)) (select_same r w x deadline (sets_left other k r w x left))
  trial_same a left = refl

  -- what it does
  pub after_same : (a : Awaits) → AllLeft other (asked_by_wait a) → (trial_for (its other k) a).after (its other k) ≡ other_kernel other ((trial_for k a).after k)
  unfolding read_after write_after accept_after
  after_same (awaits.Reading f n) left = ap (λ o. taken_by (fd_named f) o (its other k)) (read_same (fd_named f) left.0 n) ∙ taken_same (fd_named f) left.0 (read_answer k (fd_named f) n)
  after_same (awaits.Writing f total done) left =
      ap (λ n. room_used (fd_named f) n (its other k)) (fits_same (fd_named f) left.0 total done)
      ∙ changed_same other k (fd_named f) (λ d. record d { given = d.given + fits k (fd_named f) total done }) left.0
  after_same (awaits.Connection f) left =
      (λ i. if live_at other k (fd_named f) left.0 i then connection_accepted (fd_named f) (earliest (connections_at (fd_named f) left.0 i)) (its other k) else its other k)
      ∙ accepted_if (fd_named f) left.0 (is_fd_live k (fd_named f)) (earliest (connections k (fd_named f)))
  after_same a left = refl

  -- what a wait has come to
  pub brings_same : (a : Awaits) → AllLeft other (asked_by_wait a) → descriptors_bring (its other k) a ≡ descriptors_bring k a
  brings_same (awaits.Reading f n) left = ap is_some (read_same (fd_named f) left.0 n)
  brings_same (awaits.Writing f total done) left = ap₂ (λ o n. is_some o || nat_lt 0 n) (write_same (fd_named f) left.0 total done) (room_at (fd_named f) left.0)
  brings_same (awaits.Connection f) left = ap is_some (accept_same (fd_named f) left.0)
  brings_same (awaits.ConnectAnswer f) left = ap is_some (connect_same (fd_named f) left.0)
  brings_same (awaits.Selection r w x deadline) left = ap is_some (select_same r w x deadline (sets_left other k r w x left))
  brings_same a left = refl
