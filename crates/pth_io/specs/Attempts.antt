-- One attempt at a call on descriptors: its answer, or none where it is not yet; and what it does to the kernel.
use Rattle.std.specs.Prelude.{ℕ, ◌+◌, ◌-◌, ◌==◌, ◌&&◌, ◌||◌, not, nat_lt, nat_le, min, ℤ, pos, Bool, true, false, List, [], length, take, filter, Option, Some, None, if◌then◌else◌}
use Rattle.std.specs.List.{list_any, list_all}
use Rattle.pth_base.specs.declared.answer.Answer.{Answer}
use Rattle.pth_base.specs.declared.answer.Answer.TheVariants.{Int, Bytes, Sets, Fail}
use Rattle.pth_base.specs.declared.errno.Errno.{Errno}
use Rattle.pth_base.specs.declared.errno.Errno.TheVariants.{EINVAL, EBADF, EIO, ECONNREFUSED}
use Rattle.pth_base.specs.Descriptors.{members, set_with}
use Rattle.pth_numbered.specs.Clauses.{◌when◌otherwise◌, count_or}
use Rattle.pth_numbered.specs.Operands.{number, is_zero, ◌is_from◌to◌}
use Rattle.pth_kernel.specs.Kernel.{Kernel, is_fd_live, unread, room, connections, connected, came, is_readable, is_writeable, is_exceptional, earliest, bytes_taken, room_used, connection_accepted}
use Rattle.pth_kernel.specs.Entries.{is_eof, is_failure}

abbrev pub fails : Errno → Option Answer
fails e = Some (Fail e)

abbrev pub counts : ℕ → Option Answer
counts n = Some (Int (pos n))

abbrev pub not_yet : Option Answer
not_yet = None

-- by what there is, or else by what follows
abbrev pub answered_or : {A : Type 0} → (A → Answer) → Option A → Option Answer → Option Answer
answered_or says (Some x) a = Some (says x)
answered_or says None a = a

abbrev pub number_answer : ℕ → Answer
number_answer n = Int (pos n)

-- 0 where a connect was taken
abbrev pub connect_as : Bool → Answer
connect_as true = Int (pos 0)
connect_as false = Fail ECONNREFUSED

module _ (k : Kernel) (f : ℕ) where
  -- pth_read
  unfoldable pub read_answer : ℤ → Option Answer
  read_answer n =
      fails EBADF when not (is_fd_live k f) otherwise
      fails EINVAL when not (n is_from pos 0 to pos 65536) otherwise
      Some (Bytes (take (number n) (unread k f))) when is_zero n || nat_lt 0 (length (unread k f)) otherwise
      fails EIO when came k is_failure f otherwise
      Some (Bytes []) when came k is_eof f otherwise
      not_yet

  -- how many bytes fit of those that are not yet written, of so many in all
  abbrev pub fits : (total done : ℕ) → ℕ
  fits total done = if is_fd_live k f && not (came k is_failure f) then min (room k f) (total - done) else 0

  -- how many are written then
  unfoldable pub written : (total done : ℕ) → ℕ
  written total done = done + fits total done

  -- pth_write of so many bytes, where a part was written already
  unfoldable pub write_answer : (total done : ℕ) → Option Answer
  write_answer total done =
      Some (count_or done EBADF) when not (is_fd_live k f) otherwise
      counts done when done == total otherwise
      Some (count_or done EIO) when came k is_failure f otherwise
      counts (done + fits total done) when done + fits total done == total otherwise
      not_yet

  -- pth_accept
  unfoldable pub accept_answer : Option Answer
  accept_answer =
      fails EBADF when not (is_fd_live k f) otherwise
      answered_or number_answer (earliest (connections k f)) (
      fails EIO when came k is_failure f otherwise
      not_yet)

  -- pth_connect
  unfoldable pub connect_answer : Option Answer
  connect_answer =
      fails EBADF when not (is_fd_live k f) otherwise
      fails EIO when came k is_failure f otherwise
      answered_or connect_as (connected k f) not_yet

-- what an attempt does to the kernel

-- the bytes of an answer are taken
abbrev pub taken_by : ℕ → Option Answer → Kernel → Kernel
taken_by f (Some (Bytes bytes)) k = bytes_taken f (length bytes) k
taken_by f a k = k

unfoldable pub read_after : ℕ → ℤ → Kernel → Kernel
read_after f n k = taken_by f (read_answer k f n) k

unfoldable pub write_after : (f total done : ℕ) → Kernel → Kernel
write_after f total done k = room_used f (fits k f total done) k

unfoldable pub accept_after : ℕ → Kernel → Kernel
accept_after f k = if is_fd_live k f then connection_accepted f (earliest (connections k f)) k else k

-- ---- sets

module _ (k : Kernel) where
  -- all members of a set are live
  abbrev pub are_live : (set : ℕ) → Bool
  are_live set = list_all (is_fd_live k) (members set)

  abbrev pub are_all_live : (r w x : ℕ) → Bool
  are_all_live r w x = are_live r && are_live w && are_live x

  -- those members of a set for which a test holds
  abbrev pub those : (ℕ → Bool) → (set : ℕ) → List ℕ
  those is set = filter is (members set)

  -- some member of a set is as it says
  abbrev pub is_any_ready : (r w x : ℕ) → Bool
  is_any_ready r w x = list_any (is_readable k) (members r) || list_any (is_writeable k) (members w) || list_any (is_exceptional k) (members x)

  abbrev pub sets_answer : (rs ws xs : List ℕ) → Answer
  sets_answer rs ws xs = Sets (pos (length rs + length ws + length xs)) (record { 0 = set_with rs }) (record { 0 = set_with ws }) (record { 0 = set_with xs })

  -- a deadline has come
  abbrev pub is_past : Option ℕ → Bool
  is_past None = false
  is_past (Some m) = nat_le m k.now

  -- pth_select, until a deadline
  unfoldable pub select_answer : (r w x : ℕ) → Option ℕ → Option Answer
  select_answer r w x deadline =
      fails EBADF when not (are_all_live r w x) otherwise
      Some (sets_answer (those (is_readable k) r) (those (is_writeable k) w) (those (is_exceptional k) x)) when is_any_ready r w x otherwise
      Some (sets_answer [] [] []) when is_past deadline otherwise
      not_yet
