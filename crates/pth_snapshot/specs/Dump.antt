-- A snapshot: where a run stands, and what stands there, line by line.
use Rattle.std.specs.Prelude.{ℕ, zero, suc, ◌+◌, ℤ, pos, Bool, List, [], ◌∷◌, ◌++◌, flat_map, codes, length, Option, Some, None, if◌then◌else◌}
use Rattle.std.specs.Fmt.{signed_decimal}
use Rattle.pth_queue.specs.declared.queue.Queue.{Queue}
use Rattle.pth_queue.specs.declared.queue.Queue.TheVariants.{New, Ready, Waiting, Suspended, Dead}
use Rattle.pth_threads.specs.declared.entry.Entry.{Entry}
use Rattle.pth_threads.specs.Attributes.{flag, state_number}
use Rattle.pth_lock.specs.Mutexes.{MutexTable, owner_of}
use Rattle.pth_kernel.specs.Kernel.{Kernel, is_fd_live, is_nonblocking, room, unread}
use Rattle.pth_model.specs.Course.{Course}
use Rattle.pth_model.specs.Living.{is_dead}
use Rattle.pth_model.specs.State.{Control, now_of}
use Rattle.pth_world.specs.Placed.{place}

-- numbers, each after a space
abbrev pub numbers : List ℤ → List ℕ
numbers ns = flat_map (λ n. codes " " ++ signed_decimal n) ns

-- a line of a word and numbers
abbrev pub row : List ℕ → List ℤ → List ℕ
row word ns = word ++ numbers ns ++ codes "\n"

-- the lines of the numbers below n, rising
unfoldable pub lines : (ℕ → List ℕ) → ℕ → List ℕ
lines f zero = []
lines f (suc n) = lines f n ++ f n

-- ---- threads

-- the rank of a thread that is new, ready or waiting, and how many stand before it in its queue
abbrev pub stand : Option (Queue × ℤ × ℕ) → ℤ × ℤ
stand (Some (New, rank, before)) = (rank, pos before)
stand (Some (Ready, rank, before)) = (rank, pos before)
stand (Some (Waiting, rank, before)) = (rank, pos before)
stand (Some (Suspended, rank, before)) = (pos 0, pos 0)
stand (Some (Dead, rank, before)) = (pos 0, pos 0)
stand None = (pos 0, pos 0)

-- what it ended with, if it is dead
abbrev pub value_of : Entry → ℤ
value_of e = if is_dead e.state then e.value else pos 0

abbrev pub thread_numbers : ℕ → Entry → ℤ × ℤ → List ℤ
thread_numbers t e at =
    pos t ∷ state_number e.state ∷ at.0 ∷ at.1 ∷ e.prio ∷ flag e.joinable ∷ pos e.cancel ∷ flag e.request ∷ flag e.suspended ∷ pos e.dispatches ∷ value_of e ∷ []

abbrev pub thread_row : ℕ → Option Entry → Option (Queue × ℤ × ℕ) → List ℕ
thread_row t None p = []
thread_row t (Some e) p = codes "thread" ++ numbers (thread_numbers t e (stand p)) ++ codes " " ++ e.name ++ codes "\n"

-- the threads in the system, rising
abbrev pub thread_rows : {P S H : Type 0} → Control P S H → List ℕ
thread_rows k = lines (λ i. thread_row (i + 1) (k.threads.known (i + 1)) (place k (i + 1))) k.threads.made

-- ---- mutexes and descriptors

abbrev pub mutex_row : ℕ → Option ℕ → List ℕ
mutex_row m None = []
mutex_row m (Some t) = row (codes "mutex") (pos m ∷ pos t ∷ [])

-- those that threads have, rising
abbrev pub mutex_rows : MutexTable → List ℕ
mutex_rows x = lines (λ m. mutex_row m (owner_of (x m))) 64

-- 2 if reads and writes of the descriptor don't wait, else 1
abbrev pub mode_of : Bool → ℤ
mode_of nonblocking = if nonblocking then pos 2 else pos 1

abbrev pub fd_row : Kernel → ℕ → List ℕ
fd_row k f =
    if is_fd_live k f then row (codes "fd") (pos f ∷ pos (length (unread k f)) ∷ pos (room k f) ∷ mode_of (is_nonblocking k f) ∷ []) else []

-- the live descriptors, rising
abbrev pub fd_rows : Kernel → List ℕ
fd_rows k = lines (λ f. fd_row k f) 64

-- ---- what is there once

-- whether a step comes next, or no turn is open
abbrev pub place_row : Option ℕ → List ℕ
place_row None = codes "place open\n"
place_row (Some t) = codes "place step\n"

-- the place: how many steps were made, and whether the next part is one
abbrev pub place_rows : (steps : ℕ) → (running : Option ℕ) → List ℕ
place_rows steps running = codes "pthsnap 1\n" ++ row (codes "steps") (pos steps ∷ []) ++ place_row running

-- the thread that a yield named, 0 for none
abbrev pub named_tid : Option ℕ → ℕ
named_tid None = 0
named_tid (Some t) = t

abbrev pub single_rows : (now turns : ℕ) → (favour : Bool) → (named : Option ℕ) → List ℕ
single_rows now turns favour named =
    row (codes "now") (pos now ∷ [])
    ++ row (codes "turn") (pos turns ∷ [])
    ++ row (codes "favour") (flag favour ∷ [])
    ++ row (codes "named") (pos (named_tid named) ∷ [])

-- ---- the text

module _ {P S H : Type 0} (c : Course P S H) where
  abbrev pub dump : List ℕ
  dump =
      let k = c.state.control in
      place_rows c.turn.steps k.scheduler.running
      ++ single_rows (now_of k) c.turn.turns k.scheduler.favour_new k.scheduler.preferred
      ++ thread_rows k
      ++ mutex_rows c.state.resources.store.mutexes
      ++ fd_rows k.kernel
      ++ codes "end\n"
