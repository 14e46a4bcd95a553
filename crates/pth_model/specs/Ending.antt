-- How a thread ends (pth_exit, and the end of its body), in parts.
use Rattle.std.specs.Prelude.{ℕ, zero, suc, ◌+◌, ◌*◌, ◌==◌, nat_lt, ℤ, pos, false, List, [], ◌∷◌, map, filter, Option, Some, None, if◌then◌else◌}
use Rattle.pth_model.specs.Conditions.{hands_on_seats}
use Rattle.std.specs.List.{range_with_len}
use Rattle.pth_base.specs.Program.{Functions}
use Rattle.pth_base.specs.declared.ids.HandlerId.{HandlerId}
use Rattle.pth_base.specs.declared.mark.Mark.TheVariants.{Destructor, GaveMutex, GaveLock, Ended}
use Rattle.pth_base.specs.declared.thread.ThreadState.TheVariants as state
use Rattle.pth_queue.specs.declared.queue.Queue.TheVariants as queue
use Rattle.pth_threads.specs.declared.entry.Change.TheVariants as change
use Rattle.pth_lock.specs.Objects.{object_limit}
use Rattle.pth_lock.specs.Mutexes.{MutexTable, has}
use Rattle.pth_lock.specs.RwLocks.{LockTables, holds}
use Rattle.pth_store.specs.Cleanups.{PushedHandler}
use Rattle.pth_store.specs.Keys.{Tables, key_limit, first_live}
use Rattle.pth_model.specs.declared.destructors.Due.{Due}
use Rattle.pth_model.specs.declared.destructors.DestructorRound.{DestructorRound}
use Rattle.pth_model.specs.Transition.{Piece, Change, silent, changes, tells, tells_each, tid, ◌and◌, ◌and_then◌}
use Rattle.pth_model.specs.Barriers.{withdraws_from}
use Rattle.pth_model.specs.Changes.{sets, enters, leaves_queue, removes, runs_now, entry_of, or_nobody, blocked_of}
use Rattle.pth_model.specs.RingWaits.{awaited_in, stops_waiting}
use Rattle.pth_model.specs.Acts.{handled, runs_handler}

-- destructors run in rounds, each of which goes through the keys once: so many are begun at most (PTH_DESTRUCTOR_ITERATIONS)
abbrev pub round_limit : ℕ
round_limit = 4

abbrev pub first_round : DestructorRound
first_round = record { number = 1; from = 0 }

-- a destructor that is owed a value, in a round
abbrev pub due : ℕ → ℕ × HandlerId × ℤ → Due
due n o = record { key = o.0; handler = o.1; value = o.2; round = record { number = n; from = o.0 + 1 } }

-- by: the first key of this round to which a destructor is owed, and the first of all
abbrev pub due_by : DestructorRound → Option (ℕ × HandlerId × ℤ) → Option (ℕ × HandlerId × ℤ) → Option Due
due_by r (Some o) first = Some (due r.number o)
due_by r None (Some o) = if nat_lt r.number round_limit then Some (due (r.number + 1) o) else None
due_by r None None = None

-- the next destructor of t: the first that is owed in this round, else the first of one more round
unfoldable pub next_destructor : Tables → ℕ → DestructorRound → Option Due
next_destructor x t r = due_by r (first_live x t r.from) (first_live x t 0)

-- the thread that runs, unless it is t
abbrev pub other_than : ℕ → Option ℕ → Option ℕ
other_than t None = None
other_than t (Some u) = if u == t then None else Some u

-- the mutexes that a thread has, the least first
unfoldable pub mutexes_had : ℕ → MutexTable → List ℕ
mutexes_had t x = filter (λ m. has t (x m)) (range_with_len 0 object_limit)

-- the read-write locks that it holds, the least first
unfoldable pub locks_held : ℕ → LockTables → List ℕ
locks_held t x = filter (holds x t) (range_with_len 0 object_limit)

module _ {P S H : Type 0} where
  -- its wait is undone: its arrival at a barrier is taken back, its seats at conditions are handed on, and the claim on its ring is given
  -- back
  abbrev pub undoes_wait : ℕ → Piece P S H
  undoes_wait t s =
      let a = awaited_in (blocked_of s.control t) in
      (withdraws_from t a.what and_then changes (hands_on_seats t a and stops_waiting t)) s

  -- its cleanups run, the last pushed first
  unfoldable pub runs_each : (P → Functions S H) → ℕ → List PushedHandler → Piece P S H
  runs_each f t [] s = silent s
  runs_each f t (c ∷ cs) s = (runs_handler f t c.0 c.1 and_then runs_each f t cs) s

  abbrev pub runs_cleanups : (P → Functions S H) → ℕ → Piece P S H
  runs_cleanups f t s = runs_each f t (s.resources.store.cleanups t) s

  -- its destructors run: each finds the thread's value 0, and is given the value that it had
  abbrev pub runs_destructor : (P → Functions S H) → ℕ → Due → Piece P S H
  runs_destructor f t d = tells (Destructor (tid t) d.key d.value) and_then handled f t d.handler d.value

  abbrev pub destructs_by : (P → Functions S H) → ℕ → Option Due → (DestructorRound → Piece P S H) → Piece P S H
  destructs_by f t None next = silent
  destructs_by f t (Some d) next = runs_destructor f t d and_then next d.round

  -- at most n destructors, from here in a round on
  unfoldable pub destructs : (P → Functions S H) → ℕ → ℕ → DestructorRound → Piece P S H
  destructs f t zero r s = silent s
  destructs f t (suc n) r s = destructs_by f t (next_destructor s.resources.store.keys t r) (destructs f t n) s

  abbrev pub runs_destructors : (P → Functions S H) → ℕ → Piece P S H
  runs_destructors f t = destructs f t (round_limit * key_limit) first_round

  -- it gives up the mutexes that it has, each with all its levels
  abbrev pub gives_mutexes : ℕ → Piece P S H
  gives_mutexes t s = tells_each (map (GaveMutex (tid t)) (mutexes_had t s.resources.store.mutexes)) s

  -- and the read-write locks that it holds
  abbrev pub gives_locks : ℕ → Piece P S H
  gives_locks t s = tells_each (map (GaveLock (tid t)) (locks_held t s.resources.store.rw_locks)) s

  abbrev pub gives_all : ℕ → Piece P S H
  gives_all t = gives_mutexes t and_then gives_locks t

  -- a joinable thread is dead, and keeps its value until it is joined
  unfoldable pub is_dead_with : ℕ → ℤ → Change P S H
  is_dead_with t v =
      leaves_queue t
      and sets t (change.State state.Dead)
      and sets t (change.Suspended false)
      and sets t (change.Value v)
      and enters t queue.Dead (pos 0) false

  abbrev pub stops_running : ℕ → Change P S H
  stops_running t k = runs_now (other_than t k.scheduler.running) k

  -- another one is gone
  unfoldable pub leaves : ℕ → ℤ → Change P S H
  leaves t v k = ((if (or_nobody (entry_of k t)).joinable then is_dead_with t v else removes t) and stops_running t) k

  abbrev pub dies : ℕ → ℤ → Piece P S H
  dies t v = changes (leaves t v) and_then tells (Ended (tid t) v)

  -- a thread ends with a value
  unfoldable pub ending : (P → Functions S H) → ℕ → ℤ → Piece P S H
  ending f t v = undoes_wait t and_then runs_cleanups f t and_then runs_destructors f t and_then gives_all t and_then dies t v
