-- How a state of a run fits the marks that led to it, unless a pth_kill ended the run. A state keeps no marks, and what marks say
-- reads no state: here the two meet.
use Rattle.std.specs.Prelude.{◌≡◌, ◌≢◌, ◌<◌, ℕ, ℤ, pos, true, false, not, List, [], All, map, Some, None, option_map}
use Rattle.std.specs.List.{list_any}
use Rattle.pth_base.specs.declared.mark.Mark.{Mark}
use Rattle.pth_lock.specs.Mutexes.{has, levels_of}
use Rattle.pth_lock.specs.RwLocks.{is_one}
use Rattle.pth_store.specs.Keys.{key_limit}
use Rattle.pth_model.specs.Awaits.{is_awaiting, is_canceled_in}
use Rattle.pth_model.specs.State.{State}
use Rattle.pth_model.specs.Changes.{blocked_of}
use Rattle.pth_model.specs.Living.{lives, is_made}
use Rattle.pth_laws.specs.Marks.{at_number, thread_of, is_end_of, is_cancellation_of, block_at_end}
use Rattle.pth_laws.specs.Orderly.{pending_handlers, key_at, value_of}
use Rattle.pth_laws.specs.Exclusive.{awaits, levels, reads, writes, is_holder}
use Rattle.pth_laws.specs.InOrder.{port_index, by_index, mail}
use Rattle.pth_laws.specs.Valid.{Lives}

pub record IsTiedTo {P S H : Type 0} (s : State P S H) (marks : List Mark) : Type 0 where
  -- a thread that was not made has no mark
  pub unmade : (t : ℕ) → is_made s.control.threads.made t ≡ false → All (λ m. thread_of m ≢ Some t) marks
  -- one that was made has an end among the marks exactly if it does not live
  pub ended : (t : ℕ) → is_made s.control.threads.made t ≡ true → list_any (is_end_of t) marks ≡ not (lives (s.control.threads.known t))
  -- who lives was canceled exactly if it takes its mutex back for that
  pub canceled : (t : ℕ) → Lives s t → list_any (is_cancellation_of t) marks ≡ is_canceled_in (blocked_of s.control t)
  -- the marks do not end within a block of a thread
  pub closed : (t : ℕ) → block_at_end t marks ≡ []
  -- the handlers that a thread has pending
  pub cleanups : (t : ℕ) → pending_handlers t marks ≡ s.resources.store.cleanups t
  -- the keys that are live, with their destructors, and the values of threads under keys
  pub keys : (key : ℤ) → key_at key marks ≡ at_number None s.resources.store.keys.keys key
  pub values : (t key : ℕ) → key < key_limit → value_of t (pos key) marks ≡ s.resources.store.keys.values key t
  -- how many levels of a mutex a thread has, and whether it reads or writes under a lock
  pub mutexes : (t : ℕ) (i : ℤ) → levels t i marks ≡ levels_of t (at_number None s.resources.store.mutexes i)
  pub readers : (t : ℕ) (l : ℤ) → reads t l marks ≡ at_number false (λ k. s.resources.store.rw_locks.reads k t) l
  pub writers : (t : ℕ) (l : ℤ) → writes t l marks ≡ is_one t (at_number None s.resources.store.rw_locks.writer l)
  -- the ports that are there, with the messages that wait at each, the messages that are held, and how many were put
  pub ports : (p : ℤ) → (mail marks).at (port_index p) ≡ option_map (map by_index) (at_number None s.resources.store.mail.at p)
  pub held : (n : ℕ) → (mail marks).kept n ≡ option_map by_index (s.resources.store.mail.kept n)
  pub put : (mail marks).made ≡ s.resources.store.mail.made
  -- a thread awaits exactly if the call that blocks it is a pth_cond_await
  pub awaiting : (t : ℕ) → awaits t marks ≡ is_awaiting (blocked_of s.control t)
  -- a thread that does not live has no level of a mutex, and holds no lock
  pub gone_has_no_level : (t : ℕ) (i : ℤ) → lives (s.control.threads.known t) ≡ false → levels t i marks ≡ 0
  pub gone_holds_no_lock : (t : ℕ) (l : ℤ) → lives (s.control.threads.known t) ≡ false → is_holder t l marks ≡ false
  -- all levels of a mutex are those of one thread
  pub one_owner : (t u i : ℕ) → has t (s.resources.store.mutexes i) ≡ true → has u (s.resources.store.mutexes i) ≡ true → t ≡ u
  -- if a thread writes under a lock nobody reads there, neither it nor another
  pub one_hold : (t u l : ℕ) → is_one t (s.resources.store.rw_locks.writer l) ≡ true → s.resources.store.rw_locks.reads l u ≡ false
