-- Threads that do not run vanish one by one.
use Rattle.std.specs.Prelude.{◌≡◌, ◌≢◌, ℕ, if◌then◌else◌, Some, None, []}
use Rattle.pth_queue.specs.declared.queue.Queue.{Queue}
use Rattle.pth_queue.specs.Queues.{rows_of}
use Rattle.pth_model.specs.State.{Control}
use Rattle.pth_model.specs.LibraryControl.{vanish_all_but}
use Rattle.pth_model.specs.Kill.{store_of_only}
use Rattle.pth_threads.specs.Threads.{slot_of}
use Rattle.pth_world.specs.Store.{store_of, HasNothing}
use Rattle.pth_world.specs.World.{WorldOf}
use Rattle.pth_world.specs.Ranks.{KeepsRanks}
use Rattle.pth_world.specs.Shows.{Shows}
use Rattle.pth_world.specs.WellFormed.{WellFormed}

-- the world shows a control in which some of k's threads other than t are gone: once all the others vanish, both are the same
pub record ShowsRest {P S H : Type 0} (t : ℕ) (v : WorldOf P S H) (k : Control P S H) : Type 0 where
  pub rest : Control P S H
  pub shows : Shows v rest
  pub same : vanish_all_but t rest ≡ vanish_all_but t k

-- from w to v: some threads that stood in queues are in the system no longer, with what they stored, and nothing else is changed
pub record Vanishing {P S H : Type 0} (w v : WorldOf P S H) : Type 0 where
  pub whole : WellFormed v
  pub shows : (t : ℕ) → w.scheduler.running ≡ Some t → (k : Control P S H) → Shows w k → ShowsRest t v k
  pub made : v.threads.records.made ≡ w.threads.records.made
  pub ranks : KeepsRanks 0 w.threads v.threads
  -- a queue that was empty still is
  pub empty : (q : Queue) → rows_of q w.threads.queues ≡ [] → rows_of q v.threads.queues ≡ []
  -- who runs keeps what it stored
  pub store : (t : ℕ) → w.scheduler.running ≡ Some t → store_of_only t (store_of v.store) ≡ store_of_only t (store_of w.store)
  pub same : v ≡ record w { threads = v.threads; store = v.store }

-- where t is alone in the system, and nothing is held by nobody, it is every reader of each lock
abbrev pub ReadsAlone : {P S H : Type 0} → WorldOf P S H → ℕ → Type 0
ReadsAlone w t =
    ((i : ℕ) → i ≢ t → slot_of w.threads.records i ≡ None)
    → HasNothing (store_of w.store) 0
    → (l : ℕ) → (store_of w.store).rw_locks.readers l ≡ (if (store_of w.store).rw_locks.reads l t then 1 else 0)
