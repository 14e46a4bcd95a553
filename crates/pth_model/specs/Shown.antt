-- How the changes of standings show in the queues of a state.
use Rattle.std.specs.Prelude.{◌≡◌, ℕ, ℤ, Bool, if◌then◌else◌}
use Rattle.pth_queue.specs.declared.queue.Queue.{Queue}
use Rattle.pth_queue.specs.declared.queue.Queue.TheVariants.{Ready}
use Rattle.pth_queue.specs.Ranking.{insert, delete, increase}
use Rattle.pth_model.specs.Standing.{is_queue}
use Rattle.pth_model.specs.State.{Control, queue}
use Rattle.pth_model.specs.Changes.{enters, leaves_queue, raises_ready}

module _ (P S H : Type 0) where
  -- a thread that enters a queue is put behind every row of an equal or greater rank, and no other queue changes
  abbrev pub EntriesShow : Type 0
  EntriesShow = (k : Control P S H) (t : ℕ) (p q : Queue) (rank : ℤ) (top : Bool) → queue (enters t q rank top k) p ≡ (if is_queue p q then insert (record { rank = rank; holder = t }) (queue k p) else queue k p)

  -- a thread that leaves is in no queue any longer
  abbrev pub LeavesShow : Type 0
  LeavesShow = (k : Control P S H) (t : ℕ) (q : Queue) → queue (leaves_queue t k) q ≡ delete t (queue k q)

  -- every rank of the ready queue is one more, and no other queue changes
  abbrev pub RaisesShow : Type 0
  RaisesShow = (k : Control P S H) (q : Queue) → queue (raises_ready k) q ≡ (if is_queue q Ready then increase (queue k q) else queue k q)
