-- A world shows a state of the machine.
use Rattle.std.specs.Prelude.{◌≡◌, ◌≤◌, ◌+◌, ℕ, None, List, map, false, length}
use Rattle.pth_base.specs.Table.{table}
use Rattle.pth_base.specs.Naming.{seen}
use Rattle.pth_queue.specs.Ranking.{named_row}
use Rattle.pth_queue.specs.Queues.{rows_of}
use Rattle.pth_queue.specs.declared.queue.Queue.{Queue}
use Rattle.pth_queue.specs.declared.queue.Queue.TheVariants.{Ready}
use Rattle.pth_base.specs.Limits.{most_steps}
use Rattle.pth_model.specs.Allowance.{Point, AreTakenReady, standing_of, waited, allowed, number_by}
use Rattle.pth_model.specs.Part.{trail_with}
use Rattle.pth_tables.specs.declared.waits.Turn.{Turn}
use Rattle.pth_tables.specs.Counts.{Counts}
use Rattle.pth_tables.specs.Waits.{waits_of}
use Rattle.pth_threads.specs.Attributes.{AttrsOf, object_of}
use Rattle.pth_threads.specs.Threads.{slot_of, tid_at, entry_at}
use Rattle.pth_ring.specs.Arena.{events_of}
use Rattle.pth_cond.specs.Conditions.{conditions_of}
use Rattle.pth_cond.specs.Barriers.{barriers_of}
use Rattle.pth_kernel.specs.Kernel.{kernel_of}
use Rattle.pth_model.specs.Standing.{shown, raises_of}
use Rattle.pth_model.specs.State.{State, Control, Threads, Attributes}
use Rattle.pth_world.specs.Store.{store_of}
use Rattle.pth_world.specs.World.{WorldOf, ThreadsBySlot}

-- these dispatches may be those of a run: each thread that was taken was ready, and there are few
pub record IsHistory (trail : List Point) : Type 0 where
  pub taken : AreTakenReady trail
  pub few : length trail ≤ most_steps + 1

-- what is kept for the waits of ready threads is what the trail tells
pub record CountsWaits {S : Type 0} (greatest : ℕ) (x : ThreadsBySlot S) (k : Threads S) : Type 0 where
  pub top : greatest ≡ x.waits.top
  pub counts : Counts (slot_of x.records) (waits_of x.waits) k.trail (k.standing Ready) k.entries

-- The threads are these under their numbers, each queue shows the standings in order, and the greatest base priority is that of the
-- queues. It is that of the attribute objects too where the world is well-formed (`WellFormed`). Not shown of standings
-- are three things:
-- - raises of the ready queue, and those before an entry: a rank shows how many came between the two;
-- - numbers of entries: the order of equal ranks shows which entry was earlier;
-- - whether one entered at Top: the rank alone is shown.
-- So a world stands for states that differ in these, and contracts are said of each of them. What they are in the states of a
-- run, `queues_are_in_order` (`pth_model`) says.
--
-- The counts of waits are those of the trail, if that is one of a run's dispatches.
pub record ShowsThreads {S : Type 0} (greatest : ℕ) (x : ThreadsBySlot S) (k : Threads S) : Type 0 where
  pub made : k.made ≡ x.records.made
  pub known : k.known ≡ seen None (slot_of x.records) (entry_at x.records)
  pub progress : k.progress ≡ seen None (slot_of x.records) (table None x.progress)
  pub standing : (q : Queue) → shown (raises_of k.raises q) (k.standing q) ≡ map (named_row (tid_at x.records)) (rows_of q x.queues)
  pub top : greatest ≡ x.queues.top
  pub waits : IsHistory k.trail → CountsWaits greatest x k

-- the attribute objects are these under their numbers
pub record ShowsAttributes (x : AttrsOf) (k : Attributes) : Type 0 where
  pub made : k.made ≡ x.objects.made
  pub objects : k.objects ≡ object_of x

-- the world shows this control
pub record Shows {P S H : Type 0} (w : WorldOf P S H) (k : Control P S H) : Type 0 where
  pub program : k.program ≡ w.program
  pub shared : k.shared ≡ w.shared
  pub threads : ShowsThreads k.top w.threads k.threads
  pub attributes : ShowsAttributes w.attributes k.attributes
  pub events : k.events ≡ events_of w.events
  pub conditions : k.conditions ≡ conditions_of w.conditions
  pub barriers : k.barriers ≡ barriers_of w.barriers
  pub kernel : k.kernel ≡ kernel_of w.kernel
  pub used : k.used ≡ table false w.used
  pub scheduler : k.scheduler ≡ w.scheduler

-- The world stands for this state: it shows the control, and what threads stored. Who awaits a condition it does not show: the blocked
-- call says so, in the states of each run (`every_run_is_tied`: `valid`).
pub record StandsFor {P S H : Type 0} (w : WorldOf P S H) (s : State P S H) : Type 0 where
  pub control : Shows w s.control
  pub store : s.resources.store ≡ store_of w.store

-- the numbers of t's wait at its own dispatch
pub record IsTurnOf {P S H : Type 0} (k : Control P S H) (t : ℕ) (turn : Turn) : Type 0 where
  pub waited : turn.waited ≡ number_by (waited (trail_with t k)) (standing_of t (k.threads.standing Ready))
  pub allowed : turn.allowed ≡ number_by (allowed k.top (trail_with t k)) (standing_of t (k.threads.standing Ready))
