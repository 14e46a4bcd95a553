-- The state of the machine: what threads have, which marks alone change, and all else, which calls change.
use Rattle.std.specs.Prelude.{ℕ, pos, Bool, true, false, List, [], ◌∷◌, Option, Some, None, option_map, codes}
use Rattle.pth_base.specs.Program.{Functions}
use Rattle.pth_base.specs.Table.{put}
use Rattle.pth_base.specs.declared.answer.Answer.TheVariants as answer
use Rattle.pth_base.specs.declared.outcome.Outcome.{Outcome}
use Rattle.pth_base.specs.declared.outcome.Outcome.TheVariants.{Running}
use Rattle.pth_base.specs.declared.thread.ThreadState.TheVariants as state
use Rattle.pth_numbered.specs.Numbered.{number_known}
use Rattle.pth_threads.specs.declared.attribute.Attribute.{Attribute}
use Rattle.pth_queue.specs.declared.ranked.Ranked.{Ranked}
use Rattle.pth_queue.specs.declared.queue.Queue.{Queue}
use Rattle.pth_queue.specs.declared.queue.Queue.TheVariants.{Ready}
use Rattle.pth_threads.specs.declared.entry.Entry.{Entry}
use Rattle.pth_threads.specs.declared.entry.NewThread.{NewThread}
use Rattle.pth_model.specs.declared.progress.Progress.{Progress}
use Rattle.pth_ring.specs.Rings.{Events, no_events}
use Rattle.pth_cond.specs.Conditions.{ConditionTable, no_conditions}
use Rattle.pth_cond.specs.Barriers.{BarrierTable, no_barriers}
use Rattle.pth_kernel.specs.Kernel.{Kernel}
use Rattle.pth_model.specs.Store.{Resources, no_resources}
use Rattle.pth_model.specs.Standing.{Standing, shown, raises_of}
use Rattle.pth_model.specs.Allowance.{Point, allowed, standing_of, waited}

-- the threads, by number, and where they stand
pub record Threads (S : Type 0) : Type 0 where
  -- how many were ever made: the last one's number
  pub made : ℕ
  -- the records of the threads in the system, dead ones too
  pub known : ℕ → Option Entry
  -- how far each of them is in its program
  pub progress : ℕ → Option (Progress S)
  -- those that stand in each queue, the latest entry first
  pub standing : Queue → List Standing
  -- how many entries into queues there were
  pub entries : ℕ
  -- how often the ready queue was raised
  pub raises : ℕ
  -- all dispatches so far, the earliest first
  pub trail : List Point

-- the attribute objects, by number (pth_attr_t)
pub record Attributes : Type 0 where
  -- how many were ever made: the last one's number
  pub made : ℕ
  -- each with values of its own, or bound to a thread
  pub objects : ℕ → Option Attribute

-- what the scheduler keeps
pub record Scheduler : Type 0 where
  -- the thread that runs
  pub running : Option ℕ
  -- the thread that the last yield named (pth_yield)
  pub preferred : Option ℕ
  -- whether new threads are favoured (PTH_CTRL_FAVOURNEW)
  pub favour_new : Bool

-- what calls change: the program's shared value, the threads, their attribute objects, events and rings of them (pth_event_t),
-- the conditions (pth_cond_t), the barriers (pth_barrier_t), the kernel with its descriptors, the once controls that were used
-- (pth_once_t), and what the scheduler keeps; and what none changes, the greatest base priority
pub record Control (P S H : Type 0) : Type 0 where
  pub program : P
  pub shared : H
  pub threads : Threads S
  pub attributes : Attributes
  pub events : Events
  pub conditions : ConditionTable
  pub barriers : BarrierTable
  pub kernel : Kernel
  pub used : ℕ → Bool
  pub scheduler : Scheduler
  pub top : ℕ

pub record State (P S H : Type 0) : Type 0 where
  pub resources : Resources
  pub control : Control P S H

-- the moment, and how far a turn moves it, in microseconds
abbrev pub now_of : {P S H : Type 0} → Control P S H → ℕ
now_of k = k.kernel.now

abbrev pub clock_of : {P S H : Type 0} → Control P S H → ℕ
clock_of k = k.kernel.clock

-- how often another thread was dispatched since this one became ready, and how often it may be at most; none if it is not ready
abbrev pub wait_of : {P S H : Type 0} → Control P S H → ℕ → Option ℕ
wait_of k t = option_map (waited k.threads.trail) (standing_of t (k.threads.standing Ready))

abbrev pub allowance_of : {P S H : Type 0} → Control P S H → ℕ → Option ℕ
allowance_of k t = option_map (allowed k.top k.threads.trail) (standing_of t (k.threads.standing Ready))

-- what a run counts from turn to turn: no call sees or changes it
pub record Turn : Type 0 where
  pub turns : ℕ
  pub steps : ℕ
  -- the thread that gave up control, until its turn is closed
  pub gave : Option ℕ
  pub outcome : Outcome

-- a queue, as ranks and threads in order
abbrev pub queue : {P S H : Type 0} → Control P S H → Queue → List Ranked
queue k q = shown (raises_of k.threads.raises q) (k.threads.standing q)

-- how many threads are in the system
abbrev pub present : {P S H : Type 0} → Control P S H → ℕ
present k = number_known k.threads.known k.threads.made

-- no attribute object was made
abbrev pub no_attributes : Attributes
no_attributes = record { made = 0; objects = λ n. None }

-- how many once controls there are
abbrev pub once_limit : ℕ
once_limit = 64

-- the main thread's number
abbrev pub main : ℕ
main = 1

-- what the main thread is given
abbrev pub first_thread : NewThread
first_thread = record { prio = pos 0; name = codes "main"; joinable = true; cancel = 1 }

-- its record: it is there from the start (pth_init)
abbrev pub main_entry : Entry
main_entry = record {
  tid = record { 0 = main };
  prio = first_thread.prio;
  name = first_thread.name;
  joinable = first_thread.joinable;
  cancel = first_thread.cancel;
  request = false;
  state = state.Ready;
  suspended = false;
  dispatches = 0;
  value = pos 0;
}

-- its place: ready at rank 0
abbrev pub main_standing : Queue → List Standing
main_standing Ready = record { tid = main; rank = pos 0; since = 0; entry = 0; top = false } ∷ []
main_standing q = []

-- what a run is given: base priorities go from -top to top
pub record Given (P : Type 0) : Type 0 where
  pub program : P
  pub kernel : Kernel
  pub top : ℕ

-- the state from which a run starts: main alone, ready at rank 0, at the moment of the kernel
unfoldable pub start : {P S H : Type 0} → (P → Functions S H) → Given P → State P S H
start f g = record {
  resources = no_resources;
  control = record {
    program = g.program;
    shared = (f g.program).shared;
    threads = record {
      made = 1;
      known = put (λ t. None) main (Some main_entry);
      progress = put (λ t. None) main (Some (record { state = (f g.program).start 0 (pos 0); owed = answer.None; blocked = None }));
      standing = main_standing;
      entries = 1;
      raises = 0;
      trail = [];
    };
    attributes = no_attributes;
    events = no_events;
    conditions = no_conditions;
    barriers = no_barriers;
    kernel = g.kernel;
    used = λ o. false;
    scheduler = record { running = None; preferred = None; favour_new = true };
    top = g.top;
  };
}

-- before the first turn
abbrev pub no_turn : Turn
no_turn = record { turns = 0; steps = 0; gave = None; outcome = Running }
