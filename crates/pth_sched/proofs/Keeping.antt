-- What the parts of a run keep.
use Rattle.std.proofs.Common.{◌≡◌, ◌≢◌, ◌∙◌, ◌<◌, ◌≤◌, ℕ, true, Result, Ok, Err, OnOk, ℤ, length, refl, sym, ap, subst, arith, Option, Some, None, IsSome, IfSome}
use Rattle.pth_base.specs.Limits.{most_steps}
use Rattle.pth_base.specs.Program.{Functions}
use Rattle.pth_base.specs.declared.outcome.Outcome.{Outcome}
use Rattle.pth_base.specs.declared.outcome.Outcome.TheVariants.{Running, Ended, Killed, Stalled, OutOfMemory}
use Rattle.pth_queue.specs.declared.queue.Queue.TheVariants as queue
use Rattle.pth_queue.specs.Queues.{QueuesOf, queue_of, without, entered}
use Rattle.pth_queue.proofs.Counts.{length-delete, count-present}
use Rattle.pth_queue.proofs.Sets.{holds-queue_of}
use Rattle.pth_threads.specs.Threads.{slot_of}
use Rattle.pth_model.specs.State.{Given, Scheduler, start, no_turn}
use Rattle.pth_model.specs.Run.{parts}
use Rattle.pth_world.specs.Shows.{StandsFor}
use Rattle.pth_world.specs.Sound.{IsKnown}
use Rattle.pth_world.specs.Store.{StoreOf}
use Rattle.pth_world.specs.Numbering.{GivesNone, Thread, Object, Event, Port}
use Rattle.pth_world.specs.Touches.{KeepsRest}
use Rattle.pth_threads.specs.Attributes.{AttrsOf}
use Rattle.pth_world.specs.WellFormed.{WellFormed, IsIn, WaitsToRun}
use Rattle.pth_world.specs.World.{WorldOf, ThreadsBySlot}
use Rattle.pth_sched.specs.MachineOf.{MachineOf, IsGoing, machine_stops, machine_stops_by}
use Rattle.pth_sched.specs.Running.{StandsAt, Keeps, Rests}

-- a slot that leaves the new queue makes it shorter
shorter_by : (qs x : QueuesOf) (rank : ℤ) (o : Option ℕ) → IsSome o → IfSome o (λ u. queue_of u qs ≡ Some queue.New) → IfSome o (λ u. x ≡ entered queue.Ready rank u (without u qs)) → length x.new < length qs.new
shorter_by qs x rank None some stands is = cc
shorter_by qs x rank (Some u) some stands is =
    let present = count-present u qs.new (holds-queue_of queue.New u qs stands) in
    let whole = length-delete u qs.new in
    rw is (omega arith)

pub new_shorter : {S : Type 0} (x y : ThreadsBySlot S) (t : ℕ) (rank : ℤ) → IsKnown x t → IsIn queue.New x t → IfSome (slot_of x.records t) (λ u. y.queues ≡ entered queue.Ready rank u (without u x.queues)) → length y.queues.new < length x.queues.new
new_shorter x y t rank known stands is = shorter_by x.queues y.queues rank (slot_of x.records t) known stands is

some_by : (qs : QueuesOf) (o : Option ℕ) → IsSome o → IfSome o (λ u. queue_of u qs ≡ Some queue.New) → 0 < length qs.new
some_by qs None some stands = cc
some_by qs (Some u) some stands =
    let present = count-present u qs.new (holds-queue_of queue.New u qs stands) in
    let whole = length-delete u qs.new in
    omega arith

pub some_new : {S : Type 0} (x : ThreadsBySlot S) (t : ℕ) → IsKnown x t → IsIn queue.New x t → 0 < length x.queues.new
some_new x t known stands = some_by x.queues (slot_of x.records t) known stands

-- a world that stands for the start of a run
pub start_going : {P S H : Type 0} (f : P → Functions S H) (w : WorldOf P S H) (given : Given P) → StandsFor w (start f given) → WellFormed w → w.threads.records.made ≡ 1 → w.attributes.objects.made ≡ 0 → w.events.made ≡ 0 → w.store.ports.made ≡ 0 → IsGoing (record { world = w; turn = no_turn })
unfolding start
start_going f w given st whole one none no_events no_ports = let nobody : w.scheduler.preferred ≡ None = sym (ap (λ (x : Scheduler). x.preferred) st.control.scheduler) in record {
  whole = whole;
  preferred = subst (λ (o : Option ℕ). IfSome o (λ u. WaitsToRun w.threads u)) (sym nobody) tt;
  unnamed = λ gave runs. nobody;
  made = elim [ Thread ↦ omega arith | Object ↦ omega arith | Event ↦ omega arith | Port ↦ omega arith ];
  turns = omega arith;
  over = tt;
  own = tt;
  between = λ nobody. omega arith;
}

pub start_stands : {P S H : Type 0} (f : P → Functions S H) (w : WorldOf P S H) (given : Given P) → StandsFor w (start f given) → StandsAt f given 0 (record { world = w; turn = no_turn })
unfolding parts
start_stands f w given st = record { world = st; turn = refl; memory = λ ended. cc ended }

-- and nobody runs
pub start_nobody : {P S H : Type 0} (f : P → Functions S H) (w : WorldOf P S H) (given : Given P) → StandsFor w (start f given) → w.scheduler.running ≡ None
unfolding start
start_nobody f w given st = sym (ap (λ (x : Scheduler). x.running) st.control.scheduler)

-- what two changes in a row leave as it was
module _ {P S H : Type 0} (w : WorldOf P S H) where
  pub scheduler_first : KeepsRest w w
  scheduler_first = record { program = refl; attributes = refl; events = refl; conditions = refl; barriers = refl; kernel = refl; store = refl; used = refl; scheduler = refl }

  pub scheduler_then : (m v : WorldOf P S H) → KeepsRest w m → KeepsRest m v → KeepsRest w v
  scheduler_then m v a b = record { program = b.program ∙ a.program; attributes = b.attributes ∙ a.attributes; events = b.events ∙ a.events; conditions = b.conditions ∙ a.conditions; barriers = b.barriers ∙ a.barriers; kernel = b.kernel ∙ a.kernel; store = b.store ∙ a.store; used = b.used ∙ a.used; scheduler = b.scheduler ∙ a.scheduler }

  pub gives_rest : (v : WorldOf P S H) → KeepsRest w v → v.threads.records.made ≡ w.threads.records.made → GivesNone w v
  gives_rest v rest made = elim [ Thread ↦ made | Object ↦ ap (λ (x : AttrsOf). x.objects.made) rest.attributes | Event ↦ rest.events | Port ↦ ap (λ (x : StoreOf). x.ports.made) rest.store ]

-- three facts of a call that went well
pub on_ok_three : {A E : Type 0} {X Y Z Q : Type 0} (r : Result A E) → OnOk r X → OnOk r Y → OnOk r Z → (X → Y → Z → Q) → OnOk r Q
on_ok_three (Ok v) x y z f = f x y z
on_ok_three (Err e) x y z f = tt

-- an outcome that ended the run stops it
pub stops_ended : {P S H : Type 0} (to : ℕ) (m : MachineOf P S H) → m.turn.outcome ≢ Running → machine_stops to m ≡ true
stops_ended to m ended = by_cases m.turn.gave m.world.scheduler.running m.turn.outcome ended
  where
    by_cases : (g r : Option ℕ) (o : Outcome) → o ≢ Running → machine_stops_by to m.turn.steps g r o ≡ true
    by_cases g r Running not = absurd (not refl)
    by_cases (Some t) r (Ended v) not = refl
    by_cases (Some t) r Killed not = refl
    by_cases (Some t) r Stalled not = refl
    by_cases (Some t) r OutOfMemory not = refl
    by_cases None (Some t) (Ended v) not = refl
    by_cases None (Some t) Killed not = refl
    by_cases None (Some t) Stalled not = refl
    by_cases None (Some t) OutOfMemory not = refl
    by_cases None None (Ended v) not = refl
    by_cases None None Killed not = refl
    by_cases None None Stalled not = refl
    by_cases None None OutOfMemory not = refl

-- where a run stops and nobody runs, nobody has given up control
stopped_closed : (to steps : ℕ) (g : Option ℕ) → machine_stops_by to steps g None Running ≡ true → g ≡ None
stopped_closed to steps None halt = refl
stopped_closed to steps (Some t) halt = absurd (cc halt)

pub stop_rests : {P S H : Type 0} (to : ℕ) (m : MachineOf P S H) → machine_stops to m ≡ true → Keeps m → m.turn.steps ≤ to → to ≤ most_steps → Rests m
stop_rests to m halt keeps within most = record {
  keeps = keeps;
  few = omega arith;
  closed = λ goes nobody. stopped_closed to m.turn.steps m.turn.gave (subst (λ (o : Outcome). machine_stops_by to m.turn.steps m.turn.gave None o ≡ true) goes (subst (λ (r : Option ℕ). machine_stops_by to m.turn.steps m.turn.gave r m.turn.outcome ≡ true) nobody halt));
}
