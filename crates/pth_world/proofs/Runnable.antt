-- Threads that are new or ready, and not suspended, stay so while others move.
use Rattle.std.proofs.Common.{◌≡◌, ℕ, ◌==◌, Bool, true, false, IsSome, IfSome, Option, Some, refl, sym, ◌∙◌, ap, subst}
use Rattle.pth_base.proofs.Tables.{same_means, same_fails}
use Rattle.pth_queue.specs.declared.queue.Queue.{Queue}
use Rattle.pth_queue.specs.declared.queue.Queue.TheVariants as queue
use Rattle.pth_queue.specs.Queues.{queue_of}
use Rattle.pth_threads.specs.Threads.{slot_of, tid_at}
use Rattle.pth_world.specs.World.{WorldOf, ThreadsBySlot}
use Rattle.pth_world.specs.Sound.{IsSound}
use Rattle.pth_world.specs.WellFormed.{View, view, WellFormed, IsRunnable, OfReady, WaitsToRun}
use Rattle.pth_world.specs.Touches.{Touches}
use Rattle.pth_world.proofs.Slots.{name_is}
use Rattle.pth_world.proofs.Moves.{known_slot, runner_runs}

-- the place is a queue of threads that are new or ready
abbrev pub IsAmong : Option Queue → Type 0
IsAmong p = (q : Queue) × IsRunnable q × (p ≡ Some q)

-- another place that is the same
among_as : (p r : Option Queue) → r ≡ p → IsAmong p → IsAmong r
among_as p r is a = (a.0, a.1, is ∙ a.2)

module _ {S : Type 0} (x y : ThreadsBySlot S) (slots : slot_of y.records ≡ slot_of x.records) where
  -- who waits to run goes on to, where its slot stays among those
  pub runs_on : (u : ℕ) → ((i : ℕ) → slot_of x.records u ≡ Some i → IsAmong (view x i).place → IsAmong (view y i).place) → WaitsToRun x u → WaitsToRun y u
  runs_on u at waits =
      let slot = known_slot (slot_of x.records u) waits.known in
      let here = subst (λ (o : Option ℕ). IfSome o (λ i. queue_of i x.queues ≡ Some waits.queue)) slot.1 waits.stands in
      let there = at slot.0 slot.1 (waits.queue, waits.runnable, here) in
      let is : slot_of y.records u ≡ Some slot.0 = ap (λ (k : ℕ → Option ℕ). k u) slots ∙ slot.1 in
      record {
        known = subst (λ (o : Option ℕ). IsSome o) (sym is) refl;
        queue = there.0;
        runnable = there.1;
        stands = subst (λ (o : Option ℕ). IfSome o (λ i. queue_of i y.queues ≡ Some there.0)) (sym is) there.2;
      }

  -- where no slot has another view
  pub stays_seen : ((i : ℕ) → view y i ≡ view x i) → (u : ℕ) → WaitsToRun x u → WaitsToRun y u
  stays_seen same u = runs_on u (λ i is a. among_as (view x i).place (view y i).place (ap (λ (k : View). k.place) (same i)) a)

  -- where thread t changed, and is among those if it was
  pub stays_touched : (t : ℕ) (g : View → View) → IsSound x → Touches x y t g → ((i : ℕ) → slot_of x.records t ≡ Some i → IsAmong (view x i).place → IsAmong (g (view x i)).place) → (u : ℕ) → WaitsToRun x u → WaitsToRun y u
  stays_touched t g sound touches own u = runs_on u (λ i is a. by_own i is a (tid_at x.records i == t) refl)
    where
      by_own : (i : ℕ) → slot_of x.records u ≡ Some i → IsAmong (view x i).place → (b : Bool) → (tid_at x.records i == t) ≡ b → IsAmong (view y i).place
      by_own i is a true same =
          let slot : slot_of x.records t ≡ Some i = ap (slot_of x.records) (sym (same_means _ t same) ∙ name_is x u i sound is) ∙ is in
          among_as (g (view x i)).place (view y i).place (ap (λ (k : View). k.place) (touches.own i slot)) (own i slot a)
      by_own i is a false apart = among_as (view x i).place (view y i).place (ap (λ (k : View). k.place) (touches.others i (same_fails _ t apart))) a

-- a thread that stands in the ready queue is among them
pub among_ready : IsAmong (Some queue.Ready)
among_ready = (queue.Ready, OfReady, refl)

-- whoever runs is not among them
pub runner_apart : {P S H : Type 0} (w : WorldOf P S H) (t i : ℕ) (Q : Type 0) → WellFormed w → w.scheduler.running ≡ Some t → slot_of w.threads.records t ≡ Some i → IsAmong (view w.threads i).place → Q
runner_apart w t i Q whole is at a =
    let nowhere = (runner_runs w t i whole is at).nowhere in
    let stands = a.2 in
    absurd (cc (nowhere, stands))
