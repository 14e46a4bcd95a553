-- Where a machine stops, and what a world shows as a thread is put back.
use Rattle.std.proofs.Common.{◌≡◌, ℕ, Bool, true, false, Option, Some, None, is_some, IsSome, refl, sym, ap, ◌∙◌, subst}
use Rattle.pth_base.specs.declared.outcome.Outcome.{Outcome}
use Rattle.pth_base.specs.declared.outcome.Outcome.TheVariants.{Running, Ended, Killed, Stalled, OutOfMemory}
use Rattle.pth_model.specs.declared.blocked.Blocked.{Blocked}
use Rattle.pth_model.specs.Course.{Course}
use Rattle.pth_model.specs.State.{Control, Scheduler}
use Rattle.pth_model.specs.Changes.{blocked_of, runs_now}
use Rattle.pth_model.specs.Part.{is_placed, is_put_back, is_put_waiting, placed_by, next_part, next_part_by, unless_ended, is_idle}
use Rattle.pth_model.specs.Run.{stops as run_stops, stops_by as run_stops_by}
use Rattle.pth_world.specs.World.{WorldOf}
use Rattle.pth_world.specs.Shows.{Shows}
use Rattle.pth_sched.specs.MachineOf.{MachineOf, machine_stops, machine_stops_by}
use Rattle.pth_sched.specs.Running.{Stands}

-- ---- where a run stops

by_part : (to steps : ℕ) (g r : Option ℕ) (o : Outcome) (idle : Bool) → machine_stops_by to steps g r o ≡ run_stops_by to steps (unless_ended o (next_part_by g r idle))
by_part to steps (Some t) r Running idle = refl
by_part to steps (Some t) r (Ended v) idle = refl
by_part to steps (Some t) r Killed idle = refl
by_part to steps (Some t) r Stalled idle = refl
by_part to steps (Some t) r OutOfMemory idle = refl
by_part to steps None (Some t) Running idle = refl
by_part to steps None (Some t) (Ended v) idle = refl
by_part to steps None (Some t) Killed idle = refl
by_part to steps None (Some t) Stalled idle = refl
by_part to steps None (Some t) OutOfMemory idle = refl
by_part to steps None None Running true = refl
by_part to steps None None Running false = refl
by_part to steps None None (Ended v) idle = refl
by_part to steps None None Killed idle = refl
by_part to steps None None Stalled idle = refl
by_part to steps None None OutOfMemory idle = refl

module _ {P S H : Type 0} where
  -- who runs, in the control that a world shows
  pub running_of : (w : WorldOf P S H) (k : Control P S H) → Shows w k → k.scheduler.running ≡ w.scheduler.running
  running_of w k st = ap (λ (x : Scheduler). x.running) st.scheduler

  -- a machine stops where the run does
  pub stops_is : (to : ℕ) (m : MachineOf P S H) (c : Course P S H) → Stands m c → machine_stops to m ≡ run_stops to c
  unfolding run_stops next_part
  stops_is to m c st = rw (← st.turn, ← running_of m.world c.state.control st.world.control) (by_part to c.turn.steps c.turn.gave c.state.control.scheduler.running c.turn.outcome (is_idle c.state.control))

  -- ---- the thread that gave up control is put back

  pub placed_none : (w : WorldOf P S H) (k : Control P S H) (t : ℕ) → w.scheduler.running ≡ None → Shows w k → Shows w (is_placed t k)
  unfolding is_placed
  placed_none w k t nobody st =
      let none : k.scheduler.running ≡ None = running_of w k st ∙ nobody in
      let same : record k.scheduler { running = None } ≡ w.scheduler = ap (λ (r : Option ℕ). record k.scheduler { running = r }) (sym none) ∙ st.scheduler in
      rw none record { program = st.program; shared = st.shared; threads = st.threads; attributes = st.attributes; events = st.events; conditions = st.conditions; barriers = st.barriers; kernel = st.kernel; used = st.used; scheduler = same }

  pub placed_waiting : (w v : WorldOf P S H) (k : Control P S H) (t : ℕ) → IsSome w.scheduler.running → is_some (blocked_of k t) ≡ true → Shows w k → Shows v (runs_now None (is_put_waiting t k)) → Shows v (is_placed t k)
  unfolding is_placed
  placed_waiting w v k t runs blocked st shows = by_blocked k.scheduler.running (blocked_of k t) (subst (λ (o : Option ℕ). IsSome o) (sym (running_of w k st)) runs) blocked
    where
      by_blocked : (r : Option ℕ) (b : Option Blocked) → IsSome r → is_some b ≡ true → Shows v (runs_now None (placed_by t r b k))
      by_blocked (Some r) (Some b) some is = shows
      by_blocked None b some is = absurd (cc some)
      by_blocked (Some r) None some is = absurd (cc is)

  pub placed_back : (w v : WorldOf P S H) (k : Control P S H) (t : ℕ) → IsSome w.scheduler.running → is_some (blocked_of k t) ≡ false → Shows w k → Shows v (runs_now None (is_put_back t k)) → Shows v (is_placed t k)
  unfolding is_placed
  placed_back w v k t runs blocked st shows = by_blocked k.scheduler.running (blocked_of k t) (subst (λ (o : Option ℕ). IsSome o) (sym (running_of w k st)) runs) blocked
    where
      by_blocked : (r : Option ℕ) (b : Option Blocked) → IsSome r → is_some b ≡ false → Shows v (runs_now None (placed_by t r b k))
      by_blocked (Some r) None some is = shows
      by_blocked None b some is = absurd (cc some)
      by_blocked (Some r) (Some b) some is = absurd (cc is)
