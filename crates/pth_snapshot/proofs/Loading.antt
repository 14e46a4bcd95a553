-- What is loaded, and found again.
use Rattle.std.proofs.Common.{◌≡◌, ◌≢◌, ℕ, Option, Some, None, is_some, MatchOption, false, Ok, List, refl, sym, ap, ◌∙◌, subst, inr}
use Rattle.pth_base.specs.Program.{Functions}
use Rattle.pth_base.specs.declared.outcome.Outcome.TheVariants.{Running}
use Rattle.pth_model.specs.Course.{Course}
use Rattle.pth_model.specs.Run.{parts, run}
use Rattle.pth_model.specs.State.{Given, Scheduler, Turn, start}
use Rattle.pth_sched.specs.MachineOf.{MachineOf}
use Rattle.pth_sched.specs.Running.{Stands, StandsAt, IsBetweenTurns}
use Rattle.pth_snapshot.specs.Leading.{IsLed, IsPlaced}
use Rattle.pth_snapshot.specs.Dump.{dump}
use Rattle.pth_snapshot.specs.Loading.{DifferFirstAt, IsTakenUp, IsRefusedAt, IsRefusedSnapshot, refused_by}
use Rattle.pth_snapshot.specs.Place.{is_step, named_place}
use Rattle.pth_snapshot.specs.declared.place.Place.{Place}

module _ {P S H : Type 0} (f : P → Functions S H) (g : Given P) (p : Place) (m : MachineOf P S H) where
  -- who runs where the machine stands
  running_there : (i : ℕ) → StandsAt f g i m → is_some (run f g i).state.control.scheduler.running ≡ is_some m.world.scheduler.running
  running_there i st = ap (λ (x : Scheduler). is_some x.running) st.world.control.scheduler

  pub placed : is_some m.world.scheduler.running ≡ is_step p.kind → IsLed f g p Running m → IsPlaced f g p None m
  placed same led =
      let st = led.2.stands refl in
      (led.0, record { leads = led.1; goes = led.2.outcome; kind = running_there led.0 st ∙ same }, st)

  pub not_closed : is_some m.world.scheduler.running ≢ is_step p.kind → IsLed f g p Running m → IsPlaced f g p (Some 3) m
  not_closed other led =
      let st = led.2.stands refl in
      inr (refl, record { part = led.0; leads = led.1; goes = led.2.outcome; kind = λ same. other (sym (running_there led.0 st) ∙ same) })

none_of : {A : Type 0} (o : Option A) → is_some o ≡ false → o ≡ None
none_of None h = refl
none_of (Some a) h = cc h

module _ {P S H : Type 0} (f : P → Functions S H) (g : Given P) (p : Place) (m : MachineOf P S H) where
  pub placed_there : (line : Option ℕ) → is_some line ≡ false → IsPlaced f g p line m → IsPlaced f g p None m
  placed_there line none placed = subst (λ o. IsPlaced f g p o m) (none_of line none) placed

  refused : (snap : List ℕ) → named_place snap ≡ Ok p → (line : ℕ) → IsRefusedAt f g snap p line → IsRefusedSnapshot f g snap line
  refused snap named line is = subst (λ r. refused_by f g snap r line) (sym named) is

  -- what stands at the place is the snapshot, or differs from it
  pub compared : (snap text : List ℕ) → named_place snap ≡ Ok p → IsPlaced f g p None m → ((c : Course P S H) → Stands m c → text ≡ dump c)
      → (line : Option ℕ) → MatchOption line (snap ≡ text) (λ n. DifferFirstAt snap text n) → MatchOption line (IsTakenUp f g snap m) (λ n. IsRefusedSnapshot f g snap n)
  compared snap text named at saved None same =
      record { place = p; named = named; part = at.0; is = at.1; stands = at.2; text = same ∙ saved (run f g at.0) at.2 }
  compared snap text named at saved (Some n) differ =
      refused snap named n (inr (inr (record { part = at.0; is = at.1; differ = subst (λ t. DifferFirstAt snap t n) (saved (run f g at.0) at.2) differ })))

-- at its start a run is between two turns
pub start_between : {P S H : Type 0} (f : P → Functions S H) (g : Given P) (m : MachineOf P S H) → StandsAt f g 0 m → m.turn.outcome ≡ Running → IsBetweenTurns m
unfolding parts start
start_between f g m st goes = record {
  goes = goes;
  gave = ap (λ (x : Turn). x.gave) (sym st.turn);
  nobody = ap (λ (x : Scheduler). x.running) (sym st.world.control.scheduler);
}
