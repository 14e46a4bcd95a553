-- A run that is cut, and one that is not.
use Rattle.std.proofs.Common.{◌≡◌, ◌≢◌, ◌⊎◌, ℕ, ◌+◌, ◌≤◌, List, ◌++◌, Bool, true, refl, sym, ap, ◌∙◌, arith, subst, inl, inr}
use Rattle.std.proofs.lemmas.Bool.{cases_lt, true≢false}
use Rattle.std.proofs.lemmas.List.{append_cancel_left, append_assoc}
use Rattle.pth_base.specs.Program.{Functions}
use Rattle.pth_base.specs.declared.mark.Mark.{Mark}
use Rattle.pth_base.specs.declared.outcome.Outcome.{Outcome}
use Rattle.pth_base.specs.declared.outcome.Outcome.TheVariants.{Running, Ended, Killed, Stalled, OutOfMemory}
use Rattle.pth_model.specs.Course.{Course}
use Rattle.pth_model.specs.State.{Given, Turn}
use Rattle.pth_model.specs.Part.{Part, next_part, next_part_by, unless_ended, is_idle}
use Rattle.pth_model.specs.Run.{run, stops, stops_at, stops_by, GoesUntil, GoesTo}
use Rattle.pth_model.proofs.Runs.{between-then, goes-then, goes-once, stops-later}
use Rattle.pth_sched.specs.MachineOf.{MachineOf}
use Rattle.pth_sched.specs.Running.{FollowsUntil, GoesOn}

halt_by : (to steps : ℕ) (o : Outcome) (p : Part) → o ≢ Running → stops_by to steps (unless_ended o p) ≡ true
halt_by to steps Running p ended = absurd (ended refl)
halt_by to steps (Ended v) p ended = refl
halt_by to steps Killed p ended = refl
halt_by to steps Stalled p ended = refl
halt_by to steps OutOfMemory p ended = refl

pub is_running : (o : Outcome) → (o ≡ Running) ⊎ (o ≢ Running)
is_running Running = inl refl
is_running (Ended v) = inr (λ h. cc h)
is_running Killed = inr (λ h. cc h)
is_running Stalled = inr (λ h. cc h)
is_running OutOfMemory = inr (λ h. cc h)

module _ {P S H : Type 0} where
  -- an outcome stops a run to any number of steps
  stops_any : (to : ℕ) (c : Course P S H) → c.turn.outcome ≢ Running → stops to c ≡ true
  unfolding stops next_part
  stops_any to c ended = halt_by to c.turn.steps c.turn.outcome (next_part_by c.turn.gave c.state.control.scheduler.running (is_idle c.state.control)) ended

  module _ (f : P → Functions S H) (g : Given P) where
    stays_at : (to j k : ℕ) → stops to (run f g j) ≡ true → GoesTo f g to j k → k ≡ j
    stays_at to j k halt b = elim (cases_lt j k) [
      | inl low ↦ absurd (true≢false (sym halt ∙ b.first j (omega arith) low))
      | inr high ↦ (let l = b.later in omega arith)
    ]

    joins : (n to far i j k : ℕ) → n ≤ far → ((run f g j).turn.outcome ≡ Running → to ≡ far) → GoesTo f g n i j → GoesTo f g to j k → GoesTo f g far i k
    joins n to far i j k le runs a b = elim (is_running (run f g j).turn.outcome) [
      | inl on ↦ goes-then f g n far i j k le a (subst (λ (x : ℕ). GoesTo f g x j k) (runs on) b)
      | inr ended ↦ subst (λ (x : ℕ). GoesTo f g far i x) (sym (stays_at to j k (stops_any to (run f g j) ended) b)) (record {
        later = a.later;
        here = stops_any far (run f g j) ended;
        first = λ l from below. stops-later n far (run f g l) le (a.first l from below);
      })
    ]

    -- what is told on two ways is told on the whole way
    pub follows_then : (one two all : ℕ → Bool) (i : ℕ) (t u : MachineOf P S H) (a b c : List Mark) → (first : FollowsUntil f g one i t a b) → (second : FollowsUntil f g two first.part u b c) → GoesUntil all i second.part → FollowsUntil f g all i u a c
    follows_then one two all i t u a b c first second goes = record {
      part = second.part;
      goes = goes;
      stands = second.stands;
      told = first.told ++ second.told;
      between = between-then f g i first.part second.part first.told second.told first.between second.between;
      appended = second.appended ∙ ap (λ (l : List Mark). l ++ second.told) first.appended ∙ append_assoc a first.told second.told;
    }

    -- n steps and then k steps are n + k steps
    pub goes_joined : (i n k : ℕ) (m t u : MachineOf P S H) (a b c : List Mark) → (first : GoesOn f g (m.turn.steps + n) i t a b) → (t.turn.outcome ≡ Running → t.turn.steps ≡ m.turn.steps + n) → GoesOn f g (t.turn.steps + k) first.part u b c → GoesOn f g (m.turn.steps + (n + k)) i u a c
    goes_joined i n k m t u a b c first runs second =
        follows_then (stops_at f g (m.turn.steps + n)) (stops_at f g (t.turn.steps + k)) (stops_at f g (m.turn.steps + (n + k))) i t u a b c first second
        (joins (m.turn.steps + n) (t.turn.steps + k) (m.turn.steps + (n + k)) i first.part second.part (omega arith) (λ on. (let e = runs (ap (λ (x : Turn). x.outcome) (sym first.stands.turn) ∙ on) in omega arith)) first.goes second.goes)

    module _ (halts : ℕ → Bool) (i : ℕ) (t u : MachineOf P S H) (a b c : List Mark) (one : FollowsUntil f g halts i t a b) (two : FollowsUntil f g halts i u a c) where
      same_part : one.part ≡ two.part
      same_part = goes-once halts i one.part two.part one.goes two.goes

      pub same_marks : b ≡ c
      same_marks =
          let between = sym one.between ∙ ap (λ (j : ℕ). (run f g j).marks) same_part ∙ two.between in
          one.appended ∙ ap (λ (l : List Mark). a ++ l) (append_cancel_left (run f g i).marks one.told two.told between) ∙ sym two.appended

      pub same_outcome : t.turn.outcome ≡ u.turn.outcome
      same_outcome = ap (λ (x : Turn). x.outcome) (sym one.stands.turn) ∙ ap (λ (j : ℕ). (run f g j).turn.outcome) same_part ∙ ap (λ (x : Turn). x.outcome) two.stands.turn
