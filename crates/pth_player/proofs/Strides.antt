-- A piece of a run, made stride by stride.
use Rattle.std.proofs.Common.{◌≡◌, ◌∙◌, ◌+◌, ◌-◌, ◌<◌, ◌≤◌, ℕ, zero, suc, Bool, true, false, List, ◌++◌, length, ap, sym, refl, arith, inl, inr, length-append}
use Rattle.std.proofs.lemmas.Bool.{cases_lt, true≢false}
use Rattle.std.proofs.lemmas.List.{append_cancel_left}
use Rattle.pth_base.specs.Program.{Functions}
use Rattle.pth_base.specs.declared.mark.Mark.{Mark}
use Rattle.pth_model.specs.State.{Given}
use Rattle.pth_model.specs.Run.{run, GoesTo}
use Rattle.pth_model.proofs.Runs.{between-then, stops-later}
use Rattle.pth_sched.specs.MachineOf.{MachineOf}
use Rattle.pth_sched.specs.Running.{GoesOn, StandsAt}
use Rattle.pth_sched.proofs.Cutting.{goes_joined}
use Rattle.pth_player.specs.Drive.{TellsFewer}
use Rattle.pth_player.proofs.Beginnings.{told_to}

-- a machine that goes on for n steps and is still running, and then for k steps, goes on for n + k
pub strides_joined : {P S H : Type 0} (f : P → Functions S H) (m t u : MachineOf P S H) (n k : ℕ) (a b c : List Mark)
    → ((g : Given P) (i : ℕ) → StandsAt f g i m → GoesOn f g (m.turn.steps + n) i t a b) → t.turn.steps ≡ m.turn.steps + n
    → ((g : Given P) (i : ℕ) → StandsAt f g i t → GoesOn f g (t.turn.steps + k) i u b c)
    → (g : Given P) (i : ℕ) → StandsAt f g i m → GoesOn f g (m.turn.steps + (n + k)) i u a c
strides_joined f m t u n k a b c before made next g i stands =
    let first = before g i stands in
    goes_joined f g i n k m t u a b c first (λ on. made) (next g first.part first.stands)

-- some steps are left while it is not over
pub still_some : (left : ℕ) (over : Bool) → (left ≡ 0 → over ≡ true) → over ≡ false → 1 ≤ left
still_some zero over last going = absurd (true≢false (sym (last refl) ∙ going))
still_some (suc n) over last going = omega arith

-- ---- how much was told

module _ {P S H : Type 0} (f : P → Functions S H) (g : Given P) where
  -- a run to fewer steps stops no later
  stops_before : (to far i j k : ℕ) → to ≤ far → GoesTo f g to i j → GoesTo f g far i k → j ≤ k
  stops_before to far i j k le a b = elim (cases_lt k j) [
    | inl low ↦ absurd (true≢false (sym b.here ∙ stops-later to far (run f g k) le (a.first k b.later low)))
    | inr high ↦ high
  ]

  -- and tells no more: if few marks stand after more steps, few stand after fewer
  tells_fewer : (to far i : ℕ) (m : MachineOf P S H) (old new : List Mark) (bound : ℕ) → to ≤ far → GoesOn f g far i m old new → length new < bound → TellsFewer f g to i old bound
  tells_fewer to far i m old new bound le go few j told stops between =
      let rest = told_to f g j go.part (stops_before to far i j go.part le stops go.goes) in
      let both = between-then f g i j go.part told rest.0 between rest.1 in
      let whole : go.told ≡ told ++ rest.0 = append_cancel_left (run f g i).marks go.told (told ++ rest.0) (sym go.between ∙ both) in
      let all = ap length (go.appended ∙ ap (λ (l : List Mark). old ++ l) whole) in
      omega (arith, all, few, length-append old (told ++ rest.0), length-append told rest.0, length-append old told)

  -- few marks stood when they were counted, and at most a stride was made since
  pub few_before : (made asked more i : ℕ) (m : MachineOf P S H) (old new seen : List Mark) → more ≤ 4 → GoesOn f g (made + asked) i m old new → seen ≡ new → length seen < 4096
      → TellsFewer f g (made + (asked + more - 4)) i old 4096
  few_before made asked more i m old new seen stride go same few =
      let all = ap length same in
      tells_fewer (made + (asked + more - 4)) (made + asked) i m old new 4096 (omega arith) go (omega (arith, all, few))
