-- Calls that wait for a length of time, as attempts.
use Rattle.std.proofs.Common.{◌≡◌, ℕ, ℤ, None, refl, false}
use Rattle.pth_base.specs.declared.call.Call.{Call}
use Rattle.pth_model.specs.Awaits.{is_await}
use Rattle.pth_model.specs.declared.awaits.Awaits.{Awaits}
use Rattle.pth_model.specs.declared.verdict.Verdict.{Verdict}
use Rattle.pth_model.specs.declared.verdict.Verdict.TheVariants.{Says, Yields, Blocks, Ends, Kills}
use Rattle.pth_model.specs.State.{State}
use Rattle.pth_model.specs.Times.{rest}
use Rattle.pth_world.specs.Leading.{Attempts, MayComeTo, Tries}
use Rattle.pth_world.specs.Shows.{StandsFor}
use Rattle.pth_world.specs.WellFormed.{IsMoment, MayAwaitAs}
use Rattle.pth_world.specs.World.{WorldOf}
use Rattle.pth_waits.specs.Rests.{IsRestVerdict}
use Rattle.pth_waits.proofs.Attempting.{IsPlain, IsQuietCall, quiet_attempts, quiet_ready, quiet_tries}

rest_plain : (x : Verdict) → IsRestVerdict x → IsPlain x
rest_plain (Says a) is = tt
rest_plain (Blocks a) is = tt
rest_plain (Yields a) is = absurd is
rest_plain (Ends v) is = absurd is
rest_plain Kills is = absurd is

-- a call that may wait for any moment
module _ {P S H : Type 0} (w : WorldOf P S H) (t : ℕ) (c : Call) (other : is_await c ≡ false) (quiet : IsQuietCall t c) (may : (a : Awaits) → IsMoment a → MayAwaitAs t c a) where
  rest_may : (x : Verdict) → IsRestVerdict x → MayComeTo t c x
  rest_may (Says a) is = tt
  rest_may (Blocks a) is = may a is
  rest_may (Yields a) is = tt
  rest_may (Ends v) is = tt
  rest_may Kills is = tt

  pub rest_attempts : (unit : ℕ) (n : ℤ) (answer : ℕ) (x : Verdict) → ((s : State P S H) → StandsFor w s → (rest s unit n answer).begin.verdict ≡ x) → IsRestVerdict x
      → Attempts false w w t c None (λ (s : State P S H). (rest s unit n answer).begin) x
  rest_attempts unit n answer x is rests =
      quiet_attempts false w w t c None (λ s. (rest s unit n answer).begin) x (λ s. refl) is (λ s st. quiet_ready w t c x s other quiet (rest_plain x rests) st) (rest_may x rests)

  pub rest_tries : (unit : ℕ) (n : ℤ) (answer : ℕ) (x : Verdict) (a : Awaits) → ((s : State P S H) → StandsFor w s → ((rest s unit n answer).again a).verdict ≡ x) → IsRestVerdict x
      → Tries w w t (record { call = c; awaits = a }) (λ (s : State P S H). (rest s unit n answer).again a) x
  rest_tries unit n answer x a is rests =
      quiet_tries w w t (record { call = c; awaits = a }) (λ s. (rest s unit n answer).again a) x (λ s. refl) is (λ s st. quiet_ready w t c x s other quiet (rest_plain x rests) st) (rest_may x rests) refl
