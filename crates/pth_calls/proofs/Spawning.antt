-- Calls of thread control lead where their rows say.
use Rattle.std.proofs.Common.{◌≡◌, ◌+◌, ℕ, ℤ, pos, refl, sym, Bool, true, false, Some, None, Result, Ok, Err, if◌then◌else◌}
use Rattle.pth_base.specs.Program.{Functions}
use Rattle.pth_base.specs.declared.answer.Answer.TheVariants as answer
use Rattle.pth_base.specs.declared.errno.Errno.{Errno}
use Rattle.pth_base.specs.declared.errno.Errno.TheVariants.{EAGAIN}
use Rattle.pth_threads.specs.declared.entry.NewThread.{NewThread}
use Rattle.pth_numbered.specs.Operands.{is_below}
use Rattle.pth_model.specs.State.{Control, State}
use Rattle.pth_model.specs.ThreadControl.{spawn, spawns, values_for, or_first, has_room}
use Rattle.pth_model.specs.declared.verdict.Verdict.TheVariants.{Says}
use Rattle.pth_world.specs.World.{WorldOf}
use Rattle.pth_world.specs.Shows.{Shows}

module _ {P S H : Type 0} (f : P → Functions S H) (s : State P S H) (t : ℕ) (b v x : ℤ) where
  abbrev bodies : ℕ
  bodies = (f s.control.program).bodies

  pub no_room : (of : NewThread) → is_below b bodies ≡ true → Ok of ≡ values_for s.control t x → has_room s.control ≡ false → (spawn f s t b v x).begin.verdict ≡ Says (answer.Fail EAGAIN)
  no_room of some values none = rw (some, sym values, none) refl

  pub is_made : (of : NewThread) → is_below b bodies ≡ true → Ok of ≡ values_for s.control t x → has_room s.control ≡ true → (spawn f s t b v x).begin.verdict ≡ Says (answer.Int (pos (s.control.threads.made + 1)))
  is_made of some values room = rw (some, sym values, room) refl

-- the values that were found are those that a new thread is given
pub or_first_is : (r : Result NewThread Errno) (of : NewThread) → Ok of ≡ r → of ≡ or_first r
or_first_is (Ok x) of is = cc
or_first_is (Err e) of is = absurd (cc is)

-- a body that is named
pub body_named : (n m : ℕ) (c : Bool) → Some n ≡ (if c then Some m else None) → (c ≡ true) × (n ≡ m)
body_named n m true e = (refl, cc)
body_named n m false e = absurd (cc e)

-- the same spawn, named otherwise
pub spawns_same : {P S H : Type 0} (f : P → Functions S H) (w : WorldOf P S H) (k : Control P S H) (n m : ℕ) (v : ℤ) (of like : NewThread) → n ≡ m → of ≡ like → Shows w (spawns f n v of k) → Shows w (spawns f m v like k)
spawns_same f w k n m v of like same_body same_values sh = rw (← same_body, ← same_values) sh
