-- A proof by the cases of a test.
use Rattle.std.proofs.Common.{◌≡◌, Bool, true, false, refl}

pub by_cases : {A : Type 0} → (b : Bool) → (b ≡ true → A) → (b ≡ false → A) → A
by_cases true here there = here refl
by_cases false here there = there refl
