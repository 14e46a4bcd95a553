-- Something made of something.
use Rattle.std.proofs.Common.{◌≡◌, true, Option, Some, None, refl}
use Rattle.std.specs.Prelude.{is_some, option_and_then, option_map}

pub some_map : {A R : Type 0} (o : Option A) (build : A → R) → is_some o ≡ true → is_some (option_map build o) ≡ true
some_map (Some x) build h = refl
some_map None build h = absurd (cc)

pub some_then : {A R : Type 0} (o : Option A) (k : A → Option R) → is_some o ≡ true → ((x : A) → is_some (k x) ≡ true) → is_some (option_and_then k o) ≡ true
some_then (Some x) k h rest = rest x
some_then None k h rest = absurd (cc)
