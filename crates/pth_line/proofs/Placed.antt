-- The operand at a place, with its number.
use Rattle.std.proofs.Common.{◌≡◌, ◌∙◌, ℕ, List, Option, Some, None, refl, sym, ap}
use Rattle.std.specs.Prelude.{slice_get, option_map}
use Rattle.std.specs.Option.{option_copied}
use Rattle.std.proofs.lemmas.Option.{slice_get-map}
use denote.Ref.{Bor}
use Rattle.pth_line.specs.CallLines.{arg_in, args_in}
use Rattle.pth_line.specs.declared.argument.Argument.{Argument}
use Rattle.pth_operand.specs.Values.{Scope}

copied : (s : Scope) (r : Option (Bor Argument)) → option_map (λ a. arg_in s a.now) r ≡ option_map (λ o. arg_in s o) (option_copied r)
copied s (Some a) = refl
copied s None = refl

-- the operand that is found in a line has its number in the operands of the thread
pub there : (s : Scope) (os : List Argument) (place : ℕ) (r : Option (Bor Argument)) → option_copied r ≡ slice_get os place
    → option_map (λ a. arg_in s a.now) r ≡ slice_get (args_in s os) place
there s os place r found = copied s r ∙ ap (option_map (λ o. arg_in s o)) found ∙ sym (slice_get-map (λ o. arg_in s o) os place)
