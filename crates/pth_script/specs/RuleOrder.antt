-- The order in which the rules are looked at.
use Rattle.std.specs.Prelude.{Bool, List, [], ◌∷◌, Option}
use Rattle.std.specs.List.{find}
use Rattle.pth_text.specs.declared.rule.Rule.TheVariants as rule
use Rattle.pth_text.specs.declared.rule.Breach.{Breach}
use Rattle.pth_text.specs.declared.rule.Breach.TheVariants.{Limit, Of}

-- a limit comes before all rules
abbrev pub rule_order : List Breach
rule_order =
    Limit ∷ Of rule.Cut ∷ Of rule.Header ∷ Of rule.Word ∷ Of rule.Count ∷ Of rule.Operand ∷ Of rule.Hex ∷ Of rule.Number ∷ Of rule.Label
    ∷ Of rule.Main ∷ Of rule.End ∷ Of rule.Time ∷ Of rule.Fd ∷ []

-- the first of the table that is broken
unfoldable pub first_broken : (Breach → Bool) → Option Breach
first_broken broken = find broken rule_order
