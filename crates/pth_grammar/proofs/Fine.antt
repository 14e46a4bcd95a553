-- Words that break no rule by their forms, and are as many as these.
use Rattle.std.proofs.Common.{◌≡◌, ◌==◌, ℕ, Bool, true, false, cond, not, List, [], ◌∷◌, length, Option, Some, None, refl, sym, ap, arith}
use Rattle.std.specs.List.{find}
use Rattle.std.proofs.lemmas.Bool.Decides.{nat_tests}
use Rattle.pth_text.specs.declared.rule.Rule.{Rule}
use Rattle.pth_text.specs.declared.rule.Rule.TheVariants as rule
use Rattle.pth_spelling.specs.FormRules.{are_fine, wrong}
use Rattle.pth_spelling.specs.declared.form.Form.{Form}
use Rattle.pth_spelling.proofs.Wrong.{none_unlisted, none_misformed, none_unpaired}
use Rattle.pth_grammar.specs.Shapes.{Asks, words_break, word_rules}

none_found : (a b c d : Bool) → a ≡ false → b ≡ false → c ≡ false → d ≡ false → cond a (Some rule.Word) (cond b (Some rule.Count) (cond c (Some rule.Operand) (cond d (Some rule.Hex) None))) ≡ None
none_found true b c d e f g h = absurd (cc)
none_found false true c d e f g h = absurd (cc)
none_found false false true d e f g h = absurd (cc)
none_found false false false true e f g h = absurd (cc)
none_found false false false false e f g h = refl

pub fine_words : (fs : List Form) (ws : List (List ℕ)) → length fs ≡ length ws → are_fine fs ws ≡ true → None ≡ find (λ r. words_break r (Asks fs ws)) word_rules
unfolding words_break
fine_words fs ws same fine =
    let even : (length fs == length ws) ≡ true = grind (arith, nat_tests) in
    sym (none_found (wrong rule.Word fs ws) (not (length fs == length ws)) (wrong rule.Operand fs ws) (wrong rule.Hex fs ws) (none_unlisted fs ws fine) (ap not even) (none_misformed fs ws fine) (none_unpaired fs ws fine))
