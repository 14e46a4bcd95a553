-- Pairs of digits, alone and after `hex:`.
use Rattle.std.proofs.Common.{◌≡◌, ◌≢◌, ◌==◌, ℕ, Bool, true, false, cond, not, ◌||◌, List, [], ◌∷◌, length, drop, Some, None, refl, sym, ap, ◌∙◌}
use Rattle.std.specs.Prelude.{is_some}
use Rattle.pth_text.specs.Hex.{is_hex, pair_bytes, hex_bytes}
use Rattle.pth_spelling.specs.FormRules.{has_pairs}
use Rattle.pth_spelling.specs.WordMeanings.{given_of, has_hex}
use Rattle.pth_spelling.specs.declared.form.Form.{Form}
use Rattle.pth_spelling.specs.declared.form.Form.TheVariants as form

some_test : (b : Bool) (bs : List ℕ) → b ≡ is_some (cond b (Some bs) None)
some_test true bs = refl
some_test false bs = refl

hex_test : (w : List ℕ) → is_hex w ≡ is_some (hex_bytes w)
unfolding hex_bytes
hex_test w = some_test (is_hex w) (pair_bytes w)

hex_given : (ds : List ℕ) → ds ≢ [] → is_hex ds ≡ is_some (given_of ds)
hex_given [] some = absurd (some refl)
hex_given (d ∷ ds) some = hex_test (d ∷ ds)

ends_not : (b : Bool) → false ≡ b → b ≡ true → ⊥
ends_not true h e = absurd (cc)
ends_not false h e = absurd (cc)

pub pairs_after_hex : (w ds : List ℕ) → has_hex w ≡ true → ds ≡ drop 4 w → false ≡ (length ds == 0) → is_hex ds ≡ has_pairs form.Bytes w
pairs_after_hex w ds hex rest some =
    hex_given ds (λ e. absurd (ends_not (length ds == 0) some (ap (λ d. length d == 0) e))) ∙ ap (λ d. is_some (given_of d)) rest
    ∙ sym (ap (λ b. not b || is_some (given_of (drop 4 w))) hex)

pub pairs_alone : (f : Form) (w : List ℕ) → f ≡ form.Pairs → is_hex w ≡ has_pairs f w
pairs_alone f w alone = hex_test w ∙ ap (λ g. has_pairs g w) (sym alone)
