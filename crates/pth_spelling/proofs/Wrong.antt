-- Whether some word breaks a rule, asked of the words and forms in pairs.
use Rattle.std.proofs.Common.{◌≡◌, ℕ, Bool, true, false, not, ◌&&◌, ◌||◌, List, [], ◌∷◌, refl, ap}
use Rattle.std.specs.List.{list_all, list_any, zip}
use denote.Ref.{Bor}
use Rattle.pth_spelling.specs.FormRules.{are_fine, has_form, has_pairs, is_fine, is_listed, misses, wrong}
use Rattle.pth_spelling.specs.Texts.{texts}
use Rattle.pth_spelling.specs.declared.form.Form.{Form}
use Rattle.pth_text.specs.declared.rule.Rule.{Rule}
use Rattle.pth_text.specs.declared.rule.Rule.TheVariants as rule

pub wrong_pairs : (r : Rule) (fs : List Form) (ws : List (Bor (List ℕ))) → list_any (λ p. misses r p.0 p.1.now) (zip fs ws) ≡ wrong r fs (texts ws)
unfolding wrong
wrong_pairs r [] ws = refl
wrong_pairs r (f ∷ fs) [] = refl
wrong_pairs r (f ∷ fs) (w ∷ ws) = ap (λ b. misses r f w.now || b) (wrong_pairs r fs ws)

pub fine_pairs : (fs : List Form) (ws : List (Bor (List ℕ))) → list_all (λ p. is_fine p.0 p.1.now) (zip fs ws) ≡ are_fine fs (texts ws)
unfolding are_fine
fine_pairs [] ws = refl
fine_pairs (f ∷ fs) [] = refl
fine_pairs (f ∷ fs) (w ∷ ws) = ap (λ b. is_fine f w.now && b) (fine_pairs fs ws)

both : (a b : Bool) → (a && b) ≡ true → (a ≡ true) × (b ≡ true)
both true b t = (refl, t)
both false b t = absurd (cc)

neither : (a b : Bool) → a ≡ false → b ≡ false → (a || b) ≡ false
neither true b e f = absurd (cc)
neither false b e f = f

-- words that break no rule do not break this one
none_wrong : (r : Rule) → ((f : Form) (w : List ℕ) → is_fine f w ≡ true → misses r f w ≡ false) → (fs : List Form) (ws : List (List ℕ)) → are_fine fs ws ≡ true → wrong r fs ws ≡ false
unfolding are_fine wrong
none_wrong r each [] ws fine = refl
none_wrong r each (f ∷ fs) [] fine = refl
none_wrong r each (f ∷ fs) (w ∷ ws) fine =
    let parts = both (is_fine f w) (are_fine fs ws) fine in
    neither (misses r f w) (wrong r fs ws) (each f w parts.0) (none_wrong r each fs ws parts.1)

fine_listed : (f : Form) (w : List ℕ) → is_fine f w ≡ true → misses rule.Word f w ≡ false
unfolding is_fine misses
fine_listed f w fine = ap not (both (is_listed f w) (has_pairs f w && has_form f w) fine).0

fine_formed : (f : Form) (w : List ℕ) → is_fine f w ≡ true → misses rule.Operand f w ≡ false
unfolding is_fine misses
fine_formed f w fine = ap not (both (has_pairs f w) (has_form f w) (both (is_listed f w) (has_pairs f w && has_form f w) fine).1).1

fine_paired : (f : Form) (w : List ℕ) → is_fine f w ≡ true → misses rule.Hex f w ≡ false
unfolding is_fine misses
fine_paired f w fine = ap not (both (has_pairs f w) (has_form f w) (both (is_listed f w) (has_pairs f w && has_form f w) fine).1).0

pub none_unlisted : (fs : List Form) (ws : List (List ℕ)) → are_fine fs ws ≡ true → wrong rule.Word fs ws ≡ false
none_unlisted = none_wrong rule.Word fine_listed

pub none_misformed : (fs : List Form) (ws : List (List ℕ)) → are_fine fs ws ≡ true → wrong rule.Operand fs ws ≡ false
none_misformed = none_wrong rule.Operand fine_formed

pub none_unpaired : (fs : List Form) (ws : List (List ℕ)) → are_fine fs ws ≡ true → wrong rule.Hex fs ws ≡ false
none_unpaired = none_wrong rule.Hex fine_paired
