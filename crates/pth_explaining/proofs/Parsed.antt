-- From a parse of the command to the name that the words give.
use Rattle.std.proofs.Common.{◌≡◌, ◌∙◌, true, List, [], ◌∷◌, Option, Some, None, codes, ap, ap₂, sym, refl, inl, inr}
use Rattle.clap.proofs.OnLiterals.{clap_on_literals}
use Rattle.clap.specs.Words.{App, HasKind, Kinds, Row, Text, fault_of, first_of, is_simple, is_simple_and_free, kind_of, matches_of}
use Rattle.clap.specs.declared.error.Error.{Error}
use Rattle.clap.specs.declared.error.kind.ErrorKind.TheVariants.{OutOfMemory}
use Rattle.pth_explaining.specs.Words.{asked_by, explainer, unless_failed}

simple : is_simple explainer ≡ true
unfolding clap_on_literals explainer
simple = refl

free : is_simple_and_free explainer ≡ true
unfolding clap_on_literals explainer
free = refl

pub is_plain : (a : App) → a ≡ explainer → is_simple a ≡ true
is_plain a e = ap is_simple e ∙ simple

pub is_free : (a : App) → a ≡ explainer → is_simple_and_free a ≡ true
is_free a e = ap is_simple_and_free e ∙ free

-- a parse that found these rows
pub taken : (a : App) (ws : List Text) (rows : List Row) (name : Option Text) → a ≡ explainer → fault_of a ws ≡ [] → rows ≡ matches_of a ws
    → name ≡ first_of (codes "FILE") rows → asked_by ws ≡ Some name
unfolding asked_by
taken a ws rows name e none found is =
    ap₂ unless_failed (ap (λ (b : App). fault_of b ws) (sym e) ∙ none)
    (ap (λ (b : App). first_of (codes "FILE") (matches_of b ws)) (sym e) ∙ ap (first_of (codes "FILE")) (sym found) ∙ sym is)

-- and one that failed, and not for want of memory
pub refused : (a : App) (ws : List Text) (error : Error) → a ≡ explainer → HasKind (fault_of a ws) error → (kind_of error ≡ OutOfMemory → ⊥) → asked_by ws ≡ None
unfolding asked_by
refused a ws error e has not = go (fault_of a ws) refl has
  where
    go : (kinds : Kinds) → fault_of a ws ≡ kinds → HasKind kinds error → asked_by ws ≡ None
    go [] is h = elim h [ inl memory ↦ absurd (not memory) | inr bad ↦ absurd bad ]
    go (k ∷ ks) is h = ap (λ (l : Kinds). unless_failed l (first_of (codes "FILE") (matches_of explainer ws))) (ap (λ (b : App). fault_of b ws) (sym e) ∙ is)
