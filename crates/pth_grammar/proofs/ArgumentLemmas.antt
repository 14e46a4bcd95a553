-- The operands of a call line are read one by one.
use Rattle.std.proofs.Common.{◌≡◌, ◌∙◌, ◌<◌, ◌≤◌, ◌+◌, ℕ, zero, suc, List, [], ◌∷◌, ◌++◌, length, drop, get_or, Option, Some, None, refl, sym, ap, append_assoc, append-nil, arith}
use Rattle.std.specs.Prelude.{option_and_then, option_map}
use Rattle.std.proofs.Math.ListN.{drop_of_length-le}
use denote.Ref.{Bor}
use Rattle.pth_line.specs.declared.argument.Argument.{Argument}
use Rattle.pth_grammar.specs.CallLines.{argument_of, arguments_of}
use Rattle.pth_spelling.specs.Texts.{texts}
use Rattle.pth_spelling.specs.declared.form.Form.{Form}

-- operands that were read, and the others where these are read
abbrev pub onto : List Argument → Option (List Argument) → Option (List Argument)
onto os found = option_map (λ more. os ++ more) found

-- the operands behind a number of words
abbrev pub left : List Form → List (Bor (List ℕ)) → ℕ → Option (List Argument)
left fs ws n = arguments_of (drop n fs) (texts (drop n ws))

next : (fs : List Form) (ws : List (Bor (List ℕ))) (n : ℕ) (d : Form) (e : Bor (List ℕ)) → n < length fs → n < length ws
    → left fs ws n ≡ option_and_then (λ o. option_map (λ os. o ∷ os) (left fs ws (suc n))) (argument_of (get_or fs n d) (get_or ws n e).now)
unfolding arguments_of
next [] ws n d e few less = absurd (omega arith)
next (g ∷ fs) [] n d e few less = absurd (omega arith)
next (g ∷ fs) (v ∷ ws) zero d e few less = refl
next (g ∷ fs) (v ∷ ws) (suc n) d e few less = next fs ws n d e (omega arith) (omega arith)

moved : (os : List Argument) (o : Argument) (found : Option (List Argument)) → onto os (option_map (λ more. o ∷ more) found) ≡ onto (os ++ o ∷ []) found
moved os o None = refl
moved os o (Some more) = ap (λ l. Some l) (sym (append_assoc os (o ∷ []) more))

-- one more operand is read
pub one_more : (fs : List Form) (ws : List (Bor (List ℕ))) (n : ℕ) (d : Form) (e : Bor (List ℕ)) (os both : List Argument) (o : Argument) → n < length fs → n < length ws
    → Some o ≡ argument_of (get_or fs n d) (get_or ws n e).now → both ≡ os ++ o ∷ [] → onto both (left fs ws (n + 1)) ≡ onto os (left fs ws n)
one_more fs ws n d e os both o few less read is =
    let further : suc n ≡ n + 1 = omega arith in
    ap (λ l. onto l (left fs ws (n + 1))) is
    ∙ ap (λ (k : ℕ). onto (os ++ o ∷ []) (left fs ws k)) (sym further)
    ∙ sym (moved os o (left fs ws (suc n)))
    ∙ ap (λ found. onto os (option_and_then (λ o. option_map (λ os. o ∷ os) (left fs ws (suc n))) found)) read
    ∙ ap (onto os) (sym (next fs ws n d e few less))

-- a word is none of its form
pub one_wrong : (fs : List Form) (ws : List (Bor (List ℕ))) (n : ℕ) (d : Form) (e : Bor (List ℕ)) (os : List Argument) → n < length fs → n < length ws
    → None ≡ argument_of (get_or fs n d) (get_or ws n e).now → None ≡ onto os (left fs ws n)
one_wrong fs ws n d e os few less read =
    ap (λ found. onto os (option_and_then (λ o. option_map (λ os. o ∷ os) (left fs ws (suc n))) found)) read
    ∙ ap (onto os) (sym (next fs ws n d e few less))

none_behind : (fs : List Form) (ws : List (Bor (List ℕ))) (n : ℕ) → length fs ≤ n → length ws ≤ n → left fs ws n ≡ Some []
unfolding arguments_of
none_behind fs ws n all words = rw (drop_of_length-le fs all, drop_of_length-le ws words) refl

-- no word is left
pub none_left : (fs : List Form) (ws : List (Bor (List ℕ))) (n : ℕ) (os : List Argument) → length fs ≤ n → length ws ≤ n → Some os ≡ onto os (left fs ws n)
none_left fs ws n os all words = ap (λ l. Some l) (sym (append-nil os)) ∙ ap (onto os) (sym (none_behind fs ws n all words))

nothing : (first : Option Argument) (rest : Option (List Argument)) → None ≡ rest → None ≡ option_and_then (λ o. option_map (λ os. o ∷ os) rest) first
nothing (Some o) rest e = ap (option_map (λ os. o ∷ os)) e
nothing None rest e = refl

-- there are not as many words as forms
pub other_count : (fs : List Form) (ws : List (Bor (List ℕ))) → (length fs ≡ length ws → ⊥) → None ≡ arguments_of fs (texts ws)
unfolding arguments_of
other_count [] [] other = absurd (other refl)
other_count [] (w ∷ ws) other = refl
other_count (f ∷ fs) [] other = refl
other_count (f ∷ fs) (w ∷ ws) other = nothing (argument_of f w.now) _ (other_count fs ws (λ e. other (ap (λ n. suc n) e)))

same : (found : Option (List Argument)) → onto [] found ≡ found
same (Some os) = refl
same None = refl

-- all is still to be read
pub all_left : (fs : List Form) (ws : List (Bor (List ℕ))) (os : List Argument) → os ≡ [] → onto os (left fs ws 0) ≡ arguments_of fs (texts ws)
all_left fs ws os none = ap (λ l. onto l (left fs ws 0)) none ∙ same (arguments_of fs (texts ws))
