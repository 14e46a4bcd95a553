-- Beginnings of texts that are joined.
use Rattle.std.proofs.Common.{◌≡◌, ◌∙◌, ℕ, ◌<◌, ◌+◌, List, ◌∷◌, ◌++◌, sym, ap, subst, append_assoc, take, drop, length, get_or, codes, flat_map, map, Result, Err}
use Rattle.std.proofs.lemmas.Result.{on_ok_weaker, on_err_weaker}
use Rattle.std.proofs.lemmas.Grind.{flat_map-append}
use Rattle.std.proofs.lemmas.List.{take-append-drop, drop_more}
use Rattle.std.proofs.lemmas.List.Folds.{flat_map-map}
use Rattle.pth_base.specs.Cut.{IsCut}
use Rattle.pth_base.proofs.Cuts.{cut_first, cut_then}
use Rattle.pth_print.specs.Adding.{AddsText}
use Rattle.pth_print.specs.SpacedWords.{spaced, joined_words}
use Rattle.pth_print.specs.WordTexts.{phrase_of, word_text}
use Rattle.pth_print.specs.declared.word.Word.{Word}

-- texts up to one, this one, and those after it
flat_map_at : {A : Type 0} (f : A → List ℕ) (xs : List A) (i : ℕ) (d : A) → i < length xs → flat_map f (take i xs) ++ (f (get_or xs i d) ++ flat_map f (drop (i + 1) xs)) ≡ flat_map f xs
flat_map_at f xs i d h =
    ap (λ r. flat_map f (take i xs) ++ flat_map f r) (sym (drop_more xs i d h)) ∙ sym (flat_map-append f (take i xs) (drop i xs)) ∙ ap (flat_map f) (take-append-drop i xs)

-- a beginning of one of the texts was added after those before it
pub cut_at : {A : Type 0} (f : A → List ℕ) (xs : List A) (old mid new : List ℕ) (i : ℕ) (d : A) → i < length xs → mid ≡ old ++ flat_map f (take i xs) → IsCut mid new (f (get_or xs i d)) → IsCut old new (flat_map f xs)
cut_at f xs old mid new i d h e c =
    subst (IsCut old new) (flat_map_at f xs i d h) (cut_then old mid new _ _ e (cut_first mid new _ _ c))

-- one text after another
pub adds_then : {T E : Type 0} (old mid new one two : List ℕ) (result : Result T E) → mid ≡ old ++ one → AddsText mid new result two → AddsText old new result (one ++ two)
adds_then old mid new one two result e a = record {
  ok = on_ok_weaker result (λ h. h ∙ ap (λ m. m ++ two) e ∙ append_assoc old one two) a.ok;
  err = on_err_weaker result (λ h. cut_then old mid new one two e h) a.err;
}

-- an error in a first text
pub adds_cut : {T E : Type 0} (old new one two : List ℕ) (result : Result T E) (e : E) → result ≡ Err e → IsCut old new one → AddsText old new result (one ++ two)
adds_cut old new one two result e is c = rw is (record { ok = tt; err = cut_first old new one two c })

-- another spelling of the text
pub adds_same : {T E : Type 0} (old new one two : List ℕ) (result : Result T E) → one ≡ two → AddsText old new result one → AddsText old new result two
adds_same old new one two result e a = subst (λ t. AddsText old new result t) e a

spaced_append : (words others : List (List ℕ)) → spaced (words ++ others) ≡ spaced words ++ spaced others
spaced_append words others = flat_map-append (λ (w : List ℕ). codes " " ++ w) words others

-- an error in a first word and those after it, where others follow
pub joined_cut : {T E : Type 0} (old new first : List ℕ) (words others : List (List ℕ)) (result : Result T E) (e : E) → result ≡ Err e → IsCut old new (first ++ spaced words) → AddsText old new result (joined_words (first ∷ (words ++ others)))
joined_cut old new first words others result e is c =
    adds_same old new _ _ result (append_assoc first (spaced words) (spaced others) ∙ ap (λ t. first ++ t) (sym (spaced_append words others))) (adds_cut old new (first ++ spaced words) (spaced others) result e is c)

-- others after a first word and those after it
pub joined_then : {T E : Type 0} (old mid new first : List ℕ) (words others : List (List ℕ)) (result : Result T E) → mid ≡ old ++ (first ++ spaced words) → AddsText mid new result (spaced others) → AddsText old new result (joined_words (first ∷ (words ++ others)))
joined_then old mid new first words others result e a =
    adds_same old new _ _ result (append_assoc first (spaced words) (spaced others) ∙ ap (λ t. first ++ t) (sym (spaced_append words others))) (adds_then old mid new (first ++ spaced words) (spaced others) result e a)

-- an error in a first word after a space
pub first_cut : {T E : Type 0} (old new text first : List ℕ) (words : List Word) (result : Result T E) (e : E) → result ≡ Err e → text ≡ first → IsCut old new (codes " " ++ text) → AddsText old new result (spaced (first ∷ map word_text words))
first_cut old new text first words result e is same cut =
    adds_cut old new (codes " " ++ first) (spaced (map word_text words)) result e is (subst (λ t. IsCut old new (codes " " ++ t)) same cut)

-- words after a first word, each after a space
pub first_then : {T E : Type 0} (old mid new text first : List ℕ) (given words : List Word) (result : Result T E) → text ≡ first → given ≡ words → mid ≡ old ++ (codes " " ++ text) → AddsText mid new result (phrase_of given) → AddsText old new result (spaced (first ∷ map word_text words))
first_then old mid new text first given words result same these at a =
    adds_then old mid new (codes " " ++ first) (spaced (map word_text words)) result (at ∙ ap (λ t. old ++ (codes " " ++ t)) same)
    (adds_same mid new _ _ result (ap phrase_of these ∙ sym (flat_map-map (λ (w : List ℕ). codes " " ++ w) word_text words)) a)
