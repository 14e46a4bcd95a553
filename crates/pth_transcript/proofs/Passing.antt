-- Words are those of a reply or a write, or not: by how many there are, and by the first.
use Rattle.std.proofs.Common.{◌≡◌, ◌<◌, ◌≤◌, ℕ, Bool, true, false, List, [], ◌∷◌, length, get_or, codes, Option, Some, Result, Ok, Err, refl, sym, ap, subst, arith, ◌∙◌}
use Rattle.std.specs.Prelude.{IfOk}
use Rattle.std.specs.Str.{bytes_eq}
use Rattle.std.proofs.lemmas.Slice.Eq.{bytes_eq-Decides}
use denote.Ref.{Bor}
use Rattle.pth_base.specs.declared.call.Call.{Call}
use Rattle.pth_spelling.specs.Texts.{texts}
use Rattle.pth_print.specs.CallWords.{call_words}
use Rattle.pth_transcript.specs.ReadBack.{IsScripted, IsReadBack}
use Rattle.pth_transcript.proofs.CallsBack.{back}
use Rattle.pth_transcript.proofs.Scripted.{is_own, IsRead, Scripted, Replied, Written, WrittenEv}

-- ---- words of a reply or a write

-- three words, of which the first is this one
pub three_words : (ws : List (Bor (List ℕ))) (d : Bor (List ℕ)) (name word : List ℕ) (test : Bool) → 3 ≤ length ws → length ws < 4
    → test ≡ bytes_eq (get_or ws 0 d).now name → name ≡ word → test ≡ true → texts ws ≡ word ∷ (get_or ws 1 d).now ∷ (get_or ws 2 d).now ∷ []
three_words (w ∷ a ∷ b ∷ []) d name word test some few is same holds =
    ap (λ x. x ∷ a.now ∷ b.now ∷ []) ((bytes_eq-Decides w.now name).0 (sym is ∙ holds) ∙ same)
three_words ws d name word test some few is same holds = absurd (omega arith)

-- four words, of which the first is this one
pub four_words : (ws : List (Bor (List ℕ))) (d : Bor (List ℕ)) (name word : List ℕ) (test : Bool) → 4 ≤ length ws → length ws < 5
    → test ≡ bytes_eq (get_or ws 0 d).now name → name ≡ word → test ≡ true
    → texts ws ≡ word ∷ (get_or ws 1 d).now ∷ (get_or ws 2 d).now ∷ (get_or ws 3 d).now ∷ []
four_words (w ∷ a ∷ b ∷ e ∷ []) d name word test some few is same holds =
    ap (λ x. x ∷ a.now ∷ b.now ∷ e.now ∷ []) ((bytes_eq-Decides w.now name).0 (sym is ∙ holds) ∙ same)
four_words ws d name word test some few is same holds = absurd (omega arith)

-- what is found by words is found by the same words
pub passed_on : {E : Type 0} (r : Result (Option Call) E) (words same : List (List ℕ)) → words ≡ same → IfOk r (λ found. IsReadBack same found)
    → IfOk r (λ found. IsReadBack words found)
passed_on r words same e h = subst (λ ws. IfOk r (λ found. IsReadBack ws found)) (sym e) h

-- ---- other words

-- fewer than three words
pub few_words : (ws : List (Bor (List ℕ))) → length ws < 3 → is_own (texts ws) ≡ false
few_words [] few = refl
few_words (w ∷ []) few = refl
few_words (w ∷ a ∷ []) few = refl
few_words ws few = absurd (omega arith)

-- more than four words
pub many_words : (ws : List (Bor (List ℕ))) → 5 ≤ length ws → is_own (texts ws) ≡ false
many_words (w ∷ a ∷ b ∷ e ∷ f ∷ ws) many = refl
many_words ws many = absurd (omega arith)

-- the word is another
another : (w name word : List ℕ) (test : Bool) → test ≡ bytes_eq w name → name ≡ word → test ≡ false → bytes_eq w word ≡ false
another w name word test is same fails = ap (bytes_eq w) (sym same) ∙ sym is ∙ fails

-- three words, of which the first is neither that of a reply nor that of a write
pub three_others : (ws : List (Bor (List ℕ))) (d : Bor (List ℕ)) (name other : List ℕ) (test check : Bool) → 3 ≤ length ws → length ws < 4
    → test ≡ bytes_eq (get_or ws 0 d).now name → name ≡ codes "reply" → test ≡ false
    → check ≡ bytes_eq (get_or ws 0 d).now other → other ≡ codes "write" → check ≡ false → is_own (texts ws) ≡ false
three_others (w ∷ a ∷ b ∷ []) d name other test check some few is same fails then equal misses =
    rw (another w.now name (codes "reply") test is same fails) (another w.now other (codes "write") check then equal misses)
three_others ws d name other test check some few is same fails then equal misses = absurd (omega arith)

-- four words, of which the first is not that of a write that an event may end
pub four_others : (ws : List (Bor (List ℕ))) (d : Bor (List ℕ)) (name : List ℕ) (test : Bool) → 4 ≤ length ws → length ws < 5
    → test ≡ bytes_eq (get_or ws 0 d).now name → name ≡ codes "write_ev" → test ≡ false → is_own (texts ws) ≡ false
four_others (w ∷ a ∷ b ∷ e ∷ []) d name test some few is same fails = another w.now name (codes "write_ev") test is same fails
four_others ws d name test some few is same fails = absurd (omega arith)

-- such words are not those of a reply or a write
not_own : (ws : List (List ℕ)) (c d : Call) → is_own ws ≡ false → ws ≡ call_words c → c ≡ d → is_own (call_words d) ≡ true → ⊥
not_own ws c d other e is own = let whole : is_own ws ≡ true = ap is_own (e ∙ ap call_words is) ∙ own in cc

-- by how the call is read
scripted_by : (ws : List (List ℕ)) (c : Call) → is_own ws ≡ false → ws ≡ call_words c → IsRead c → IsScripted ws c
scripted_by ws c other e (Scripted own s) = subst (λ words. IsScripted words c) (sym e) s
scripted_by ws c other e (Replied m v small low is) = absurd (not_own ws c _ other e is refl)
scripted_by ws c other e (Written f bytes small low is) = absurd (not_own ws c _ other e is refl)
scripted_by ws c other e (WrittenEv f bytes g small low few is) = absurd (not_own ws c _ other e is refl)

-- words that are not those of a reply or a write are read as a line of a script
pub script_passed : {E : Type 0} (r : Result (Option Call) E) (ws : List (List ℕ)) → is_own ws ≡ false
    → IfOk r (λ found. (c : Call) → IsScripted ws c → found ≡ Some c) → IfOk r (λ found. IsReadBack ws found)
script_passed (Ok found) ws other h = λ c fine e. h c (scripted_by ws c other e (back c fine))
script_passed (Err e) ws other h = tt
