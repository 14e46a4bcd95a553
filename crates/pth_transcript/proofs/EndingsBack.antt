-- The words of an ending are read as that ending.
use Rattle.std.proofs.Common.{◌≡◌, ◌∙◌, ◌+◌, add-one, ◌<◌, ◌^◌, ◌++◌, ℕ, Bool, true, false, List, [], ◌∷◌, map, length, get_or, take, drop, decimal, zero, suc, nat_lt, codes, Option, Some, None, All, refl, sym, ap, subst, arith}
use Rattle.std.specs.Prelude.{option_map, IsSomeAnd, IsTrue}
use Rattle.std.specs.Str.{bytes_eq}
use Rattle.std.proofs.lemmas.Bool.{false≢true}
use Rattle.std.proofs.lemmas.List.Elements.{All-cons, All-head, All-tail}
use denote.Ref.{Bor}
use Rattle.pth_base.specs.declared.ids.Tid.{Tid}
use Rattle.pth_text.specs.Bytes.{code}
use Rattle.pth_text.specs.LineWords.{words_of}
use Rattle.pth_text.proofs.Numbers.{written_number_is_read}
use Rattle.pth_spelling.specs.Texts.{texts}
use Rattle.pth_print.specs.SpacedWords.{joined_words}
use Rattle.pth_print.specs.WordTexts.{number_word, tid_word, cell}
use Rattle.pth_transcript.specs.MarkMeanings.{ending_of}
use Rattle.pth_transcript.specs.Naturals.{thread_value}
use Rattle.pth_transcript.specs.ReadableMarks.{IsReadableTid, IsReadableEnding, TellsSame, ending_words, IsEndingBack, IsEndingLineBack}
use Rattle.pth_transcript.specs.Transcript.{ending_line}
use Rattle.pth_print.specs.EndLines.{end_line}
use Rattle.pth_base.specs.declared.outcome.Outcome.TheVariants as outcome
use Rattle.pth_transcript.specs.declared.ending.Ending.{Ending}
use Rattle.pth_transcript.specs.declared.ending.Ending.TheVariants as ending
use Rattle.pth_transcript.proofs.LinesBack.{HasNoBlank, HaveNoBlank, AreWords, line_back, line_of_words}
use Rattle.pth_transcript.proofs.Cuts.{IsLine}
use Rattle.pth_transcript.proofs.NaturalsBack.{natural_back, thread_back}
use Rattle.pth_transcript.proofs.WordBytes.{no_blank, number_is_word, decimal_word}

-- a test does not both hold and fail
pub not_so : (b : Bool) → IsTrue b → b ≡ false → ⊥
not_so b holds fails = false≢true (sym fails ∙ holds)

-- ---- words without a space

-- a thread's word
pub tid_no_blank : (t : ℕ) → t < 2 ^ 32 → HasNoBlank (tid_word t)
tid_no_blank t low = All-cons (λ b. nat_lt (code " ") b ≡ true) (code "t") (decimal t) refl (no_blank (decimal t) (decimal_word t (omega (arith, low))))

-- the word of a shared value
pub cell_no_blank : (v : ℕ) → v < 2 ^ 32 → HasNoBlank (cell v)
cell_no_blank v low = All-cons (λ b. nat_lt (code " ") b ≡ true) (code "v") (decimal v) refl (no_blank (decimal v) (decimal_word v (omega (arith, low))))

-- words of threads
tids_no_blank : (ts : List Tid) → All IsReadableTid ts → HaveNoBlank (map tid_word (map (λ t. t.0) ts))
tids_no_blank [] low = tt
tids_no_blank (t ∷ ts) low = (tid_no_blank t.0 (All-head IsReadableTid t ts low), tids_no_blank ts (All-tail IsReadableTid t ts low))

-- the words of an ending
ending_no_blank : (e : Ending) → IsReadableEnding e → AreWords (ending_words e)
ending_no_blank (ending.Ended v) fits = record {
  first = codes "ended";
  others = number_word v ∷ [];
  are = refl;
  here = no_blank (codes "ended") refl;
  none = (no_blank (number_word v) (number_is_word v fits), tt);
}
ending_no_blank ending.Killed fine = record {
  first = codes "killed";
  others = [];
  are = refl;
  here = no_blank (codes "killed") refl;
  none = tt;
}
ending_no_blank (ending.Stalled live) low = record {
  first = codes "stalled";
  others = map tid_word (map (λ t. t.0) live.items);
  are = refl;
  here = no_blank (codes "stalled") refl;
  none = tids_no_blank live.items low;
}
ending_no_blank (ending.StepLimit n) small = record {
  first = codes "step";
  others = codes "limit" ∷ decimal n ∷ [];
  are = refl;
  here = no_blank (codes "step") refl;
  none = (no_blank (codes "limit") refl, (no_blank (decimal n) (decimal_word n small), tt));
}

-- the line of an ending is that of its words
ending_line_is : (e : Ending) → ending_line e ≡ joined_words (ending_words e) ++ codes "\n"
ending_line_is (ending.Ended v) = refl
ending_line_is ending.Killed = refl
ending_line_is (ending.Stalled live) = refl
ending_line_is (ending.StepLimit n) = refl

-- a line of an ending has its words
pub ending_line_back : (line : List ℕ) (e : Ending) → IsReadableEnding e → line ++ codes "\n" ≡ ending_line e → words_of line ≡ ending_words e
ending_line_back line e fine same = line_back line (ending_words e) (ending_no_blank e fine) (same ∙ ending_line_is e)

-- it has an LF at its end alone
pub ending_is_line : (e : Ending) → IsReadableEnding e → IsLine (ending_line e)
ending_is_line e fine = line_of_words (ending_line e) (ending_words e) (ending_no_blank e fine) (ending_line_is e)

-- ---- words that are read

-- what is found tells the same
found_same : (e x : Ending) (o : Option Ending) → o ≡ Some x → TellsSame e x → IsSomeAnd o (TellsSame e)
found_same e x o is same = subst (λ o. IsSomeAnd o (TellsSame e)) (sym is) same

-- the first word is that of a stall
abbrev pub begins_stalled : List (List ℕ) → Bool
begins_stalled [] = false
begins_stalled (w ∷ ws) = bytes_eq w (codes "stalled")

-- other words are read as an ending that is no stall
pub other_back : (ws : List (List ℕ)) → begins_stalled ws ≡ false → IsEndingBack ws (ending_of ws)
other_back ws other (ending.Ended v) fits e =
    found_same (ending.Ended v) (ending.Ended v) (ending_of ws)
    (ap ending_of e ∙ ap (option_map (λ v. ending.Ended v)) (written_number_is_read v fits)) refl
other_back ws other ending.Killed fine e = found_same ending.Killed ending.Killed (ending_of ws) (ap ending_of e) tt
other_back ws other (ending.Stalled live) low e = absurd (let holds : begins_stalled ws ≡ true = ap begins_stalled e in cc)
other_back ws other (ending.StepLimit n) small e =
    found_same (ending.StepLimit n) (ending.StepLimit n) (ending_of ws)
    (ap ending_of e ∙ ap (option_map (λ n. ending.StepLimit n)) (natural_back n small)) refl

-- there is a first word
abbrev pub has_words : List (List ℕ) → Bool
has_words [] = false
has_words (w ∷ ws) = true

-- ---- stalls

-- the thread of a word, and the threads up to it
pub record IsNext (w : List ℕ) (i : ℕ) (ts : List Tid) : Type 0 where
  pub thread : Tid
  pub read : thread_value w ≡ Some thread
  pub next : take (suc i) ts ≡ take i ts ++ thread ∷ []

pub next_thread : (ws : List (Bor (List ℕ))) (ts : List Tid) (i : ℕ) (d : Bor (List ℕ)) → i < length ws → All IsReadableTid ts
    → texts ws ≡ map tid_word (map (λ t. t.0) ts) → IsNext (get_or ws i d).now i ts
next_thread [] ts i d less low e = absurd (omega arith)
next_thread (w ∷ ws) [] i d less low e = absurd (false≢true (ap has_words (sym e)))
next_thread (w ∷ ws) (t ∷ ts) zero d less low e =
    let same : w.now ≡ tid_word t.0 = ap (λ (us : List (List ℕ)). get_or us 0 []) e in
    record { thread = t; read = ap thread_value same ∙ thread_back t.0 (All-head IsReadableTid t ts low); next = refl }
next_thread (w ∷ ws) (t ∷ ts) (suc i) d less low e =
    let later = next_thread ws ts i d (omega arith) (All-tail IsReadableTid t ts low) (ap (drop 1) e) in
    record { thread = later.thread; read = later.read; next = ap (λ us. t ∷ us) later.next }

-- ---- the ending that is found is printed so

-- endings that tell the same have the same line
same_line : (e x : Ending) → TellsSame e x → ending_line e ≡ ending_line x
same_line (ending.Ended v) (ending.Ended w) same = ap (λ v. end_line (outcome.Ended v) 0 []) same
same_line (ending.Ended v) ending.Killed same = absurd same
same_line (ending.Ended v) (ending.Stalled live) same = absurd same
same_line (ending.Ended v) (ending.StepLimit n) same = absurd same
same_line ending.Killed ending.Killed same = refl
same_line ending.Killed (ending.Ended v) same = absurd same
same_line ending.Killed (ending.Stalled live) same = absurd same
same_line ending.Killed (ending.StepLimit n) same = absurd same
same_line (ending.Stalled live) (ending.Stalled others) same = ap (λ ts. end_line outcome.Stalled 0 (map (λ t. t.0) ts)) same
same_line (ending.Stalled live) (ending.Ended v) same = absurd same
same_line (ending.Stalled live) ending.Killed same = absurd same
same_line (ending.Stalled live) (ending.StepLimit n) same = absurd same
same_line (ending.StepLimit n) (ending.StepLimit k) same = ap (λ n. end_line outcome.Running n []) same
same_line (ending.StepLimit n) (ending.Ended v) same = absurd same
same_line (ending.StepLimit n) ending.Killed same = absurd same
same_line (ending.StepLimit n) (ending.Stalled live) same = absurd same

-- what was found of the words is what the line tells
pub line_ending : (line : List ℕ) (found : Option Ending) → IsEndingBack (words_of line) found → IsEndingLineBack line found
line_ending line found back e fine same = back e fine (ending_line_back line e fine same)

-- what is not printed so is not what the line tells
pub ending_refused : (line : List ℕ) (x : Ending) (b : Bool) → IsEndingLineBack line (Some x) → (line ++ codes "\n" ≡ ending_line x → IsTrue b) → b ≡ false
    → IsEndingLineBack line None
ending_refused line x b back printed fails e fine same = absurd (not_so b (printed (same ∙ same_line e x (back e fine same))) fails)

-- ---- the loop over the words of threads

-- a word of a thread is read
pub no_tid : (t : Tid) (o : Option Tid) → None ≡ o → o ≡ Some t → ⊥
no_tid t o none some = (cc)

-- the thread that is read is the one that is printed
pub same_tid : (x t : Tid) (o : Option Tid) → Some x ≡ o → o ≡ Some t → x ≡ t
same_tid x t o found read = (cc)

-- one thread more
pub one_more : (ts : List Tid) (i : ℕ) (old new : List Tid) (t x : Tid) → x ≡ t → old ≡ take i ts → new ≡ old ++ x ∷ []
    → take (suc i) ts ≡ take i ts ++ t ∷ [] → new ≡ take (i + 1) ts
one_more ts i old new t x same before added next =
    let step : take (i + 1) ts ≡ take i ts ++ t ∷ [] = ap (λ (n : ℕ). take n ts) (add-one i) ∙ next in
    added ∙ ap (λ x. old ++ x ∷ []) same ∙ ap (λ ts. ts ++ t ∷ []) before ∙ sym step
