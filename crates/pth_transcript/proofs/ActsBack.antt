-- What is printed of an act, and of the answer to a call, is read back.
use Rattle.std.proofs.Common.{◌≡◌, ◌∙◌, ◌<◌, ◌^◌, ℕ, ℤ, Bool, true, false, List, [], ◌∷◌, ◌++◌, codes, Option, Some, None, Result, Ok, Err, w64, FitsSigned, refl, sym, ap, subst}
use Rattle.std.specs.Prelude.{option_map, IfOk}
use Rattle.pth_base.specs.declared.act.Act.{Act}
use Rattle.pth_base.specs.declared.act.Act.TheVariants as act
use Rattle.pth_base.specs.declared.answer.Answer.{Answer}
use Rattle.pth_base.specs.declared.answer.Answer.TheVariants as answer
use Rattle.pth_base.specs.declared.call.Call.{Call}
use Rattle.pth_text.proofs.Numbers.{written_number_is_read}
use Rattle.pth_print.specs.AnswerWords.{answer_words}
use Rattle.pth_print.specs.MarkLines.{acted_words}
use Rattle.pth_print.specs.WordTexts.{number_word, cell}
use Rattle.pth_transcript.specs.AnswerMeanings.{numbers_of, release_of, pair_of, calling_of, unanswered, note_of, set_act_of, silent_of, IsPlainAnswerBack, IsNameAnswerBack, IsAnswerBack, IsActedBack}
use Rattle.pth_transcript.specs.Parted.{is_equals, parted}
use Rattle.pth_transcript.specs.ReadableAnswers.{asks_name, IsReadablePlainAnswer, IsReadableBehind, IsReadableAct}
use Rattle.pth_transcript.specs.declared.act.Acted.{Acted}
use Rattle.pth_transcript.proofs.NaturalsBack.{cell_back}
use Rattle.pth_transcript.proofs.Partings.{HasNoEquals, parted_behind, not_parted, same_pair, no_pair}
use Rattle.pth_transcript.proofs.WordBytes.{other_than_equals, number_is_word}

-- ---- acts that make a call

-- two numbers
numbers_back : {A : Type 0} (f : ℤ → ℤ → A) (x y : ℤ) → FitsSigned w64 x → FitsSigned w64 y → numbers_of (number_word x) (number_word y) f ≡ Some (f x y)
numbers_back f x y fits few = rw (written_number_is_read x fits) (rw (written_number_is_read y few) refl)

-- a mutex that is released
release_back : (m : ℤ) → FitsSigned w64 m → release_of (codes "release") (number_word m) ≡ Some (act.Release m)
unfolding release_of
release_back m fits = ap (option_map (λ n. act.Release n)) (written_number_is_read m fits)

-- a condition that is notified
notify_back : (c v : ℤ) → FitsSigned w64 c → FitsSigned w64 v → pair_of (codes "notify") (number_word c) (number_word v) ≡ Some (act.Notify c v)
unfolding pair_of
notify_back c v fits few = numbers_back (λ c v. act.Notify c v) c v fits few

-- a message that is put
put_back : (p v : ℤ) → FitsSigned w64 p → FitsSigned w64 v → pair_of (codes "put") (number_word p) (number_word v) ≡ Some (act.Put p v)
unfolding pair_of
put_back p v fits few = numbers_back (λ p v. act.Put p v) p v fits few

-- a key's value that is set
setkey_back : (k v : ℤ) → FitsSigned w64 k → FitsSigned w64 v → pair_of (codes "setkey") (number_word k) (number_word v) ≡ Some (act.SetKey k v)
unfolding pair_of
setkey_back k v fits few = numbers_back (λ k v. act.SetKey k v) k v fits few

-- ---- acts that make no call

-- a note
note_back : (v : ℤ) → FitsSigned w64 v → note_of (codes "note") (number_word v) ≡ Some (unanswered (act.Note v))
unfolding note_of
note_back v fits = ap (option_map (λ n. unanswered (act.Note n))) (written_number_is_read v fits)

-- a shared value that is set
set_act_back : (v : ℕ) (n : ℤ) → v < 2 ^ 32 → FitsSigned w64 n → set_act_of (codes "set") (cell v) (number_word n) ≡ Some (unanswered (act.Set v n))
unfolding set_act_of
set_act_back v n low fits = rw (cell_back v low) (rw (written_number_is_read n fits) refl)

-- ---- acts

-- a number is not `=`
number_apart : (n : ℤ) → FitsSigned w64 n → is_equals (number_word n) ≡ false
number_apart n fits = other_than_equals (number_word n) (number_is_word n fits)

-- nor is a shared value
cell_apart : (v : ℕ) → v < 2 ^ 32 → is_equals (cell v) ≡ false
cell_apart v low = refl

-- how the words of an act are read: up to `=` and behind it, or as a whole
pub data IsActed (x : Act) (a : Answer) : Type 0 where
  Calls : (front : List (List ℕ)) → acted_words x a ≡ front ++ codes "=" ∷ answer_words a → HasNoEquals front → calling_of front ≡ Some x
      → IsReadablePlainAnswer a → IsActed x a
  Silent : HasNoEquals (acted_words x a) → silent_of (acted_words x a) ≡ Some (record { act = x; answer = a }) → IsActed x a

-- an act that makes no call has no answer
no_answer : (x : Act) (a : Answer) (o : Option Acted) → o ≡ Some (unanswered x) → a ≡ answer.None → o ≡ Some (record { act = x; answer = a })
no_answer x a o e none = e ∙ ap (λ (b : Answer). Some (record { act = x; answer = b })) (sym none)

-- each act
pub acted_back : (x : Act) (a : Answer) → IsReadableAct x a → IsActed x a
acted_back (act.Note v) a fine =
    Silent (refl, (number_apart v fine.0, tt)) (no_answer (act.Note v) a _ (note_back v fine.0) fine.1)
acted_back (act.Set v n) a fine =
    Silent (refl, (cell_apart v fine.0, (number_apart n fine.1, tt))) (no_answer (act.Set v n) a _ (set_act_back v n fine.0 fine.1) fine.2)
acted_back (act.Release m) a fine =
    Calls (codes "release" ∷ number_word m ∷ []) refl (refl, (number_apart m fine.0, tt)) (release_back m fine.0) fine.1
acted_back (act.Notify c v) a fine =
    Calls (codes "notify" ∷ number_word c ∷ number_word v ∷ []) refl (refl, (number_apart c fine.0, (number_apart v fine.1, tt)))
    (notify_back c v fine.0 fine.1) fine.2
acted_back (act.Put p v) a fine =
    Calls (codes "put" ∷ number_word p ∷ number_word v ∷ []) refl (refl, (number_apart p fine.0, (number_apart v fine.1, tt)))
    (put_back p v fine.0 fine.1) fine.2
acted_back (act.SetKey k v) a fine =
    Calls (codes "setkey" ∷ number_word k ∷ number_word v ∷ []) refl (refl, (number_apart k fine.0, (number_apart v fine.1, tt)))
    (setkey_back k v fine.0 fine.1) fine.2

-- ---- what is found

-- the words are parted at `=`
pub acted_apart : (front behind ws : List (List ℕ)) (x : Act) (a : Answer) → IsActed x a → Some (front, behind) ≡ parted ws → ws ≡ acted_words x a
    → (calling_of front ≡ Some x) × IsReadablePlainAnswer a × (behind ≡ answer_words a)
acted_apart front behind ws x a (Calls before is none made fine) found e =
    let same = same_pair (front, behind) (before, answer_words a) (found ∙ ap parted (e ∙ is) ∙ parted_behind before (answer_words a) none) in
    let first : front ≡ before = ap (λ (p : List (List ℕ) × List (List ℕ)). p.0) same in
    let second : behind ≡ answer_words a = ap (λ (p : List (List ℕ) × List (List ℕ)). p.1) same in
    (ap calling_of first ∙ made, fine, second)
acted_apart front behind ws x a (Silent none made) found e =
    absurd (no_pair (front, behind) (sym (found ∙ ap parted e ∙ not_parted (acted_words x a) none)))

-- no word is `=`
pub acted_whole : (ws : List (List ℕ)) (x : Act) (a : Answer) → IsActed x a → None ≡ parted ws → ws ≡ acted_words x a
    → silent_of ws ≡ Some (record { act = x; answer = a })
acted_whole ws x a (Calls before is none made fine) found e =
    absurd (no_pair (before, answer_words a) (found ∙ ap parted (e ∙ is) ∙ parted_behind before (answer_words a) none))
acted_whole ws x a (Silent none made) found e = ap silent_of e ∙ made

-- ---- calls that ask for a name

-- the answer to a call that asks for no name
pub plain_passed : {E : Type 0} (r : Result (Option Answer) E) (c : Call) (words : List (List ℕ)) → asks_name c ≡ false
    → IfOk r (λ found. IsPlainAnswerBack words found) → IfOk r (λ found. IsAnswerBack c words found)
plain_passed r c words fails h =
    subst (λ (b : Bool). IfOk r (λ found. (a : Answer) → IsReadableBehind b a → words ≡ answer_words a → found ≡ Some a)) (sym fails) h

-- the answer to a call that asks for a name
pub name_passed : (found : Option Answer) (c : Call) (words : List (List ℕ)) → asks_name c ≡ true → IsNameAnswerBack words found
    → IsAnswerBack c words found
name_passed found c words holds h =
    subst (λ (b : Bool). (a : Answer) → IsReadableBehind b a → words ≡ answer_words a → found ≡ Some a) (sym holds) h

-- an act that makes a call
pub acted_passed : {E : Type 0} (r : Result (Option Acted) E) (front behind ws : List (List ℕ)) → Some (front, behind) ≡ parted ws
    → IfOk r (λ found. (x : Act) (a : Answer) → calling_of front ≡ Some x → IsReadablePlainAnswer a → behind ≡ answer_words a
    → found ≡ Some (record { act = x; answer = a }))
    → IfOk r (λ found. IsActedBack ws found)
acted_passed (Ok found) front behind ws cut h = λ x a fine e.
    let s = acted_apart front behind ws x a (acted_back x a fine) cut e in
    h x a s.0 s.1 s.2
acted_passed (Err e) front behind ws cut h = tt
