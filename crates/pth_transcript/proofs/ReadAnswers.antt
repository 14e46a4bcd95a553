-- What is read of an answer or of an act is one that words can spell.
use Rattle.std.proofs.Common.{◌≡◌, ◌<◌, ℕ, ℤ, List, [], ◌∷◌, codes, Option, Some, None, w64, FitsSigned, All, refl, sym, subst}
use Rattle.std.specs.Prelude.{IfSome, option_and_then, option_map}
use Rattle.std.specs.Str.{bytes_eq}
use Rattle.pth_base.specs.declared.act.Act.{Act}
use Rattle.pth_base.specs.declared.act.Act.TheVariants as act
use Rattle.pth_base.specs.declared.answer.Answer.{Answer}
use Rattle.pth_base.specs.declared.answer.Answer.TheVariants as answer
use Rattle.pth_base.specs.declared.errno.Errno.{Errno}
use Rattle.pth_text.specs.Number.{numeral_value}
use Rattle.pth_spelling.specs.WordMeanings.{name_of, set_of}
use Rattle.pth_transcript.specs.AnswerMeanings.{numbers_of, errno_of, refusal_of, message_of, sets_of, release_of, pair_of, calling_of, unanswered, note_of, set_act_of, silent_of, IsReadableActed}
use Rattle.pth_transcript.specs.Naturals.{natural_value, cell_value}
use Rattle.pth_transcript.specs.ReadableAnswers.{IsReadablePlainAnswer, IsReadableNameAnswer, IsReadableAct}
use Rattle.pth_transcript.specs.declared.act.Acted.{Acted}
use Rattle.pth_transcript.proofs.ReadValues.{mapped, chained, tested, natural_fits, cell_fits, number_fits, set_fits, name_fits}

-- ---- answers

-- a refusal
plain_error : (o : Option Errno) → IfSome (option_map (λ e. answer.Fail e) o) IsReadablePlainAnswer
plain_error (Some e) = tt
plain_error None = tt

pub plain_refusal : (w : List ℕ) → IfSome (refusal_of w) IsReadablePlainAnswer
unfolding refusal_of
plain_refusal w = plain_error (errno_of w)

name_error : (o : Option Errno) → IfSome (option_map (λ e. answer.Fail e) o) IsReadableNameAnswer
name_error (Some e) = tt
name_error None = tt

pub name_refusal : (w : List ℕ) → IfSome (refusal_of w) IsReadableNameAnswer
unfolding refusal_of
name_refusal w = name_error (errno_of w)

-- a number
pub number_readable : (w : List ℕ) → IfSome (option_map (λ n. answer.Int n) (numeral_value w)) IsReadablePlainAnswer
number_readable w = mapped IsReadablePlainAnswer (λ n. answer.Int n) (numeral_value w) (number_fits w) (λ n fits. fits)

-- a name
pub name_readable : (w : List ℕ) → IfSome (option_map (λ name. answer.Text name) (name_of w)) IsReadableNameAnswer
name_readable w = mapped IsReadableNameAnswer (λ name. answer.Text name) (name_of w) (name_fits w) (λ name whole. whole)

-- a message
pub message_readable : (id value : List ℕ) → IfSome (message_of id value) IsReadablePlainAnswer
unfolding message_of
message_readable id value =
    chained IsReadablePlainAnswer (λ n. option_map (λ v. answer.Msg (record { 0 = n }) v) (numeral_value value)) (natural_value id) (natural_fits id)
    (λ n small. mapped IsReadablePlainAnswer (λ v. answer.Msg (record { 0 = n }) v) (numeral_value value) (number_fits value) (λ v fits. (small, fits)))

-- a count and three sets
pub sets_readable : (count r w x : List ℕ) → IfSome (sets_of count r w x) IsReadablePlainAnswer
unfolding sets_of
sets_readable count r w x =
    chained IsReadablePlainAnswer (λ n. option_and_then (λ a. option_and_then (λ b. option_map (λ d. answer.Sets n a b d) (set_of x)) (set_of w)) (set_of r))
    (numeral_value count) (number_fits count)
    (λ n fits. chained IsReadablePlainAnswer (λ a. option_and_then (λ b. option_map (λ d. answer.Sets n a b d) (set_of x)) (set_of w)) (set_of r) (set_fits r)
    (λ a low_a. chained IsReadablePlainAnswer (λ b. option_map (λ d. answer.Sets n a b d) (set_of x)) (set_of w) (set_fits w)
    (λ b low_b. mapped IsReadablePlainAnswer (λ d. answer.Sets n a b d) (set_of x) (set_fits x) (λ d low_d. (fits, low_a, low_b, low_d)))))

-- bytes
pub bytes_readable : (o : Option (List ℕ)) (r : Option Answer) → r ≡ option_map (λ bytes. answer.Bytes bytes) o → IfSome o (λ bs. All (λ b. b < 256) bs)
    → IfSome r IsReadablePlainAnswer
bytes_readable o r is low =
    subst (λ r. IfSome r IsReadablePlainAnswer) (sym is) (mapped IsReadablePlainAnswer (λ bytes. answer.Bytes bytes) o low (λ bytes low. low))

-- ---- acts

-- with whatever answer that is no text
abbrev TakesAnswer : Act → Type 0
TakesAnswer x = (a : Answer) → IsReadablePlainAnswer a → IsReadableAct x a

release_readable : (word m : List ℕ) → IfSome (release_of word m) TakesAnswer
unfolding release_of
release_readable word m =
    tested TakesAnswer (bytes_eq word (codes "release")) (option_map (λ n. act.Release n) (numeral_value m)) None
    (λ test. mapped TakesAnswer (λ n. act.Release n) (numeral_value m) (number_fits m) (λ n fits a fine. (fits, fine))) tt

numbers_readable : (first second : List ℕ) (f : ℤ → ℤ → Act) → ((x y : ℤ) → FitsSigned w64 x → FitsSigned w64 y → TakesAnswer (f x y))
    → IfSome (numbers_of first second f) TakesAnswer
numbers_readable first second f both =
    chained TakesAnswer (λ x. option_map (λ y. f x y) (numeral_value second)) (numeral_value first) (number_fits first)
    (λ x fits_x. mapped TakesAnswer (λ y. f x y) (numeral_value second) (number_fits second) (λ y fits_y. both x y fits_x fits_y))

pair_readable : (word first second : List ℕ) → IfSome (pair_of word first second) TakesAnswer
unfolding pair_of
pair_readable word first second =
    tested TakesAnswer (bytes_eq word (codes "notify")) _ _
    (λ test. numbers_readable first second (λ c v. act.Notify c v) (λ c v fits_c fits_v a fine. (fits_c, fits_v, fine)))
    (tested TakesAnswer (bytes_eq word (codes "put")) _ _
    (λ test. numbers_readable first second (λ p v. act.Put p v) (λ p v fits_p fits_v a fine. (fits_p, fits_v, fine)))
    (tested TakesAnswer (bytes_eq word (codes "setkey")) _ _
    (λ test. numbers_readable first second (λ k v. act.SetKey k v) (λ k v fits_k fits_v a fine. (fits_k, fits_v, fine))) tt))

-- an act that makes a call
calling_readable : (ws : List (List ℕ)) → IfSome (calling_of ws) TakesAnswer
calling_readable [] = tt
calling_readable (word ∷ []) = tt
calling_readable (word ∷ m ∷ []) = release_readable word m
calling_readable (word ∷ first ∷ second ∷ []) = pair_readable word first second
calling_readable (word ∷ first ∷ second ∷ w ∷ ws) = tt

-- with its answer
pub acted_readable : (ws : List (List ℕ)) (x : Act) (o : Option Answer) (r : Option Acted) → Some x ≡ calling_of ws
    → r ≡ option_map (λ a. record { act = x; answer = a }) o → IfSome o IsReadablePlainAnswer → IfSome r IsReadableActed
acted_readable ws x o r called is fine =
    let takes : TakesAnswer x = subst (λ o. IfSome o TakesAnswer) (sym called) (calling_readable ws) in
    subst (λ r. IfSome r IsReadableActed) (sym is) (mapped IsReadableActed (λ a. record { act = x; answer = a }) o fine (λ a fine. takes a fine))

note_readable : (word v : List ℕ) → IfSome (note_of word v) IsReadableActed
unfolding note_of
note_readable word v =
    tested IsReadableActed (bytes_eq word (codes "note")) (option_map (λ n. unanswered (act.Note n)) (numeral_value v)) None
    (λ test. mapped IsReadableActed (λ n. unanswered (act.Note n)) (numeral_value v) (number_fits v) (λ n fits. (fits, refl))) tt

set_act_readable : (word v n : List ℕ) → IfSome (set_act_of word v n) IsReadableActed
unfolding set_act_of
set_act_readable word v n =
    tested IsReadableActed (bytes_eq word (codes "set"))
    (option_and_then (λ k. option_map (λ m. unanswered (act.Set k m)) (numeral_value n)) (cell_value v)) None
    (λ test. chained IsReadableActed (λ k. option_map (λ m. unanswered (act.Set k m)) (numeral_value n)) (cell_value v) (cell_fits v)
    (λ k low. mapped IsReadableActed (λ m. unanswered (act.Set k m)) (numeral_value n) (number_fits n) (λ m fits. (low, fits, refl)))) tt

-- an act that makes no call
pub silent_readable : (ws : List (List ℕ)) → IfSome (silent_of ws) IsReadableActed
silent_readable [] = tt
silent_readable (word ∷ []) = tt
silent_readable (word ∷ v ∷ []) = note_readable word v
silent_readable (word ∷ v ∷ n ∷ []) = set_act_readable word v n
silent_readable (word ∷ v ∷ n ∷ w ∷ ws) = tt
