-- What the words of answers and acts stand for.
use Rattle.std.specs.Prelude.{◌≡◌, ℕ, ℤ, List, [], ◌∷◌, Option, Some, None, codes, if◌then◌else◌, option_and_then, option_map}
use Rattle.std.specs.Str.{bytes_eq}
use Rattle.pth_base.specs.declared.act.Act.{Act}
use Rattle.pth_base.specs.declared.act.Act.TheVariants as act
use Rattle.pth_base.specs.declared.answer.Answer.{Answer}
use Rattle.pth_base.specs.declared.answer.Answer.TheVariants as answer
use Rattle.pth_base.specs.declared.call.Call.{Call}
use Rattle.pth_base.specs.declared.errno.Errno.{Errno}
use Rattle.pth_base.specs.declared.errno.Errno.TheVariants.{EPERM, ENOENT, ESRCH, EINTR, EIO, EBADF, EAGAIN, EACCES, EBUSY, EEXIST, EINVAL, EDEADLK, ECONNREFUSED}
use Rattle.pth_text.specs.Number.{numeral_value}
use Rattle.pth_spelling.specs.Named.{named_in}
use Rattle.pth_spelling.specs.WordMeanings.{set_of}
use Rattle.pth_print.specs.AnswerWords.{answer_words}
use Rattle.pth_print.specs.MarkLines.{acted_words}
use Rattle.pth_transcript.specs.Naturals.{natural_value, cell_value}
use Rattle.pth_transcript.specs.ReadableAnswers.{IsReadablePlainAnswer, IsReadableNameAnswer, IsReadableAnswer, IsReadableAct}
use Rattle.pth_transcript.specs.declared.act.Acted.{Acted}

-- ---- errors

abbrev pub errno_words : List (List ℕ × Errno)
errno_words =
    (codes "EPERM", EPERM)
    ∷ (codes "ENOENT", ENOENT)
    ∷ (codes "ESRCH", ESRCH)
    ∷ (codes "EINTR", EINTR)
    ∷ (codes "EIO", EIO)
    ∷ (codes "EBADF", EBADF)
    ∷ (codes "EAGAIN", EAGAIN)
    ∷ (codes "EACCES", EACCES)
    ∷ (codes "EBUSY", EBUSY)
    ∷ (codes "EEXIST", EEXIST)
    ∷ (codes "EINVAL", EINVAL)
    ∷ (codes "EDEADLK", EDEADLK)
    ∷ (codes "ECONNREFUSED", ECONNREFUSED)
    ∷ []

-- the error of a name
unfoldable pub errno_of : List ℕ → Option Errno
errno_of w = named_in errno_words w

-- the refusal by the error of a name
unfoldable pub refusal_of : List ℕ → Option Answer
refusal_of w = option_map (λ e. answer.Fail e) (errno_of w)

-- ---- answers of more words

-- a message's number and its value
unfoldable pub message_of : (id value : List ℕ) → Option Answer
message_of id value = option_and_then (λ n. option_map (λ v. answer.Msg (record { 0 = n }) v) (numeral_value value)) (natural_value id)

-- a count and three sets
unfoldable pub sets_of : (count r w x : List ℕ) → Option Answer
sets_of count r w x =
    option_and_then (λ n. option_and_then (λ a. option_and_then (λ b. option_map (λ d. answer.Sets n a b d) (set_of x)) (set_of w)) (set_of r))
    (numeral_value count)

-- ---- acts

-- two numbers
abbrev pub numbers_of : {A : Type 0} → (first second : List ℕ) → (ℤ → ℤ → A) → Option A
numbers_of first second f = option_and_then (λ x. option_map (λ y. f x y) (numeral_value second)) (numeral_value first)

-- an act of one operand that makes a call
unfoldable pub release_of : (word m : List ℕ) → Option Act
release_of word m = if bytes_eq word (codes "release") then option_map (λ n. act.Release n) (numeral_value m) else None

-- an act of two operands that makes a call
unfoldable pub pair_of : (word first second : List ℕ) → Option Act
pair_of word first second =
    if bytes_eq word (codes "notify") then numbers_of first second (λ c v. act.Notify c v)
    else (if bytes_eq word (codes "put") then numbers_of first second (λ p v. act.Put p v)
    else (if bytes_eq word (codes "setkey") then numbers_of first second (λ k v. act.SetKey k v)
    else None))

-- an act that makes a call
abbrev pub calling_of : List (List ℕ) → Option Act
calling_of (word ∷ m ∷ []) = release_of word m
calling_of (word ∷ first ∷ second ∷ []) = pair_of word first second
calling_of _ = None

-- an act that makes no call, with its answer
abbrev pub unanswered : Act → Acted
unanswered x = record { act = x; answer = answer.None }

-- a note
unfoldable pub note_of : (word v : List ℕ) → Option Acted
note_of word v = if bytes_eq word (codes "note") then option_map (λ n. unanswered (act.Note n)) (numeral_value v) else None

-- a shared value that is set
unfoldable pub set_act_of : (word v n : List ℕ) → Option Acted
set_act_of word v n =
    if bytes_eq word (codes "set") then option_and_then (λ k. option_map (λ m. unanswered (act.Set k m)) (numeral_value n)) (cell_value v)
    else None

-- an act that makes no call
abbrev pub silent_of : List (List ℕ) → Option Acted
silent_of (word ∷ v ∷ []) = note_of word v
silent_of (word ∷ v ∷ n ∷ []) = set_act_of word v n
silent_of _ = None

-- ---- what is found is what is printed

-- the answer, which is no text, of which the words are printed
abbrev pub IsPlainAnswerBack : List (List ℕ) → Option Answer → Type 0
IsPlainAnswerBack words found = (a : Answer) → IsReadablePlainAnswer a → words ≡ answer_words a → found ≡ Some a

-- the answer to who asks for a name
abbrev pub IsNameAnswerBack : List (List ℕ) → Option Answer → Type 0
IsNameAnswerBack words found = (a : Answer) → IsReadableNameAnswer a → words ≡ answer_words a → found ≡ Some a

-- the answer to the call
abbrev pub IsAnswerBack : Call → List (List ℕ) → Option Answer → Type 0
IsAnswerBack c words found = (a : Answer) → IsReadableAnswer c a → words ≡ answer_words a → found ≡ Some a

-- the act and its answer of which the words are printed
abbrev pub IsActedBack : List (List ℕ) → Option Acted → Type 0
IsActedBack words found = (x : Act) (a : Answer) → IsReadableAct x a → words ≡ acted_words x a → found ≡ Some (record { act = x; answer = a })

-- an act that is read back with its answer
abbrev pub IsReadableActed : Acted → Type 0
IsReadableActed acted = IsReadableAct acted.act acted.answer
