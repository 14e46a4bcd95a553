-- What is printed of an answer is read back.
use Rattle.std.proofs.Common.{◌≡◌, ◌∙◌, ◌<◌, ◌≤◌, ◌^◌, ◌==◌, ℕ, ℤ, pos, negsuc, true, false, List, [], ◌∷◌, length, get_or, decimal, codes, Option, Some, None, Result, Ok, Err, w64, FitsSigned, All, refl, sym, ap, arith}
use Rattle.std.specs.Prelude.{option_map, slice_index, nat_le, ◌&&◌, IfOk}
use Rattle.std.specs.Int.{IsInRange}
use Rattle.std.specs.List.{list_all}
use Rattle.std.specs.Str.Parse.{IsNumeral}
use Rattle.std.proofs.lemmas.Bool.{and_parts}
use Rattle.std.proofs.lemmas.Bool.Decides.{nat_tests}
use Rattle.std.proofs.lemmas.Fmt.{decimal_is_IsNumeral}
use Rattle.std.proofs.lemmas.Str.Parse.{digit_from_value}
use denote.Ref.{Bor}
use Rattle.pth_base.specs.declared.answer.Answer.{Answer}
use Rattle.pth_base.specs.declared.answer.Answer.TheVariants as answer
use Rattle.pth_base.specs.declared.errno.Errno.{Errno}
use Rattle.pth_base.specs.declared.errno.Errno.TheVariants.{EPERM}
use Rattle.pth_base.specs.declared.ids.FdSet.{FdSet}
use Rattle.pth_text.specs.Bytes.{code}
use Rattle.pth_text.specs.Number.{numeral_value}
use Rattle.pth_text.proofs.Numbers.{written_number_is_read}
use Rattle.pth_spelling.specs.Named.{named_in}
use Rattle.pth_spelling.specs.Texts.{texts}
use Rattle.pth_spelling.specs.WordMeanings.{is_name, is_name_byte, name_of}
use Rattle.pth_print.specs.AnswerWords.{answer_words, errno_word}
use Rattle.pth_print.specs.Sets.{set_word}
use Rattle.pth_print.specs.WordTexts.{hex_word, number_word}
use Rattle.pth_transcript.specs.AnswerMeanings.{errno_of, refusal_of, message_of, sets_of, IsPlainAnswerBack, IsNameAnswerBack}
use Rattle.pth_transcript.specs.ReadableAnswers.{IsReadablePlainAnswer, IsReadableNameAnswer}
use Rattle.pth_transcript.proofs.Counted.{one_text, four_texts, five_texts}
use Rattle.pth_transcript.proofs.NaturalsBack.{natural_back}
use Rattle.pth_transcript.proofs.SetsBack.{set_back}
use Rattle.pth_transcript.proofs.WordBytes.{name_is_name}

-- ---- words

-- an error
errno_back : (e : Errno) → errno_of (errno_word e) ≡ Some e
unfolding errno_of named_in
errno_back EPERM = refl
errno_back e = refl

-- a refusal
pub refusal_back : (e : Errno) → refusal_of (errno_word e) ≡ Some (answer.Fail e)
unfolding refusal_of
refusal_back e = ap (option_map (λ e. answer.Fail e)) (errno_back e)

-- a message
pub message_back : (id : ℕ) (value : ℤ) → id < 2 ^ 64 → FitsSigned w64 value
    → message_of (decimal id) (number_word value) ≡ Some (answer.Msg (record { 0 = id }) value)
unfolding message_of
message_back id value low fits = rw (natural_back id low) (rw (written_number_is_read value fits) refl)

-- a count and three sets
pub count_and_sets_back : (count : ℤ) (r w x : FdSet) → FitsSigned w64 count → r.0 < 2 ^ 64 → w.0 < 2 ^ 64 → x.0 < 2 ^ 64
    → sets_of (number_word count) (set_word r.0) (set_word w.0) (set_word x.0) ≡ Some (answer.Sets count r w x)
unfolding sets_of
count_and_sets_back count r w x fits low_r low_w low_x =
    rw (written_number_is_read count fits) (rw (set_back r.0 low_r) (rw (set_back w.0 low_w) (rw (set_back x.0 low_x) refl)))

-- ---- first bytes

-- the first byte of an error's name
errno_first : (e : Errno) → slice_index (errno_word e) 0 ≡ code "E"
errno_first EPERM = refl
errno_first e = refl

-- the first digit
digits_first : (ds : List ℕ) → IsNumeral 10 ds → slice_index ds 0 ≤ code "9"
digits_first [] digits = absurd (omega (arith, digits.0))
digits_first (c ∷ cs) digits = let range : IsInRange (code "0") (code "9") c = digit_from_value c digits.1.0 in omega (arith, range)

-- a number's first byte
number_first : (n : ℤ) → FitsSigned w64 n → slice_index (number_word n) 0 ≤ code "9"
number_first (pos n) fits = let small : n < 2 ^ 63 = fits.sfits in digits_first (decimal n) (decimal_is_IsNumeral n (omega arith)).0
number_first (negsuc n) fits = omega arith

-- ---- answers of one word

-- a word that is printed of an answer
pub data IsOneWord (w : List ℕ) (a : Answer) : Type 0 where
  Nothing : w ≡ codes "none" → a ≡ answer.None → IsOneWord w a
  Number : (n : ℤ) → FitsSigned w64 n → w ≡ number_word n → a ≡ answer.Int n → IsOneWord w a
  Spelled : (bs : List ℕ) → All (λ b. b < 256) bs → w ≡ hex_word bs → a ≡ answer.Bytes bs → IsOneWord w a
  Refused : (e : Errno) → w ≡ errno_word e → a ≡ answer.Fail e → IsOneWord w a

-- which answer the word is printed of
pub one_word_is : (w : List ℕ) (a : Answer) → IsReadablePlainAnswer a → w ∷ [] ≡ answer_words a → IsOneWord w a
one_word_is w answer.None fine e = Nothing (cc) refl
one_word_is w (answer.Int n) fits e = Number n fits (cc) refl
one_word_is w (answer.Bytes bytes) low e = Spelled bytes low (cc) refl
one_word_is w (answer.Sets count r x y) fine e = absurd (cc)
one_word_is w (answer.Text name) fine e = absurd fine
one_word_is w (answer.Msg id value) fine e = absurd (cc)
one_word_is w (answer.Fail f) fine e = Refused f (cc) refl

-- a word that begins with `E`
pub refusal_read : (w : List ℕ) (a : Answer) → IsOneWord w a → slice_index w 0 ≡ code "E" → refusal_of w ≡ Some a
refusal_read w a (Nothing is same) first = let begins : slice_index w 0 ≡ code "n" = ap (λ x. slice_index x 0) is in absurd (omega arith)
refusal_read w a (Number n fits is same) first =
    let begins : slice_index w 0 ≡ slice_index (number_word n) 0 = ap (λ x. slice_index x 0) is in
    let low = number_first n fits in
    absurd (omega arith)
refusal_read w a (Spelled bs low is same) first = let begins : slice_index w 0 ≡ code "h" = ap (λ x. slice_index x 0) is in absurd (omega arith)
refusal_read w a (Refused e is same) first = ap refusal_of is ∙ refusal_back e ∙ ap (λ x. Some x) (sym same)

-- a word that begins with `h`
pub bytes_read : (w : List ℕ) (a : Answer) (found : Option Answer) → IsOneWord w a → slice_index w 0 ≡ code "h"
    → ((bs : List ℕ) → All (λ b. b < 256) bs → w ≡ hex_word bs → found ≡ Some (answer.Bytes bs)) → found ≡ Some a
bytes_read w a found (Nothing is same) first finds = let begins : slice_index w 0 ≡ code "n" = ap (λ x. slice_index x 0) is in absurd (omega arith)
bytes_read w a found (Number n fits is same) first finds =
    let begins : slice_index w 0 ≡ slice_index (number_word n) 0 = ap (λ x. slice_index x 0) is in
    let low = number_first n fits in
    absurd (omega arith)
bytes_read w a found (Spelled bs low is same) first finds = finds bs low is ∙ ap (λ x. Some x) (sym same)
bytes_read w a found (Refused e is same) first finds =
    let begins : slice_index w 0 ≡ code "E" = ap (λ x. slice_index x 0) is ∙ errno_first e in
    absurd (omega arith)

-- a word that begins with `n`
pub none_read : (w : List ℕ) (a : Answer) → IsOneWord w a → slice_index w 0 ≡ code "n" → Some answer.None ≡ Some a
none_read w a (Nothing is same) first = ap (λ x. Some x) (sym same)
none_read w a (Number n fits is same) first =
    let begins : slice_index w 0 ≡ slice_index (number_word n) 0 = ap (λ x. slice_index x 0) is in
    let low = number_first n fits in
    absurd (omega arith)
none_read w a (Spelled bs low is same) first = let begins : slice_index w 0 ≡ code "h" = ap (λ x. slice_index x 0) is in absurd (omega arith)
none_read w a (Refused e is same) first =
    let begins : slice_index w 0 ≡ code "E" = ap (λ x. slice_index x 0) is ∙ errno_first e in
    absurd (omega arith)

-- a word that begins with another byte
pub number_read : (w : List ℕ) (a : Answer) → IsOneWord w a → (slice_index w 0 ≡ code "E" → ⊥) → (slice_index w 0 ≡ code "h" → ⊥)
    → (slice_index w 0 ≡ code "n" → ⊥) → option_map (λ n. answer.Int n) (numeral_value w) ≡ Some a
number_read w a (Nothing is same) no_error no_bytes no_answer = absurd (no_answer (ap (λ x. slice_index x 0) is))
number_read w a (Number n fits is same) no_error no_bytes no_answer =
    ap (option_map (λ n. answer.Int n)) (ap numeral_value is ∙ written_number_is_read n fits) ∙ ap (λ x. Some x) (sym same)
number_read w a (Spelled bs low is same) no_error no_bytes no_answer = absurd (no_bytes (ap (λ x. slice_index x 0) is))
number_read w a (Refused e is same) no_error no_bytes no_answer = absurd (no_error (ap (λ x. slice_index x 0) is ∙ errno_first e))

-- ---- answers of more words

-- four words
pub message_read : (m id v value : List ℕ) (a : Answer) → IsReadablePlainAnswer a → m ∷ id ∷ v ∷ value ∷ [] ≡ answer_words a
    → message_of id value ≡ Some a
message_read m id v value answer.None fine e = absurd (cc)
message_read m id v value (answer.Int n) fine e = absurd (cc)
message_read m id v value (answer.Bytes bytes) fine e = absurd (cc)
message_read m id v value (answer.Sets count r w x) fine e = absurd (cc)
message_read m id v value (answer.Text name) fine e = absurd fine
message_read m id v value (answer.Msg n k) fine e =
    let number : id ≡ decimal n.0 = (cc) in
    let given : value ≡ number_word k = (cc) in
    rw (number, given) (message_back n.0 k fine.0 fine.1)
message_read m id v value (answer.Fail f) fine e = absurd (cc)

-- five words
pub sets_read : (count s r w x : List ℕ) (a : Answer) → IsReadablePlainAnswer a → count ∷ s ∷ r ∷ w ∷ x ∷ [] ≡ answer_words a
    → sets_of count r w x ≡ Some a
sets_read count s r w x answer.None fine e = absurd (cc)
sets_read count s r w x (answer.Int n) fine e = absurd (cc)
sets_read count s r w x (answer.Bytes bytes) fine e = absurd (cc)
sets_read count s r w x (answer.Sets n a b d) fine e =
    let number : count ≡ number_word n = (cc) in
    let first : r ≡ set_word a.0 = (cc) in
    let second : w ≡ set_word b.0 = (cc) in
    let third : x ≡ set_word d.0 = (cc) in
    rw (number, first, second, third) (count_and_sets_back n a b d fine.0 fine.1 fine.2 fine.3)
sets_read count s r w x (answer.Text name) fine e = absurd fine
sets_read count s r w x (answer.Msg n k) fine e = absurd (cc)
sets_read count s r w x (answer.Fail f) fine e = absurd (cc)

-- ---- names

-- the bytes of a name
bytes_of_name : (w : List ℕ) → is_name w ≡ true → list_all (λ b. is_name_byte b) w ≡ true
bytes_of_name w is =
    (and_parts (nat_le (length w) 80) (list_all (λ b. is_name_byte b) w)
    (and_parts (nat_le 1 (length w)) (nat_le (length w) 80 && list_all (λ b. is_name_byte b) w) is).1).1

-- no such bytes name an error
no_errno : (w : List ℕ) → list_all (λ b. is_name_byte b) w ≡ true → errno_of w ≡ None
unfolding errno_of named_in
no_errno [] fine = refl
no_errno (c ∷ cs) fine =
    let here : is_name_byte c ≡ true = (and_parts (is_name_byte c) (list_all (λ b. is_name_byte b) cs) fine).0 in
    let other : (c == code "E") ≡ false = grind (arith, nat_tests) in
    rw other refl

-- a name is no error's
pub no_refusal : (w : List ℕ) → name_of w ≡ Some w → refusal_of w ≡ None
unfolding refusal_of
no_refusal w some = ap (option_map (λ e. answer.Fail e)) (no_errno w (bytes_of_name w (name_is_name w some)))

-- ---- what is found

-- an answer of bytes
pub bytes_passed : {E : Type 0} (r : Result (Option Answer) E) (w : List ℕ) → slice_index w 0 ≡ code "h"
    → IfOk r (λ found. (bs : List ℕ) → All (λ b. b < 256) bs → w ≡ hex_word bs → found ≡ Some (answer.Bytes bs))
    → IfOk r (λ found. IsPlainAnswerBack (w ∷ []) found)
bytes_passed (Ok found) w first finds = λ a fine e. bytes_read w a found (one_word_is w a fine e) first finds
bytes_passed (Err e) w first finds = tt

-- a message
pub message_passed : (ws : List (Bor (List ℕ))) (d : Bor (List ℕ)) (r : Option Answer) → 4 ≤ length ws → length ws < 5
    → r ≡ message_of (get_or ws 1 d).now (get_or ws 3 d).now → IsPlainAnswerBack (texts ws) r
message_passed ws d r some few is = λ a fine e. is ∙ message_read _ _ _ _ a fine (sym (four_texts ws d some few) ∙ e)

-- a count and three sets
pub sets_passed : (ws : List (Bor (List ℕ))) (d : Bor (List ℕ)) (r : Option Answer) → 5 ≤ length ws → length ws < 6
    → r ≡ sets_of (get_or ws 0 d).now (get_or ws 2 d).now (get_or ws 3 d).now (get_or ws 4 d).now → IsPlainAnswerBack (texts ws) r
sets_passed ws d r some few is = λ a fine e. is ∙ sets_read _ _ _ _ _ a fine (sym (five_texts ws d some few) ∙ e)

-- a word that names an error
refused_by : (w : List ℕ) (x a : Answer) → Some x ≡ refusal_of w → IsReadableNameAnswer a → w ∷ [] ≡ answer_words a → Some x ≡ Some a
refused_by w x answer.None found fine e = absurd fine
refused_by w x (answer.Int n) found fine e = absurd fine
refused_by w x (answer.Bytes bytes) found fine e = absurd fine
refused_by w x (answer.Sets count r y z) found fine e = absurd fine
refused_by w x (answer.Text name) found some e =
    let same : w ≡ name = (cc) in
    let none = no_refusal name some in
    let never : Some x ≡ None = found ∙ ap refusal_of same ∙ none in
    absurd (cc)
refused_by w x (answer.Msg id value) found fine e = absurd fine
refused_by w x (answer.Fail f) found fine e =
    let same : w ≡ errno_word f = (cc) in
    found ∙ ap refusal_of same ∙ refusal_back f

pub refused_passed : (ws : List (Bor (List ℕ))) (d : Bor (List ℕ)) (x : Answer) → 1 ≤ length ws → length ws < 2
    → Some x ≡ refusal_of (get_or ws 0 d).now → IsNameAnswerBack (texts ws) (Some x)
refused_passed ws d x some few found = λ a fine e. refused_by (get_or ws 0 d).now x a found fine (sym (one_text ws d some few) ∙ e)

-- a word that names no error
text_by : (w : List ℕ) (r : Option Answer) (a : Answer) → None ≡ refusal_of w → r ≡ option_map (λ name. answer.Text name) (name_of w)
    → IsReadableNameAnswer a → w ∷ [] ≡ answer_words a → r ≡ Some a
text_by w r answer.None none is fine e = absurd fine
text_by w r (answer.Int n) none is fine e = absurd fine
text_by w r (answer.Bytes bytes) none is fine e = absurd fine
text_by w r (answer.Sets count x y z) none is fine e = absurd fine
text_by w r (answer.Text name) none is some e =
    let same : w ≡ name = (cc) in
    is ∙ ap (option_map (λ name. answer.Text name)) (ap name_of same ∙ some)
text_by w r (answer.Msg id value) none is fine e = absurd fine
text_by w r (answer.Fail f) none is fine e =
    let same : w ≡ errno_word f = (cc) in
    let never : None ≡ Some (answer.Fail f) = none ∙ ap refusal_of same ∙ refusal_back f in
    absurd (cc)

pub text_passed : (ws : List (Bor (List ℕ))) (d : Bor (List ℕ)) (r : Option Answer) → 1 ≤ length ws → length ws < 2
    → None ≡ refusal_of (get_or ws 0 d).now → r ≡ option_map (λ name. answer.Text name) (name_of (get_or ws 0 d).now)
    → IsNameAnswerBack (texts ws) r
text_passed ws d r some few none is = λ a fine e. text_by (get_or ws 0 d).now r a none is fine (sym (one_text ws d some few) ∙ e)
