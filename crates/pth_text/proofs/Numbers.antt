-- A word that spells a number is read as that number.
use Rattle.std.proofs.Common.{get_or, pos, negsuc, neg_ℤ, decimal, Bool, ◌⊎◌, inl, inr, ⊎_elim, ◌≢◌, zero, suc, subst, ◌≡◌, ℕ, ◌+◌, ◌-◌, ◌*◌, ◌<◌, ◌≤◌, ◌^◌, nat_lt, nat_le, not, length, drop, true, false, cond, ◌==◌, ◌&&◌, ◌||◌, List, [], ◌∷◌, Some, None, Result, Ok, Err, ℤ, w64, FitsSigned, IsUtf8, Option, pow-suc, refl, sym, ap, ◌∙◌, arith}
use Rattle.std.specs.Result.{result_ok, OkIff}
use Rattle.std.specs.List.{list_all}
use Rattle.std.specs.Char.{is_ascii_digit, digit_value}
use Rattle.std.specs.Prelude.{unwrap_or}
use Rattle.std.specs.Fmt.{signed_decimal}
use Rattle.std.specs.Int.{IsInRange}
use Rattle.std.specs.Int.Signed.{mag}
use Rattle.std.specs.Str.{all_ascii_digits, bytes_eq, IsAscii}
use Rattle.std.specs.Str.Parse.{digits_value, digits_value_after, signed_digits_value, starts_with_minus, without_leading_sign, IsNumeral, ParsesSigned}
use Rattle.std.proofs.Math.Nat.{pow-le-pow_right}
use Rattle.std.proofs.lemmas.Bool.{false≢true}
use Rattle.std.proofs.lemmas.Bool.Decides.{nat_tests, eqb_tells}
use Rattle.std.proofs.lemmas.Fmt.{IsAscii-from_digits, decimal_is_IsNumeral, first_decimal, decimal_digit}
use Rattle.std.proofs.lemmas.List.{at_drop_more, at_drop_all}
use Rattle.std.proofs.lemmas.Slice.Eq.{bytes_eq-Decides}
use Rattle.std.proofs.lemmas.Str.{IsUtf8-from_ascii, digit_value_digit}
use Rattle.std.proofs.lemmas.Str.Parse.{IsNumeralModel, numerals_by_value, tells_all_ascii_digits, digit_from_value, digits_value_short}
use Rattle.pth_text.specs.Bytes.{code}
use Rattle.pth_text.specs.Number.{has_leading_zero, is_plain, is_positive, is_numeral, is_i64, numeral_value}

pub all_digits : (ds : List ℕ) → list_all (λ b. is_ascii_digit b) ds ≡ all_ascii_digits ds
all_digits [] = refl
all_digits (c ∷ cs) = ap (λ t. is_ascii_digit c && t) (all_digits cs)

own : IsNumeralModel (λ ds. all_ascii_digits ds ≡ true) (digits_value 10)
own = numerals_by_value (λ ds. all_ascii_digits ds ≡ true) tells_all_ascii_digits

-- both bounds are one of the magnitude
by_magnitude : (n : ℤ) → is_i64 n ≡ nat_lt (mag n) (2 ^ 63)
by_magnitude (pos k) = refl
by_magnitude (negsuc k) = grind (arith, nat_tests)

fits_test : (n : ℤ) → FitsSigned w64 n → is_i64 n ≡ true
fits_test n fits = let small : mag n < 2 ^ 63 = fits.sfits in by_magnitude n ∙ grind (arith, nat_tests)

-- what is read where the word is a numeral
read_if_fits : {E : Type 0} (P : Type 0) (n : ℤ) (r : Result ℤ E) → OkIff r (P × FitsSigned w64 n) n → P → result_ok r ≡ cond (is_i64 n) (Some n) None
read_if_fits P n (Ok m) reads p = ap (λ k. Some k) reads.1 ∙ sym (ap (λ t. cond t (Some n) None) (fits_test n reads.0.1))
read_if_fits P n (Err e) reads p =
    let large : mag n < 2 ^ 63 → ⊥ = λ small. reads (p, record { sfits = small }) in
    let test : nat_lt (mag n) (2 ^ 63) ≡ false = grind (arith, nat_tests) in
    sym (ap (λ t. cond t (Some n) None) (by_magnitude n ∙ test))

positive_digits : (word : List ℕ) → is_positive word ≡ true → IsNumeral 10 word
positive_digits [] test = absurd (grind arith)
positive_digits (c ∷ cs) test = (omega arith, own.to (c ∷ cs) (grind arith))

either_holds : (a b : Bool) → (a || b) ≡ true → (a ≡ true) ⊎ (b ≡ true)
either_holds true b test = inl refl
either_holds false b test = inr test

zero_or_positive_digits : (word : List ℕ) → (bytes_eq word (code "0" ∷ []) || is_positive word) ≡ true → IsNumeral 10 word
zero_or_positive_digits word test = ⊎_elim
    (λ (zero_here : bytes_eq word (code "0" ∷ []) ≡ true). subst (IsNumeral 10) (sym ((bytes_eq-Decides word (code "0" ∷ [])).0 zero_here)) (omega arith, (omega arith, tt)))
    (λ (more : is_positive word ≡ true). positive_digits word more)
    (either_holds (bytes_eq word (code "0" ∷ [])) (is_positive word) test)

-- a `-` and digits
abbrev HasMinus : List ℕ → Type 0
HasMinus word = (ds : List ℕ) × (word ≡ code "-" ∷ ds) × IsNumeral 10 ds

minus_or_digits : (word : List ℕ) → is_numeral word ≡ true → HasMinus word ⊎ IsNumeral 10 word
minus_or_digits [] test = absurd (grind arith)
minus_or_digits (c ∷ cs) test = ⊎_elim
    (λ (here : ((c == code "-") ≡ true) × (c ≡ code "-")). inl (cs, ap (λ x. x ∷ cs) here.1, positive_digits cs (rw here.1 at test)))
    (λ (other : ((c == code "-") ≡ false) × (c ≢ code "-")). inr (zero_or_positive_digits (c ∷ cs) (rw other.0 at test)))
    (eqb_tells c (code "-"))

no_sign : (word : List ℕ) → IsNumeral 10 word → without_leading_sign word ≡ word
no_sign [] digits = absurd (omega (arith, digits.0))
no_sign (c ∷ cs) digits = let range : IsInRange (code "0") (code "9") c = digit_from_value c digits.1.0 in grind (arith, nat_tests)

numeral_digits : (word : List ℕ) → is_numeral word ≡ true → IsNumeral 10 (without_leading_sign word)
numeral_digits word test = ⊎_elim
    (λ (minus : HasMinus word). rw minus.1 minus.2)
    (λ (digits : IsNumeral 10 word). rw (no_sign word digits) digits)
    (minus_or_digits word test)

ascii_cons : (c : ℕ) (cs : List ℕ) → c < 128 → IsAscii cs → IsAscii (c ∷ cs)
ascii_cons c cs low rest zero = low
ascii_cons c cs low rest (suc i) = rest i

pub numeral_is_text : (word : List ℕ) → is_numeral word ≡ true → IsUtf8 word
numeral_is_text word test = IsUtf8-from_ascii word (⊎_elim
    (λ (minus : HasMinus word). subst IsAscii (sym minus.1) (ascii_cons (code "-") minus.0 (omega arith) (IsAscii-from_digits minus.0 minus.2.1)))
    (λ (digits : IsNumeral 10 word). IsAscii-from_digits word digits.1)
    (minus_or_digits word test))

pub number_is_read : {E : Type 0} (word : List ℕ) (r : Result ℤ E) → is_numeral word ≡ true → ParsesSigned w64 10 word r → result_ok r ≡ numeral_value word
unfolding numeral_value
number_is_read word r test reads = read_if_fits _ _ r reads (numeral_digits word test) ∙ sym (ap (λ t. cond (t && is_i64 (signed_digits_value 10 word)) (Some (signed_digits_value 10 word)) None) test)

pub number_none : (word : List ℕ) → is_numeral word ≡ false → None ≡ numeral_value word
unfolding numeral_value
number_none word test = sym (ap (λ t. cond (t && is_i64 (signed_digits_value 10 word)) (Some (signed_digits_value 10 word)) None) test)

number_some : (word : List ℕ) (n : ℤ) → is_numeral word ≡ true → signed_digits_value 10 word ≡ n → FitsSigned w64 n → numeral_value word ≡ Some n
unfolding numeral_value
number_some word n test value fits = let small : is_i64 (signed_digits_value 10 word) ≡ true = rw value (fits_test n fits) in rw (test, small) (ap (λ k. Some k) value)

positive_test : (ds : List ℕ) → IsNumeral 10 ds → code "0" < get_or ds 0 0 → is_positive ds ≡ true
positive_test [] digits first = absurd (omega arith)
positive_test (c ∷ cs) digits first = let all : all_ascii_digits (c ∷ cs) ≡ true = own.from (c ∷ cs) digits.1 in grind (arith, nat_tests)

plain_test : (ds : List ℕ) → IsNumeral 10 ds → is_positive ds ≡ true → is_numeral ds ≡ true
plain_test [] digits test = test
plain_test (c ∷ cs) digits test = let range : IsInRange (code "0") (code "9") c = digit_from_value c digits.1.0 in grind (arith, nat_tests)

plain_value : (ds : List ℕ) → IsNumeral 10 ds → signed_digits_value 10 ds ≡ pos (digits_value 10 ds)
plain_value [] digits = absurd (omega (arith, digits.0))
plain_value (c ∷ cs) digits = let range : IsInRange (code "0") (code "9") c = digit_from_value c digits.1.0 in grind (arith, nat_tests)

-- what `decimal` writes of a number other than 0
decimal_digits : (m : ℕ) → 0 < m → m < 2 ^ 64 → IsNumeral 10 (decimal m) × (digits_value 10 (decimal m) ≡ m) × (is_positive (decimal m) ≡ true)
decimal_digits m some small = let numeral = decimal_is_IsNumeral m small in (numeral.0, numeral.1, positive_test (decimal m) numeral.0 (first_decimal m some small))

minus_value : (ds : List ℕ) (m : ℕ) → digits_value 10 ds ≡ suc m → signed_digits_value 10 (code "-" ∷ ds) ≡ negsuc m
minus_value ds m value = ap (λ k. neg_ℤ (pos k)) value

pub written_number_is_read : (n : ℤ) → FitsSigned w64 n → numeral_value (signed_decimal n) ≡ Some n
written_number_is_read (pos zero) fits = let zero_word : decimal 0 ≡ code "0" ∷ [] = decimal_digit 0 (omega arith) in rw zero_word (number_some (code "0" ∷ []) (pos 0) refl refl fits)
written_number_is_read (pos (suc m)) fits =
    let small : suc m < 2 ^ 63 = fits.sfits in
    let parts = decimal_digits (suc m) (omega arith) (omega arith) in
    number_some (decimal (suc m)) (pos (suc m)) (plain_test (decimal (suc m)) parts.0 parts.2) (plain_value (decimal (suc m)) parts.0 ∙ ap (λ k. pos k) parts.1) fits
written_number_is_read (negsuc m) fits =
    let small : m < 2 ^ 63 = fits.sfits in
    let parts = decimal_digits (suc m) (omega arith) (omega arith) in
    number_some (code "-" ∷ decimal (suc m)) (negsuc m) parts.2 (minus_value (decimal (suc m)) m parts.1) fits

-- ---- few digits

both : (a b : Bool) → (a && b) ≡ true → (a ≡ true) × (b ≡ true)
both true b t = (refl, t)
both false b t = absurd (cc)

not_true : (a : Bool) → not a ≡ true → a ≡ false
not_true true t = absurd (cc)
not_true false t = refl

not_holds : (a : Bool) → (a ≡ true → ⊥) → a ≡ false
not_holds true h = absurd (h refl)
not_holds false h = refl

le_by : (a b : ℕ) → nat_le a b ≡ true → a ≤ b
le_by a b t = grind (arith, nat_tests)

-- what a test gives
given : (b : Bool) (n v : ℕ) → Some n ≡ cond b (Some v) None → (b ≡ true) × (n ≡ v)
given true n v e = (refl, ap (λ o. unwrap_or o 0) e)
given false n v e = absurd (cc)

not_given : (b : Bool) (v : ℕ) → None ≡ cond b (Some v) None → b ≡ false
not_given true v e = absurd (cc)
not_given false v e = refl

digit_range : (c : ℕ) → is_ascii_digit c ≡ true → IsInRange (code "0") (code "9") c
digit_range c test = let k = both (nat_le (code "0") c) (nat_le c (code "9")) test in (le_by (code "0") c k.0, le_by c (code "9") k.1)

pub digit_here : (c : ℕ) → is_ascii_digit c ≡ true → Some (c - code "0") ≡ cond (is_ascii_digit c) (Some (digit_value c)) None
digit_here c test =
    let same : c - code "0" ≡ digit_value c = omega (arith, digit_value_digit c (digit_range c test)) in
    ap (λ n. Some n) same ∙ sym (ap (λ t. cond t (Some (digit_value c)) None) test)

-- what digits spell after those of n
abbrev pub number_after : ℕ → List ℕ → Option ℕ
number_after n ds = cond (all_ascii_digits ds) (Some (digits_value_after 10 n ds)) None

-- what is read of a byte
abbrev pub digit_of : ℕ → Option ℕ
digit_of c = cond (is_ascii_digit c) (Some (digit_value c)) None

pub low_digit : (c d : ℕ) → Some d ≡ digit_of c → d < 10
low_digit c d e =
    let k = given (is_ascii_digit c) d (digit_value c) e in
    let range = digit_range c k.0 in
    omega (arith, k.1, digit_value_digit c range, range.1)

pub low_number : (n i : ℕ) → n < 10 ^ i → i ≤ 17 → n < 10 ^ 17
low_number n i low few = omega (arith, pow-le-pow_right {n = 10} (omega arith) few)

pub low_more : (n i d : ℕ) → n < 10 ^ i → d < 10 → n * 10 + d < 10 ^ (i + 1)
low_more n i d low small = let next : i + 1 ≡ suc i = omega arith in omega (arith, ap (λ k. 10 ^ k) next, pow-suc 10 i)

pub digit_taken : (ds : List ℕ) (i n d : ℕ) → i < length ds → Some d ≡ digit_of (get_or ds i 0) → number_after n (drop i ds) ≡ number_after (n * 10 + d) (drop (i + 1) ds)
digit_taken ds i n d inside e =
    let c = get_or ds i 0 in
    let k = given (is_ascii_digit c) d (digit_value c) e in
    at_drop_more (λ xs. number_after n xs) ds i 0 inside
    ∙ ap (λ t. cond (t && all_ascii_digits (drop (i + 1) ds)) (Some (digits_value_after 10 (n * 10 + digit_value c) (drop (i + 1) ds))) None) k.0
    ∙ ap (λ m. number_after (n * 10 + m) (drop (i + 1) ds)) (sym k.1)

pub digit_missing : (ds : List ℕ) (i n : ℕ) → i < length ds → None ≡ digit_of (get_or ds i 0) → number_after n (drop i ds) ≡ None
digit_missing ds i n inside e =
    let c = get_or ds i 0 in
    at_drop_more (λ xs. number_after n xs) ds i 0 inside
    ∙ ap (λ t. cond (t && all_ascii_digits (drop (i + 1) ds)) (Some (digits_value_after 10 (n * 10 + digit_value c) (drop (i + 1) ds))) None) (not_given (is_ascii_digit c) (digit_value c) e)

pub digits_done : (ds : List ℕ) (i n : ℕ) → length ds ≤ i → number_after n (drop i ds) ≡ Some n
digits_done ds i n over = at_drop_all (λ xs. number_after n xs) ds i over

record IsPlain (word : List ℕ) : Type 0 where
  some : nat_le 1 (length word) ≡ true
  short : nat_le (length word) 18 ≡ true
  unsigned : starts_with_minus word ≡ false
  trimmed : has_leading_zero word ≡ false

plain_parts : (word : List ℕ) → is_plain word ≡ true → IsPlain word
plain_parts word t =
    let a = both (nat_le 1 (length word)) (nat_le (length word) 18 && (not (starts_with_minus word) && not (has_leading_zero word))) t in
    let b = both (nat_le (length word) 18) (not (starts_with_minus word) && not (has_leading_zero word)) a.1 in
    let d = both (not (starts_with_minus word)) (not (has_leading_zero word)) b.1 in
    record { some = a.0; short = b.0; unsigned = not_true (starts_with_minus word) d.0; trimmed = not_true (has_leading_zero word) d.1 }

pub plain_short : (word : List ℕ) → is_plain word ≡ true → length word ≤ 18
plain_short word t = le_by (length word) 18 (plain_parts word t).short

not_digits : (word : List ℕ) → starts_with_minus word ≡ false → all_ascii_digits word ≡ false → is_numeral word ≡ false
not_digits word unsigned other = not_holds (is_numeral word) (λ test. ⊎_elim
    (λ (minus : HasMinus word). absurd (false≢true (sym unsigned ∙ ap starts_with_minus minus.1)))
    (λ (digits : IsNumeral 10 word). absurd (false≢true (sym other ∙ own.from word digits.1)))
    (minus_or_digits word test))

pub plain_none : (word : List ℕ) → is_plain word ≡ true → None ≡ number_after 0 word → None ≡ numeral_value word
plain_none word t e = number_none word (not_digits word (plain_parts word t).unsigned (not_given (all_ascii_digits word) (digits_value 10 word) e))

zero_alone : (c : ℕ) (cs : List ℕ) → c ≡ code "0" → has_leading_zero (c ∷ cs) ≡ false → is_numeral (c ∷ cs) ≡ true
zero_alone c [] e trimmed = ap (λ x. is_numeral (x ∷ [])) e
zero_alone c (d ∷ ds) e trimmed =
    let more : nat_lt 1 (length (c ∷ d ∷ ds)) ≡ true = grind (arith, nat_tests) in
    let same : (c == code "0") ≡ true = grind (arith, nat_tests) in
    absurd (false≢true (sym trimmed ∙ ap (λ b. b && c == code "0") more ∙ same))

plain_numeral : (word : List ℕ) → IsPlain word → IsNumeral 10 word → all_ascii_digits word ≡ true → is_numeral word ≡ true
plain_numeral [] plain digits all = absurd (omega (arith, digits.0))
plain_numeral (c ∷ cs) plain digits all = ⊎_elim
    (λ (here : ((c == code "0") ≡ true) × (c ≡ code "0")). zero_alone c cs here.1 plain.trimmed)
    (λ (other : ((c == code "0") ≡ false) × (c ≢ code "0")). plain_test (c ∷ cs) digits (subst (λ b. (not b && all_ascii_digits (c ∷ cs)) ≡ true) (sym other.0) all))
    (eqb_tells c (code "0"))

pub plain_low : (word : List ℕ) (n : ℕ) → is_plain word ≡ true → Some n ≡ number_after 0 word → n < 2 ^ 63
plain_low word n t e =
    let k = given (all_ascii_digits word) n (digits_value 10 word) e in
    let low : digits_value 10 word < 10 ^ 18 = digits_value_short own word 18 k.0 (plain_short word t) in
    omega (arith, k.1)

pub plain_some : (word : List ℕ) (n : ℕ) → is_plain word ≡ true → Some n ≡ number_after 0 word → Some (pos n) ≡ numeral_value word
plain_some word n t e =
    let plain = plain_parts word t in
    let k = given (all_ascii_digits word) n (digits_value 10 word) e in
    let digits : IsNumeral 10 word = (le_by 1 (length word) plain.some, own.to word k.0) in
    sym (number_some word (pos n) (plain_numeral word plain digits k.0) (plain_value word digits ∙ ap (λ m. pos m) (sym k.1)) (record { sfits = plain_low word n t e }))
