-- A word that spells a number without a sign is read as that number.
use Rattle.std.proofs.Common.{◌≡◌, ◌∙◌, ◌<◌, ◌^◌, ◌==◌, ◌≢◌, ◌&&◌, ⊎_elim, nat_lt, ℕ, zero, suc, Bool, true, false, cond, List, [], ◌∷◌, decimal, Some, None, Result, Ok, Err, IsUtf8, refl, sym, ap, arith}
use Rattle.std.specs.Prelude.{option_map}
use Rattle.std.specs.Int.{IsInRange}
use Rattle.std.specs.Result.{result_ok}
use Rattle.std.specs.Str.{all_ascii_digits, IsAscii}
use Rattle.std.specs.Str.Parse.{digits_value, without_leading_plus, IsNumeral, ParsesUnsigned}
use Rattle.std.proofs.lemmas.Bool.Decides.{nat_tests, eqb_tells}
use Rattle.std.proofs.lemmas.Fmt.{IsAscii-from_digits, decimal_is_IsNumeral}
use Rattle.std.proofs.lemmas.Str.{IsUtf8-from_ascii}
use Rattle.std.proofs.lemmas.Str.Parse.{IsNumeralModel, numerals_by_value, tells_all_ascii_digits, digit_from_value}
use Rattle.pth_text.specs.Bytes.{code}
use Rattle.pth_print.specs.WordTexts.{tid_word, cell}
use Rattle.pth_transcript.specs.Naturals.{are_digits, number_of, natural_value, index_value, object_value, numbered, thread_value, cell_value}

own : IsNumeralModel (λ ds. all_ascii_digits ds ≡ true) (digits_value 10)
own = numerals_by_value (λ ds. all_ascii_digits ds ≡ true) tells_all_ascii_digits

-- ---- what `natural` finds

digits_test : (ds : List ℕ) → IsNumeral 10 ds → are_digits ds ≡ true
digits_test [] digits = absurd (omega (arith, digits.0))
digits_test (c ∷ cs) digits = own.from (c ∷ cs) digits.1

test_digits : (ds : List ℕ) → are_digits ds ≡ true → IsNumeral 10 ds
test_digits [] test = absurd (grind arith)
test_digits (c ∷ cs) test = (omega arith, own.to (c ∷ cs) test)

-- digits spell their number
some_number : (ds : List ℕ) (n : ℕ) → IsNumeral 10 ds → digits_value 10 ds < 2 ^ 64 → n ≡ digits_value 10 ds → Some n ≡ number_of ds
some_number ds n digits small same =
    let fits : nat_lt (digits_value 10 ds) (2 ^ 64) ≡ true = grind (arith, nat_tests) in
    rw (digits_test ds digits, fits) (ap (λ k. Some k) same)

none_by : (n : ℕ) (a b : Bool) → (a ≡ true → b ≡ true → ⊥) → None ≡ cond (a && b) (Some n) None
none_by n true true other = absurd (other refl refl)
none_by n true false other = refl
none_by n false b other = refl

less_by : (m n : ℕ) → nat_lt m n ≡ true → m < n
less_by m n test = grind (arith, nat_tests)

no_number : (ds : List ℕ) → (IsNumeral 10 ds × (digits_value 10 ds < 2 ^ 64) → ⊥) → None ≡ number_of ds
no_number ds other =
    none_by (digits_value 10 ds) (are_digits ds) (nat_lt (digits_value 10 ds) (2 ^ 64))
    (λ a b. other (test_digits ds a, less_by (digits_value 10 ds) (2 ^ 64) b))

-- the number that is parsed
pub natural_is_read : {E : Type 0} (word : List ℕ) (r : Result ℕ E) → ParsesUnsigned 64 10 word r → result_ok r ≡ natural_value word
unfolding natural_value
natural_is_read word (Ok n) reads = some_number (without_leading_plus word) n reads.0.0 reads.0.1 reads.1
natural_is_read word (Err e) reads = no_number (without_leading_plus word) reads

ascii_cons : (c : ℕ) (cs : List ℕ) → c < 128 → IsAscii cs → IsAscii (c ∷ cs)
ascii_cons c cs low rest zero = low
ascii_cons c cs low rest (suc i) = rest i

-- digits, also behind a `+`, are a text
text_by : (c : ℕ) (cs : List ℕ) → IsNumeral 10 (without_leading_plus (c ∷ cs)) → IsAscii (c ∷ cs)
text_by c cs digits = ⊎_elim
    (λ (plus : ((c == code "+") ≡ true) × (c ≡ code "+")). ascii_cons c cs (omega (arith, plus.1)) (IsAscii-from_digits cs (rw plus.0 at digits.1)))
    (λ (other : ((c == code "+") ≡ false) × (c ≢ code "+")). IsAscii-from_digits (c ∷ cs) (rw other.0 at digits.1))
    (eqb_tells c (code "+"))

natural_is_text : (word : List ℕ) → IsNumeral 10 (without_leading_plus word) → IsUtf8 word
natural_is_text [] digits = absurd (omega (arith, digits.0))
natural_is_text (c ∷ cs) digits = IsUtf8-from_ascii (c ∷ cs) (text_by c cs digits)

-- what is no text spells no number
pub no_text : (word : List ℕ) → (IsUtf8 word → ⊥) → None ≡ natural_value word
unfolding natural_value
no_text word other = no_number (without_leading_plus word) (λ digits. other (natural_is_text word digits.0))

-- ---- words that are printed

no_plus : (ds : List ℕ) → IsNumeral 10 ds → without_leading_plus ds ≡ ds
no_plus [] digits = absurd (omega (arith, digits.0))
no_plus (c ∷ cs) digits = let range : IsInRange (code "0") (code "9") c = digit_from_value c digits.1.0 in grind (arith, nat_tests)

-- a number is read back
pub natural_back : (n : ℕ) → n < 2 ^ 64 → natural_value (decimal n) ≡ Some n
unfolding natural_value
natural_back n small =
    let parts = decimal_is_IsNumeral n small in
    ap number_of (no_plus (decimal n) parts.0) ∙ sym (some_number (decimal n) n parts.0 (omega (arith, small, parts.1)) (sym parts.1))

pub index_back : (n : ℕ) → n < 2 ^ 32 → index_value (decimal n) ≡ Some n
unfolding index_value
index_back n low =
    let test : nat_lt n (2 ^ 32) ≡ true = grind (arith, nat_tests) in
    rw (natural_back n (omega arith)) (rw test refl)

pub object_back : (n : ℕ) → n < 256 → object_value (decimal n) ≡ Some n
unfolding object_value
object_back n low =
    let test : nat_lt n 256 ≡ true = grind (arith, nat_tests) in
    rw (natural_back n (omega arith)) (rw test refl)

-- a thread is read back
pub thread_back : (t : ℕ) → t < 2 ^ 32 → thread_value (tid_word t) ≡ Some (numbered t)
unfolding thread_value
thread_back t low = ap (option_map numbered) (index_back t low)

-- a shared value is read back
pub cell_back : (v : ℕ) → v < 2 ^ 32 → cell_value (cell v) ≡ Some v
unfolding cell_value
cell_back v low = index_back v low
