-- What a word of hexadecimal digits spells.
use Rattle.std.proofs.Common.{ap₂, ◌+◌, ◌*◌, ◌/◌, ◌%◌, ◌≤◌, All, ◌≡◌, ℕ, ◌<◌, true, false, cond, List, [], ◌∷◌, ◌++◌, length, Some, None, refl, ap, sym, ◌∙◌, arith, append-nil}
use Rattle.std.specs.Char.{digit_value}
use Rattle.std.specs.List.{list_all}
use Rattle.std.proofs.lemmas.Bool.Decides.{nat_tests}
use Rattle.std.proofs.lemmas.List.Elements.{All-head, All-tail}
use Rattle.pth_text.specs.Hex.{digit_of, hex_of, is_hex_digit, is_hex, pair_bytes, hex_bytes}

pub hex_none : (word : List ℕ) → is_hex word ≡ false → None ≡ hex_bytes word
unfolding hex_bytes
hex_none word test = sym (ap (λ t. cond t (Some (pair_bytes word)) None) test)

hex_some : (word : List ℕ) → is_hex word ≡ true → Some (pair_bytes word) ≡ hex_bytes word
unfolding hex_bytes
hex_some word test = sym (ap (λ t. cond t (Some (pair_bytes word)) None) test)

no_pair : (rest : List ℕ) → length rest < 2 → pair_bytes rest ≡ []
no_pair [] short = refl
no_pair (a ∷ []) short = refl
no_pair (a ∷ b ∷ more) short = absurd (omega arith)

-- the bytes of all pairs, where less than a pair is left
pub all_pairs : (old new digits rest : List ℕ) → new ++ pair_bytes rest ≡ old ++ pair_bytes digits → length rest < 2 → new ≡ old ++ pair_bytes digits
all_pairs old new digits rest same short = sym (append-nil new) ∙ ap (λ xs. new ++ xs) (sym (no_pair rest short)) ∙ same

-- the bytes of all pairs, after none
pub hex_all : (word none bytes : List ℕ) → is_hex word ≡ true → none ≡ [] → bytes ≡ none ++ pair_bytes word → Some bytes ≡ hex_bytes word
hex_all word none bytes test empty same = ap (λ xs. Some xs) (same ∙ ap (λ xs. xs ++ pair_bytes word) empty) ∙ hex_some word test

digit_test : (n : ℕ) → n < 16 → is_hex_digit (digit_of n) ≡ true
digit_test n low = grind (arith, nat_tests)

digit_back : (n : ℕ) → n < 16 → digit_value (digit_of n) ≡ n
digit_back n low = grind (arith, nat_tests)

length_of_digits : (bytes : List ℕ) → length (hex_of bytes) ≡ 2 * length bytes
length_of_digits [] = refl
length_of_digits (b ∷ bs) = omega (arith, length_of_digits bs)

all_digits : (bytes : List ℕ) → All (λ b. b < 256) bytes → list_all (λ c. is_hex_digit c) (hex_of bytes) ≡ true
all_digits [] low = refl
all_digits (b ∷ bs) low =
    let first : b < 256 = All-head (λ b. b < 256) b bs low in
    rw (digit_test (b / 16) (omega arith), digit_test (b % 16) (omega arith)) (all_digits bs (All-tail (λ b. b < 256) b bs low))

pairs_back : (bytes : List ℕ) → All (λ b. b < 256) bytes → pair_bytes (hex_of bytes) ≡ bytes
pairs_back [] low = refl
pairs_back (b ∷ bs) low =
    let first : b < 256 = All-head (λ b. b < 256) b bs low in
    let same : 16 * digit_value (digit_of (b / 16)) + digit_value (digit_of (b % 16)) ≡ b = rw (digit_back (b / 16) (omega arith), digit_back (b % 16) (omega arith)) (omega arith) in
    ap₂ (λ x xs. x ∷ xs) same (pairs_back bs (All-tail (λ b. b < 256) b bs low))

hex_test : (bytes : List ℕ) → All (λ b. b < 256) bytes → 0 < length bytes → length bytes ≤ 2048 → is_hex (hex_of bytes) ≡ true
hex_test bytes low some few = let digits = all_digits bytes low in let len = length_of_digits bytes in grind (arith, nat_tests)

pub written_bytes_are_read : (bytes : List ℕ) → All (λ b. b < 256) bytes → 0 < length bytes → length bytes ≤ 2048 → hex_bytes (hex_of bytes) ≡ Some bytes
written_bytes_are_read bytes low some few = sym (hex_some (hex_of bytes) (hex_test bytes low some few)) ∙ ap (λ xs. Some xs) (pairs_back bytes low)
