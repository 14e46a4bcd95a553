-- What is read of a word is a value that words can spell.
use Rattle.std.proofs.Common.{◌≡◌, ◌∙◌, ◌+◌, ◌*◌, ◌%◌, ◌<◌, ◌≤◌, ◌^◌, ◌==◌, ◌&&◌, nat_lt, nat_le, ℕ, zero, suc, add-one, ℤ, pos, negsuc, Bool, true, false, cond, List, [], ◌∷◌, length, take, drop, codes, Option, Some, None, w64, FitsSigned, All, refl, ap, arith}
use Rattle.std.specs.Prelude.{IfSome, option_and_then, option_map, slice_index}
use Rattle.std.specs.Char.{digit_value}
use Rattle.std.specs.Int.{is_in_range}
use Rattle.std.specs.List.{slice_split, list_all}
use Rattle.std.specs.Str.{bytes_eq}
use Rattle.std.specs.Str.Parse.{digits_value, signed_digits_value, without_leading_plus}
use Rattle.std.proofs.Math.Nat.{two-pow-succ}
use Rattle.std.proofs.Math.Pow.{pow_mono}
use Rattle.std.proofs.lemmas.Bool.{and_parts}
use Rattle.std.proofs.lemmas.Bool.Decides.{nat_tests}
use Rattle.std.proofs.lemmas.List.{length-take, take_all}
use Rattle.std.proofs.lemmas.List.Elements.{All-nil, All-cons}
use Rattle.std.proofs.lemmas.Option.{IfSome_then}
use Rattle.pth_text.specs.Bytes.{code}
use Rattle.pth_text.specs.Hex.{is_hex, is_hex_digit, pair_bytes, hex_bytes}
use Rattle.pth_text.specs.Number.{is_i64, is_numeral, numeral_value}
use Rattle.pth_spelling.specs.WordMeanings.{below, is_name, is_name_byte, members_of, name_of, set_of}
use Rattle.pth_transcript.specs.Naturals.{are_digits, number_below, number_of, natural_value, index_value, object_value, numbered, thread_value, cell_value}

-- ---- what is made of what is found

-- one value is made of another
pub mapped : {A B : Type 0} {P : A → Type 0} (Q : B → Type 0) (f : A → B) (o : Option A) → IfSome o P → ((x : A) → P x → Q (f x)) → IfSome (option_map f o) Q
mapped Q f (Some x) p h = h x p
mapped Q f None p h = tt

-- a value is found by means of another
pub chained : {A B : Type 0} {P : A → Type 0} (Q : B → Type 0) (f : A → Option B) (o : Option A) → IfSome o P → ((x : A) → P x → IfSome (f x) Q)
    → IfSome (option_and_then f o) Q
chained Q f (Some x) p h = h x p
chained Q f None p h = tt

-- a value is found where a test holds, and another or none where it fails
pub tested : {A : Type 0} (P : A → Type 0) (b : Bool) (o others : Option A) → (b ≡ true → IfSome o P) → IfSome others P → IfSome (cond b o others) P
tested P true o others p q = p refl
tested P false o others p q = q

-- ---- numbers

number_in : (ds : List ℕ) → IfSome (number_of ds) (λ n. n < 2 ^ 64)
number_in ds =
    let n : ℕ = digits_value 10 ds in
    tested (λ n. n < 2 ^ 64) (are_digits ds && nat_lt n (2 ^ 64)) (Some n) None
    (λ test. let small = (and_parts (are_digits ds) (nat_lt n (2 ^ 64)) test).1 in grind (arith, nat_tests)) tt

-- a number without a sign
pub natural_fits : (w : List ℕ) → IfSome (natural_value w) (λ n. n < 2 ^ 64)
unfolding natural_value
natural_fits w = number_in (without_leading_plus w)

below_limit : (limit n : ℕ) → IfSome (number_below limit n) (λ n. n < limit)
below_limit limit n = tested (λ n. n < limit) (nat_lt n limit) (Some n) None (λ test. grind (arith, nat_tests)) tt

pub index_fits : (w : List ℕ) → IfSome (index_value w) (λ n. n < 2 ^ 32)
unfolding index_value
index_fits w = chained (λ n. n < 2 ^ 32) (number_below (2 ^ 32)) (natural_value w) (natural_fits w) (λ n small. below_limit (2 ^ 32) n)

pub object_fits : (w : List ℕ) → IfSome (object_value w) (λ n. n < 256)
unfolding object_value
object_fits w = chained (λ n. n < 256) (number_below 256) (natural_value w) (natural_fits w) (λ n small. below_limit 256 n)

-- a thread
pub thread_fits : (w : List ℕ) → IfSome (thread_value w) (λ t. t.0 < 2 ^ 32)
unfolding thread_value
thread_fits w =
    tested (λ t. t.0 < 2 ^ 32) (slice_index w 0 == code "t") (option_map numbered (index_value (drop 1 w))) None
    (λ test. mapped (λ t. t.0 < 2 ^ 32) numbered (index_value (drop 1 w)) (index_fits (drop 1 w)) (λ n low. low)) tt

-- a shared value
pub cell_fits : (w : List ℕ) → IfSome (cell_value w) (λ n. n < 2 ^ 32)
unfolding cell_value
cell_fits w = tested (λ n. n < 2 ^ 32) (slice_index w 0 == code "v") (index_value (drop 1 w)) None (λ test. index_fits (drop 1 w)) tt

in_range : (n : ℤ) → is_i64 n ≡ true → FitsSigned w64 n
in_range (pos n) test = record { sfits = grind (arith, nat_tests) }
in_range (negsuc n) test = record { sfits = grind (arith, nat_tests) }

-- a number
pub number_fits : (w : List ℕ) → IfSome (numeral_value w) (λ n. FitsSigned w64 n)
unfolding numeral_value
number_fits w =
    let n : ℤ = signed_digits_value 10 w in
    tested (λ n. FitsSigned w64 n) (is_numeral w && is_i64 n) (Some n) None (λ test. in_range n (and_parts (is_numeral w) (is_i64 n) test).1) tt

-- ---- sets

member_below : (n : ℤ) → IfSome (below 64 n) (λ k. k < 64)
member_below (pos k) = tested (λ k. k < 64) (nat_lt k 64) (Some k) None (λ test. grind (arith, nat_tests)) tt
member_below (negsuc k) = tt

member_fits : (w : List ℕ) → IfSome (option_and_then (below 64) (numeral_value w)) (λ k. k < 64)
member_fits w = chained (λ k. k < 64) (below 64) (numeral_value w) (number_fits w) (λ n fine. member_below n)

-- the members from a number on, with their bits
one_member : (least k set : ℕ) → least ≤ k → set + 2 ^ (k + 1) ≤ 2 ^ 64 → 2 ^ k + set + 2 ^ least ≤ 2 ^ 64
one_member least k set low small =
    let more : 2 ^ least ≤ 2 ^ k = pow_mono low in
    let both : 2 ^ (k + 1) ≡ 2 ^ k + 2 ^ k = ap (λ (n : ℕ). 2 ^ n) (add-one k) ∙ two-pow-succ k in
    omega arith

members_fit : (least : ℕ) (ws : List (List ℕ)) → least ≤ 64 → IfSome (members_of least ws) (λ set. set + 2 ^ least ≤ 2 ^ 64)
members_fit least [] low = let more : 2 ^ least ≤ 2 ^ 64 = pow_mono low in omega arith
members_fit least (p ∷ ps) low =
    let Fits : ℕ → Type 0 = λ set. set + 2 ^ least ≤ 2 ^ 64 in
    chained Fits (λ k. cond (nat_le least k) (option_map (λ set. 2 ^ k + set) (members_of (k + 1) ps)) None) (option_and_then (below 64) (numeral_value p))
    (member_fits p)
    (λ k small. tested Fits (nat_le least k) (option_map (λ set. 2 ^ k + set) (members_of (k + 1) ps)) None
    (λ test. mapped Fits (λ set. 2 ^ k + set) (members_of (k + 1) ps) (members_fit (k + 1) ps (omega arith))
    (λ set fine. one_member least k set (grind (arith, nat_tests)) fine)) tt)

-- a set
pub set_fits : (w : List ℕ) → IfSome (set_of w) (λ set. set.0 < 2 ^ 64)
unfolding set_of
set_fits w =
    let parts : List (List ℕ) = slice_split (λ b. b == code ",") w in
    mapped (λ set. set.0 < 2 ^ 64) (λ set. record { 0 = set }) (cond (bytes_eq w (codes "-")) (Some 0) (members_of 0 parts))
    (tested (λ set. set < 2 ^ 64) (bytes_eq w (codes "-")) (Some 0) (members_of 0 parts) (λ test. omega arith)
    (IfSome_then (members_of 0 parts) (members_fit 0 parts (omega arith)) (λ set fine. omega arith)))
    (λ set small. small)

-- ---- bytes

digit_fits : (c : ℕ) → is_hex_digit c ≡ true → digit_value c < 16
digit_fits c test = grind (arith, nat_tests)

pairs_fit : (w : List ℕ) → list_all (λ c. is_hex_digit c) w ≡ true → All (λ b. b < 256) (pair_bytes w)
pairs_fit [] digits = All-nil (λ b. b < 256)
pairs_fit (c ∷ []) digits = All-nil (λ b. b < 256)
pairs_fit (c ∷ d ∷ ds) digits =
    let first = and_parts (is_hex_digit c) (list_all (λ c. is_hex_digit c) (d ∷ ds)) digits in
    let next = and_parts (is_hex_digit d) (list_all (λ c. is_hex_digit c) ds) first.1 in
    let byte : 16 * digit_value c + digit_value d < 256 = omega (arith, digit_fits c first.0, digit_fits d next.0) in
    All-cons (λ b. b < 256) (16 * digit_value c + digit_value d) (pair_bytes ds) byte (pairs_fit ds next.1)

-- bytes
pub hex_fits : (w : List ℕ) → IfSome (hex_bytes w) (λ bs. All (λ b. b < 256) bs)
unfolding hex_bytes
hex_fits w =
    let digits = list_all (λ c. is_hex_digit c) w in
    let count = is_in_range 2 4096 (length w) in
    tested (λ bs. All (λ b. b < 256) bs) (is_hex w) (Some (pair_bytes w)) None
    (λ test. pairs_fit w (and_parts count digits (and_parts (length w % 2 == 0) (count && digits) test).1).1) tt

-- ---- names

-- the first bytes of a name
first_bytes : (n : ℕ) (w : List ℕ) → list_all (λ b. is_name_byte b) w ≡ true → list_all (λ b. is_name_byte b) (take n w) ≡ true
first_bytes zero w fine = refl
first_bytes (suc n) [] fine = refl
first_bytes (suc n) (c ∷ cs) fine =
    let parts = and_parts (is_name_byte c) (list_all (λ b. is_name_byte b) cs) fine in
    let here : is_name_byte c ≡ true = parts.0 in
    rw here (first_bytes n cs parts.1)

cut_is_name : (w : List ℕ) → is_name w ≡ true → is_name (take 40 w) ≡ true
cut_is_name w is =
    let parts = and_parts (nat_le 1 (length w)) (nat_le (length w) 80 && list_all (λ b. is_name_byte b) w) is in
    let some : nat_le 1 (length w) ≡ true = parts.0 in
    let fine = first_bytes 40 w (and_parts (nat_le (length w) 80) (list_all (λ b. is_name_byte b) w) parts.1).1 in
    let count = length-take 40 w in
    let first : nat_le 1 (length (take 40 w)) ≡ true = grind (arith, nat_tests) in
    let few : nat_le (length (take 40 w)) 80 ≡ true = grind (arith, nat_tests) in
    rw first (rw few fine)

-- a name, which was cut
pub name_fits : (w : List ℕ) → IfSome (name_of w) (λ name. name_of name ≡ Some name)
unfolding name_of
name_fits w =
    tested (λ name. name_of name ≡ Some name) (is_name w) (Some (take 40 w)) None
    (λ is. rw (cut_is_name w is) (ap (λ x. Some x) (take_all 40 (take 40 w) (let count = length-take 40 w in omega arith)))) tt
