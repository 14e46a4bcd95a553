-- A set is read back from its word.
use Rattle.std.proofs.Common.{◌≡◌, ◌∙◌, ◌+◌, ◌*◌, ◌/◌, ◌%◌, ◌^◌, ◌<◌, ◌≤◌, ◌==◌, ℕ, zero, suc, pos, Bool, true, false, cond, nat_lt, nat_le, List, [], ◌∷◌, ◌++◌, map, flat_map, decimal, codes, All, Option, Some, refl, sym, ap, arith}
use Rattle.std.specs.Prelude.{option_and_then, option_map}
use Rattle.std.specs.Int.{IsInRange}
use Rattle.std.specs.List.{slice_split}
use Rattle.std.specs.Str.{bytes_eq}
use Rattle.std.specs.Str.Parse.{IsNumeral}
use Rattle.std.proofs.Math.Nat.{div-div-eq-div-mul, two-pow-succ, div-one}
use Rattle.std.proofs.lemmas.Bool.Decides.{nat_tests}
use Rattle.std.proofs.lemmas.Fmt.{decimal_is_IsNumeral}
use Rattle.std.proofs.lemmas.List.Elements.{All-nil, All-cons}
use Rattle.std.proofs.lemmas.Str.Parse.{digit_from_value}
use Rattle.pth_base.specs.Descriptors.{contains, members_below, members, set_with}
use Rattle.pth_base.proofs.Members.{set_with-nil, set_with-snoc}
use Rattle.pth_text.specs.Bytes.{code}
use Rattle.pth_text.specs.Number.{numeral_value}
use Rattle.pth_text.proofs.Numbers.{written_number_is_read}
use Rattle.pth_spelling.specs.WordMeanings.{below, members_of, set_of}
use Rattle.pth_print.specs.Sets.{members_word, set_word}
use Rattle.pth_transcript.proofs.Splits.{parts_of_members}

-- ---- members rise

-- the members rise from the least, and lie below a limit
abbrev pub Rise : (least limit : ℕ) → List ℕ → Type 0
Rise least limit [] = Unit {0}
Rise least limit (m ∷ ms) = (least ≤ m) × (m < limit) × Rise (m + 1) limit ms

-- also below a greater limit
below_next : (least limit : ℕ) (ms : List ℕ) → Rise least limit ms → Rise least (suc limit) ms
below_next least limit [] h = tt
below_next least limit (m ∷ ms) h = (h.0, omega (arith, h.1), below_next (m + 1) limit ms h.2)

-- the limit follows them
limit_follows : (least limit : ℕ) (ms : List ℕ) → least ≤ limit → Rise least limit ms → Rise least (suc limit) (ms ++ limit ∷ [])
limit_follows least limit [] low h = (low, omega arith, tt)
limit_follows least limit (m ∷ ms) low h = (h.0, omega (arith, h.1), limit_follows (m + 1) limit ms (omega (arith, h.1)) h.2)

-- where a number is a member or is none
rise_by : (f : ℕ) (ms : List ℕ) (b : Bool) → Rise 0 f ms → Rise 0 (suc f) (cond b (ms ++ f ∷ []) ms)
rise_by f ms true h = limit_follows 0 f ms (omega arith) h
rise_by f ms false h = below_next 0 f ms h

-- the members of a set rise
members_rise : (set n : ℕ) → Rise 0 n (members_below set n)
unfolding members_below
members_rise set zero = tt
members_rise set (suc f) = rise_by f (members_below set f) (contains set f) (members_rise set f)

-- each is below the limit
all_below : (least limit : ℕ) (ms : List ℕ) → Rise least limit ms → All (λ m. m < limit) ms
all_below least limit [] h = All-nil (λ m. m < limit)
all_below least limit (m ∷ ms) h = All-cons (λ m. m < limit) m ms h.1 (all_below (m + 1) limit ms h.2)

-- ---- members make the set

-- one more bit is taken from what is left
bit_by : (set f rest half bit : ℕ) (ms : List ℕ) (b : Bool) → (bit == 1) ≡ b → bit < 2 → rest ≡ 2 * half + bit → 2 ^ f * rest + set_with ms ≡ set
    → 2 ^ suc f * half + set_with (cond b (ms ++ f ∷ []) ms) ≡ set
bit_by set f rest half bit ms true test small cut e =
    let one : bit ≡ 1 = grind (arith, nat_tests) in
    let whole : 2 ^ f * (2 * half + 1) + set_with ms ≡ set = ap (λ n. 2 ^ f * n + set_with ms) (sym (cut ∙ ap (λ n. 2 * half + n) one)) ∙ e in
    let more : (2 ^ f + 2 ^ f) * half + (set_with ms + 2 ^ f) ≡ set = omega (arith, whole) in
    rw (set_with-snoc, two-pow-succ) more
bit_by set f rest half bit ms false test small cut e =
    let none : bit ≡ 0 = grind (arith, nat_tests) in
    let whole : 2 ^ f * (2 * half + 0) + set_with ms ≡ set = ap (λ n. 2 ^ f * n + set_with ms) (sym (cut ∙ ap (λ n. 2 * half + n) none)) ∙ e in
    let same : (2 ^ f + 2 ^ f) * half + set_with ms ≡ set = omega (arith, whole) in
    rw two-pow-succ same

-- the members below n, and what is left of the set from n on
members_and_rest : (set n : ℕ) → 2 ^ n * (set / 2 ^ n) + set_with (members_below set n) ≡ set
unfolding members_below
members_and_rest set zero = rw (set_with-nil, div-one) (omega arith)
members_and_rest set (suc f) =
    let next : 2 ^ suc f ≡ 2 ^ f * 2 = omega (arith, two-pow-succ f) in
    let half : set / 2 ^ suc f ≡ set / 2 ^ f / 2 = ap (λ (n : ℕ). set / n) next ∙ sym (div-div-eq-div-mul set (2 ^ f) 2) in
    rw half
    (bit_by set f (set / 2 ^ f) (set / 2 ^ f / 2) (set / 2 ^ f % 2) (members_below set f) (contains set f) refl (omega arith) (omega arith) (members_and_rest set f))

-- a set is that of its members
members_make : (set : ℕ) → set < 2 ^ 64 → set_with (members set) ≡ set
members_make set low =
    let none : set / 2 ^ 64 ≡ 0 = omega arith in
    let whole = members_and_rest set 64 in
    omega (arith, whole, none)

-- ---- members are read

-- a member is read from its number
member_back : (m : ℕ) → m < 64 → option_and_then (below 64) (numeral_value (decimal m)) ≡ Some m
member_back m low =
    let test : nat_lt m 64 ≡ true = grind (arith, nat_tests) in
    rw (written_number_is_read (pos m) (record { sfits = omega arith })) (rw test refl)

-- members that rise are read from their numbers
members_back : (least : ℕ) (ms : List ℕ) → Rise least 64 ms → members_of least (map (λ g. decimal g) ms) ≡ Some (set_with ms)
unfolding set_with
members_back least [] h = refl
members_back least (m ∷ ms) h =
    let test : nat_le least m ≡ true = let le = h.0 in grind (arith, nat_tests) in
    rw (member_back m h.1) (rw test (rw (members_back (m + 1) ms h.2) refl))

-- digits and what follows them are not `-`
not_dash_in : (ds rest : List ℕ) → IsNumeral 10 ds → bytes_eq (ds ++ rest) (codes "-") ≡ false
not_dash_in [] rest digits = absurd (omega (arith, digits.0))
not_dash_in (c ∷ cs) rest digits = let range : IsInRange (code "0") (code "9") c = digit_from_value c digits.1.0 in grind (arith, nat_tests)

-- a member and what follows it is not `-`
not_dash : (f : ℕ) (rest : List ℕ) → f < 64 → bytes_eq (decimal f ++ rest) (codes "-") ≡ false
not_dash f rest low = not_dash_in (decimal f) rest (decimal_is_IsNumeral f (omega arith)).0

-- a set's number, read from its word
abbrev set_number : List ℕ → Option ℕ
set_number w = cond (bytes_eq w (codes "-")) (Some 0) (members_of 0 (slice_split (λ b. b == code ",") w))

-- the number of some members, read from their word
set_number_back : (ms : List ℕ) → Rise 0 64 ms → set_number (members_word ms) ≡ Some (set_with ms)
unfolding set_with
set_number_back [] h = refl
set_number_back (f ∷ fs) h =
    rw (not_dash f (flat_map (λ g. codes "," ++ decimal g) fs) h.1)
    (ap (members_of 0) (parts_of_members f fs (all_below 0 64 (f ∷ fs) h)) ∙ members_back 0 (f ∷ fs) h)

-- a set is read back from its word
pub set_back : (set : ℕ) → set < 2 ^ 64 → set_of (set_word set) ≡ Some (record { 0 = set })
unfolding set_of
set_back set low =
    ap (option_map (λ set. record { 0 = set })) (set_number_back (members set) (members_rise set 64) ∙ ap (λ n. Some n) (members_make set low))
