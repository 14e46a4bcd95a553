-- The script of a workload, as it grows.
use Rattle.std.proofs.Common.{◌≡◌, ◌∙◌, ◌<◌, ◌≤◌, ℕ, zero, suc, ◌+◌, ◌*◌, ◌/◌, ◌%◌, pos, ◌-ℤ◌, ◌≤ℤ◌, negsuc, ℤ, length, length-append, arith, List, ◌++◌, refl, ap, sym, append_assoc, append-nil, add-one}
use Rattle.std.specs.Prelude.{codes, decimal}
use Rattle.std.specs.Fmt.{signed_decimal}
use Rattle.std.specs.Int.Signed.{mag}
use Rattle.std.proofs.lemmas.Fmt.{length-decimal-le, length_signed_le}
use Rattle.std.proofs.lemmas.Int.{ints}
use Rattle.pth_script.specs.Limits.{text_limit}
use Rattle.pth_script.specs.Generated.{generated, head_text, number_after, priority_of, spawned_text, spawned_texts, tail_text}

-- five pieces, one after another
pub five_pieces : (old a b c d e p q r s new : List ℕ) → p ≡ old ++ a → q ≡ p ++ b → r ≡ q ++ c → s ≡ r ++ d → new ≡ s ++ e → new ≡ old ++ (a ++ b ++ c ++ d ++ e)
five_pieces old a b c d e p q r s new one two three four five =
    let ab = two ∙ ap (λ t. t ++ b) one ∙ append_assoc old a b in
    let abc = three ∙ ap (λ t. t ++ c) ab ∙ append_assoc old (a ++ b) c in
    let abcd = four ∙ ap (λ t. t ++ d) abc ∙ append_assoc old (a ++ b ++ c) d in
    five ∙ ap (λ t. t ++ e) abcd ∙ append_assoc old (a ++ b ++ c ++ d) e

-- no thread yet
pub no_spawns : (n : ℕ) (head : List ℕ) → head ≡ head ++ spawned_texts n 0
unfolding spawned_texts
no_spawns n head = sym (append-nil head)

pub first_number : (n : ℕ) → n ≡ number_after n 0
unfolding number_after
first_number n = refl

-- one thread more
next_by : (n i number : ℕ) → number ≡ number_after n i → (number * 1103515245 + 12345) % 2147483648 ≡ number_after n (suc i)
unfolding number_after
next_by n i number is = ap (λ x. (x * 1103515245 + 12345) % 2147483648) is

pub next_number : (n i number : ℕ) → number ≡ number_after n i → (number * 1103515245 + 12345) % 2147483648 ≡ number_after n (i + 1)
next_number n i number is = next_by n i number is ∙ ap (number_after n) (sym (add-one i))

spawn_by : (n i number : ℕ) (head old new : List ℕ) → old ≡ head ++ spawned_texts n i → number ≡ number_after n (suc i) → new ≡ old ++ spawned_text number (suc i) → new ≡ head ++ spawned_texts n (suc i)
unfolding spawned_texts
spawn_by n i number head old new so is more =
    more ∙ (λ j. so j ++ spawned_text (is j) (suc i)) ∙ append_assoc head (spawned_texts n i) (spawned_text (number_after n (suc i)) (suc i))

pub one_spawn : (n i number : ℕ) (head old new : List ℕ) → old ≡ head ++ spawned_texts n i → number ≡ number_after n (i + 1) → new ≡ old ++ spawned_text number (i + 1) → new ≡ head ++ spawned_texts n (i + 1)
one_spawn n i number head old new so is more =
    let next = add-one i in
    spawn_by n i number head old new so (is ∙ ap (number_after n) next) (more ∙ ap (λ k. old ++ spawned_text number k) next) ∙ ap (λ k. head ++ spawned_texts n k) (sym next)

-- and nothing more
pub all_of_it : (n : ℕ) → head_text ++ spawned_texts n n ++ tail_text ≡ generated n
unfolding generated
all_of_it n = refl

-- ---- it is short

mag_of : (z : ℤ) → negsuc 4 ≤ℤ z → z ≤ℤ pos 5 → mag z ≤ 5
mag_of (pos n) low high = grind (arith, ints)
mag_of (negsuc n) low high = grind (arith, ints)

small_priority : (m : ℕ) → m < 11 → mag (pos m -ℤ pos 5) ≤ 5
small_priority m h = mag_of (pos m -ℤ pos 5) (grind (arith, ints)) (grind (arith, ints))

five_lengths : (a b c d e : List ℕ) → length (a ++ b ++ c ++ d ++ e) ≡ length a + length b + length c + length d + length e
five_lengths a b c d e = omega (arith, length-append (a ++ b ++ c ++ d) e, length-append (a ++ b ++ c) d, length-append (a ++ b) c, length-append a b)

spawned_short : (number i : ℕ) → i ≤ 1000 → length (spawned_text number i) ≤ 60
spawned_short number i few =
    let small = small_priority (number / 65536 % 11) (omega arith) in
    let one = length_signed_le 1 (priority_of number) (omega (arith, small)) (omega (arith, small)) in
    let two = length-decimal-le 4 i (omega arith) (omega arith) (omega arith) in
    let whole = five_lengths (codes "attr_set a1 prio ") (signed_decimal (priority_of number)) (codes "\nspawn 1 ") (decimal i) (codes " a1\n") in
    omega (arith, one, two, whole)

spawns_short : (n i : ℕ) → i ≤ 1000 → length (spawned_texts n i) ≤ 60 * i
unfolding spawned_texts
spawns_short n zero few = omega arith
spawns_short n (suc i) few =
    let before = spawns_short n i (omega arith) in
    let last = spawned_short (number_after n (suc i)) (suc i) few in
    omega (arith, before, last, length-append (spawned_texts n i) (spawned_text (number_after n (suc i)) (suc i)))

-- so the input may have all of it
pub generated_short : (n : ℕ) → n ≤ 1000 → length (generated n) ≤ text_limit
unfolding generated text_limit
generated_short n few =
    let spawns = spawns_short n n few in
    omega (arith, spawns, length-append (head_text ++ spawned_texts n n) tail_text, length-append head_text (spawned_texts n n))
