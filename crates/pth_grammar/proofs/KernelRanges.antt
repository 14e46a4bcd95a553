-- What a line of a kernel stands for is in its range.
use Rattle.std.proofs.Common.{◌≡◌, ◌≤◌, ◌<◌, ◌/◌, ℕ, ℤ, pos, negsuc, Bool, true, false, cond, List, [], ◌∷◌, length, drop, Option, Some, None, refl, subst, arith}
use Rattle.std.specs.Prelude.{option_and_then, option_map}
use Rattle.std.proofs.lemmas.Bool.Decides.{nat_tests}
use Rattle.pth_base.specs.Descriptors.{descriptor_limit}
use Rattle.pth_kernel.specs.Trace.{latest_time, most_room, most_clock, is_misshapen, is_out_of_range}
use Rattle.pth_kernel.specs.declared.trace.Entry.{Entry}
use Rattle.pth_kernel.specs.declared.trace.Entry.TheVariants as entry
use Rattle.pth_kernel.specs.declared.trace.Stamp.{Stamp}
use Rattle.pth_text.specs.Hex.{is_hex, pair_bytes, hex_bytes}
use Rattle.pth_text.specs.Number.{numeral_value}
use Rattle.pth_spelling.specs.Keywords.{entry_word}
use Rattle.pth_spelling.specs.Starts.{begins}
use Rattle.pth_spelling.specs.WordMeanings.{below, number_from, descriptor_of}
use Rattle.pth_spelling.specs.declared.keyword.EntryWord.{EntryWord}
use Rattle.pth_spelling.specs.declared.keyword.EntryWord.TheVariants as entries
use Rattle.pth_spelling.specs.declared.keyword.Keyword.{Keyword}
use Rattle.pth_spelling.specs.declared.keyword.Keyword.TheVariants as key
use Rattle.pth_grammar.specs.KernelNumbers.{ticks_of, time_of, room_of}
use Rattle.pth_grammar.specs.KernelLines.{clock_by, clock_line, opening_by, open_line, entry_alone, entry_with, entry_by, stamp_of, stamp_by, stamp_line}

-- ---- numbers

number_within : (low high : ℕ) (z : ℤ) (k : ℕ) → number_from low high z ≡ Some k → (low ≤ k) × (k ≤ high)
number_within low high (pos n) k e = (grind (arith, nat_tests), grind (arith, nat_tests))
number_within low high (negsuc n) k e = absurd (cc)

word_within : (low high : ℕ) (o : Option ℤ) (k : ℕ) → option_and_then (number_from low high) o ≡ Some k → (low ≤ k) × (k ≤ high)
word_within low high (Some z) k e = number_within low high z k e
word_within low high None k e = absurd (cc)

number_below : (limit : ℕ) (z : ℤ) (k : ℕ) → below limit z ≡ Some k → k < limit
number_below limit (pos n) k e = grind (arith, nat_tests)
number_below limit (negsuc n) k e = absurd (cc)

word_below : (limit : ℕ) (o : Option ℤ) (k : ℕ) → option_and_then (below limit) o ≡ Some k → k < limit
word_below limit (Some z) k e = number_below limit z k e
word_below limit None k e = absurd (cc)

clock_low : (w : List ℕ) (k : ℕ) → ticks_of w ≡ Some k → k ≤ most_clock
unfolding ticks_of
clock_low w k e = (word_within 0 most_clock (numeral_value w) k e).1

time_low : (w : List ℕ) (k : ℕ) → time_of w ≡ Some k → k ≤ latest_time
unfolding time_of
time_low w k e = (word_within 0 latest_time (numeral_value w) k e).1

descriptor_low : (w : List ℕ) (k : ℕ) → descriptor_of w ≡ Some k → k < descriptor_limit
unfolding descriptor_of
descriptor_low w k e = word_below descriptor_limit (numeral_value w) k e

room_between : (w : List ℕ) (k : ℕ) → room_of w ≡ Some k → (1 ≤ k) × (k ≤ most_room)
unfolding room_of
room_between w k e = word_within 1 most_room (numeral_value w) k e

-- ---- pairs of digits

length_of_pairs : (w : List ℕ) → length (pair_bytes w) ≡ length w / 2
length_of_pairs [] = refl
length_of_pairs (a ∷ []) = refl
length_of_pairs (a ∷ b ∷ more) = omega (arith, length_of_pairs more)

hex_length : (w : List ℕ) → is_hex w ≡ true → (1 ≤ length (pair_bytes w)) × (length (pair_bytes w) ≤ 2048)
hex_length w h =
    let e = length_of_pairs w in
    let low : 2 ≤ length w = grind (arith, nat_tests) in
    let high : length w ≤ 4096 = grind (arith, nat_tests) in
    (omega arith, omega arith)

hex_by : (b : Bool) (w bytes : List ℕ) → is_hex w ≡ b → cond b (Some (pair_bytes w)) None ≡ Some bytes → (1 ≤ length bytes) × (length bytes ≤ 2048)
hex_by true w bytes h e = let same : pair_bytes w ≡ bytes = cc in subst (λ bs. (1 ≤ length bs) × (length bs ≤ 2048)) same (hex_length w h)
hex_by false w bytes h e = absurd (cc)

bytes_between : (w bytes : List ℕ) → hex_bytes w ≡ Some bytes → (1 ≤ length bytes) × (length bytes ≤ 2048)
unfolding hex_bytes
bytes_between w bytes e = hex_by (is_hex w) w bytes refl e

-- ---- entries

shaped : (e x : Entry) → Some e ≡ Some x → is_misshapen e ≡ false → is_misshapen x ≡ false
shaped e x same h = let it : e ≡ x = cc in subst (λ e. is_misshapen e ≡ false) it h

alone_shaped : (k : EntryWord) (x : Entry) → entry_alone k ≡ Some x → is_misshapen x ≡ false
alone_shaped entries.Eof x e = shaped entry.Eof x e refl
alone_shaped entries.Up x e = shaped entry.Up x e refl
alone_shaped entries.Refuse x e = shaped entry.Refuse x e refl
alone_shaped entries.Exc x e = shaped entry.Exc x e refl
alone_shaped entries.Err x e = shaped entry.Fault x e refl
alone_shaped _ x e = absurd (cc)

-- an entry that is made of something
made_shaped : {A : Type 0} (o : Option A) (make : A → Entry) (x : Entry) → option_map make o ≡ Some x → ((a : A) → o ≡ Some a → is_misshapen (make a) ≡ false) → is_misshapen x ≡ false
made_shaped (Some a) make x e h = shaped (make a) x e (h a refl)
made_shaped None make x e h = absurd (cc)

arrive_shaped : (bytes : List ℕ) → (1 ≤ length bytes) × (length bytes ≤ 2048) → is_misshapen (entry.Arrive bytes) ≡ false
arrive_shaped bytes h = let low = h.0 in let high = h.1 in grind (arith, nat_tests)

room_shaped : (n : ℕ) → (1 ≤ n) × (n ≤ most_room) → is_misshapen (entry.Room n) ≡ false
room_shaped n h = let low = h.0 in let high = h.1 in grind (arith, nat_tests)

conn_shaped : (g : ℕ) → g < descriptor_limit → is_misshapen (entry.Conn (record { 0 = g })) ≡ false
conn_shaped g h = grind (arith, nat_tests)

with_shaped : (k : EntryWord) (w : List ℕ) (x : Entry) → entry_with k w ≡ Some x → is_misshapen x ≡ false
with_shaped entries.In w x e = made_shaped (hex_bytes w) _ x e (λ bytes h. arrive_shaped bytes (bytes_between w bytes h))
with_shaped entries.Room w x e = made_shaped (room_of w) _ x e (λ n h. room_shaped n (room_between w n h))
with_shaped entries.Conn w x e = made_shaped (descriptor_of w) _ x e (λ g h. conn_shaped g (descriptor_low w g h))
with_shaped _ w x e = absurd (cc)

entry_shaped : (o : Option EntryWord) (ws : List (List ℕ)) (x : Entry) → entry_by o ws ≡ Some x → is_misshapen x ≡ false
entry_shaped (Some k) [] x e = alone_shaped k x e
entry_shaped (Some k) (w ∷ []) x e = with_shaped k w x e
entry_shaped (Some k) (w ∷ v ∷ ws) x e = absurd (cc)
entry_shaped None ws x e = absurd (cc)

-- ---- lines

clock_within_by : (o : Option Keyword) (ws : List (List ℕ)) (k : ℕ) → clock_by o ws ≡ Some k → k ≤ most_clock
clock_within_by (Some key.Clock) [] k e = absurd (cc)
clock_within_by (Some key.Clock) (w ∷ []) k e = clock_low w k e
clock_within_by (Some key.Clock) (w ∷ v ∷ ws) k e = absurd (cc)
clock_within_by _ ws k e = absurd (cc)

pub clock_within : (ws : List (List ℕ)) (k : ℕ) → clock_line ws ≡ Some k → k ≤ most_clock
unfolding clock_line
clock_within ws k e = clock_within_by (begins ws) (drop 1 ws) k e

open_within_by : (o : Option Keyword) (ws : List (List ℕ)) (f : ℕ) → opening_by o ws ≡ Some f → f < descriptor_limit
open_within_by (Some key.Open) [] f e = absurd (cc)
open_within_by (Some key.Open) (w ∷ []) f e = descriptor_low w f e
open_within_by (Some key.Open) (w ∷ v ∷ ws) f e = absurd (cc)
open_within_by _ ws f e = absurd (cc)

pub open_within : (ws : List (List ℕ)) (f : ℕ) → open_line ws ≡ Some f → f < descriptor_limit
unfolding open_line
open_within ws f e = open_within_by (begins ws) (drop 1 ws) f e

in_range : (at f : ℕ) (what : Entry) → at ≤ latest_time → f < descriptor_limit → is_misshapen what ≡ false → is_out_of_range (record { at = at; fd = record { 0 = f }; what = what }) ≡ false
in_range at f what t d h = grind (arith, nat_tests)

stamp_within_by : (t f : Option ℕ) (e : Option Entry) (s : Stamp) → option_and_then (λ at. option_and_then (λ fd. option_map (λ what. record { at = at; fd = record { 0 = fd }; what = what }) e) f) t ≡ Some s
    → ((k : ℕ) → t ≡ Some k → k ≤ latest_time) → ((k : ℕ) → f ≡ Some k → k < descriptor_limit) → ((x : Entry) → e ≡ Some x → is_misshapen x ≡ false) → is_out_of_range s ≡ false
stamp_within_by (Some at) (Some fd) (Some what) s h low_t low_f shape =
    let same : record { at = at; fd = record { 0 = fd }; what = what } ≡ s = cc in
    subst (λ s. is_out_of_range s ≡ false) same (in_range at fd what (low_t at refl) (low_f fd refl) (shape what refl))
stamp_within_by (Some at) (Some fd) None s h low_t low_f shape = absurd (cc)
stamp_within_by (Some at) None e s h low_t low_f shape = absurd (cc)
stamp_within_by None f e s h low_t low_f shape = absurd (cc)

stamp_of_within : (ws : List (List ℕ)) (s : Stamp) → stamp_of ws ≡ Some s → is_out_of_range s ≡ false
stamp_of_within [] s h = absurd (cc)
stamp_of_within (t ∷ []) s h = absurd (cc)
stamp_of_within (t ∷ f ∷ []) s h = absurd (cc)
stamp_of_within (t ∷ f ∷ e ∷ ws) s h = stamp_within_by (time_of t) (descriptor_of f) (entry_by (entry_word e) ws) s h (time_low t) (descriptor_low f) (entry_shaped (entry_word e) ws)

stamp_by_within : (o : Option Keyword) (ws : List (List ℕ)) (s : Stamp) → stamp_by o ws ≡ Some s → is_out_of_range s ≡ false
stamp_by_within (Some key.At) ws s h = stamp_of_within ws s h
stamp_by_within _ ws s h = absurd (cc)

pub stamp_within : (ws : List (List ℕ)) (s : Stamp) → stamp_line ws ≡ Some s → is_out_of_range s ≡ false
unfolding stamp_line
stamp_within ws s h = stamp_by_within (begins ws) (drop 1 ws) s h
