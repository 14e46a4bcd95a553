-- The words of calls and answers have no space, no LF and no `=`.
use Rattle.std.proofs.Common.{◌≡◌, ◌∙◌, ◌<◌, ◌≤◌, ◌==◌, ℕ, zero, suc, ℤ, pos, negsuc, Bool, true, false, cond, not, ◌&&◌, nat_lt, nat_le, ◌/◌, ◌%◌, ◌^◌, List, [], ◌∷◌, ◌++◌, length, length-append, flat_map, decimal, codes, Option, Some, None, w64, FitsSigned, All, refl, arith}
use Rattle.std.specs.Int.{IsInRange}
use Rattle.std.specs.List.{list_all}
use Rattle.std.specs.Str.Parse.{AllDigits}
use Rattle.std.proofs.lemmas.Bool.{and_from, and_parts}
use Rattle.std.proofs.lemmas.Bool.Decides.{nat_tests}
use Rattle.std.proofs.lemmas.Fmt.{decimal_is_IsNumeral}
use Rattle.std.proofs.lemmas.List.Elements.{All-nil, All-cons}
use Rattle.std.proofs.lemmas.List.Folds.{list_all-append}
use Rattle.std.proofs.lemmas.Str.Parse.{digit_from_value}
use Rattle.pth_base.specs.Descriptors.{contains, members_below, members}
use Rattle.pth_base.specs.declared.attr.AttrField.{AttrField}
use Rattle.pth_base.specs.declared.attr.AttrField.TheVariants as field
use Rattle.pth_base.specs.declared.call.Call.{Call}
use Rattle.pth_base.specs.declared.call.Call.TheVariants as call
use Rattle.pth_base.specs.declared.thread.ThreadState.{ThreadState}
use Rattle.pth_base.specs.declared.thread.ThreadState.TheVariants.{New}
use Rattle.pth_text.specs.Bytes.{code}
use Rattle.pth_text.specs.Hex.{digit_of, hex_of}
use Rattle.pth_spelling.specs.Syntax.{syntax_of, library_syntax, attribute_syntax, thread_syntax, utility_syntax, cancellation_syntax, event_syntax, new_event_syntax, key_syntax, port_syntax, cleanup_syntax, mutex_syntax, rwlock_syntax, condition_syntax, barrier_syntax, io_syntax}
use Rattle.pth_spelling.specs.WordMeanings.{is_name, is_name_byte, name_of}
use Rattle.pth_spelling.specs.declared.keyword.CallWord.{CallWord}
use Rattle.pth_spelling.specs.declared.keyword.CallWord.TheVariants as calls
use Rattle.pth_spelling.specs.declared.keyword.LibraryWord.{LibraryWord}
use Rattle.pth_spelling.specs.declared.keyword.LibraryWord.TheVariants as libraries
use Rattle.pth_spelling.specs.declared.keyword.AttributeWord.{AttributeWord}
use Rattle.pth_spelling.specs.declared.keyword.AttributeWord.TheVariants as attributes
use Rattle.pth_spelling.specs.declared.keyword.ThreadWord.{ThreadWord}
use Rattle.pth_spelling.specs.declared.keyword.ThreadWord.TheVariants as threads
use Rattle.pth_spelling.specs.declared.keyword.UtilityWord.{UtilityWord}
use Rattle.pth_spelling.specs.declared.keyword.UtilityWord.TheVariants as utilities
use Rattle.pth_spelling.specs.declared.keyword.CancellationWord.{CancellationWord}
use Rattle.pth_spelling.specs.declared.keyword.CancellationWord.TheVariants as cancellations
use Rattle.pth_spelling.specs.declared.keyword.EventWord.{EventWord}
use Rattle.pth_spelling.specs.declared.keyword.EventWord.TheVariants as events
use Rattle.pth_spelling.specs.declared.keyword.KeyStorageWord.{KeyStorageWord}
use Rattle.pth_spelling.specs.declared.keyword.KeyStorageWord.TheVariants as keys
use Rattle.pth_spelling.specs.declared.keyword.PortWord.{PortWord}
use Rattle.pth_spelling.specs.declared.keyword.PortWord.TheVariants as ports
use Rattle.pth_spelling.specs.declared.keyword.CleanupWord.{CleanupWord}
use Rattle.pth_spelling.specs.declared.keyword.CleanupWord.TheVariants as cleanups
use Rattle.pth_spelling.specs.declared.keyword.MutexWord.{MutexWord}
use Rattle.pth_spelling.specs.declared.keyword.MutexWord.TheVariants as mutexes
use Rattle.pth_spelling.specs.declared.keyword.RwlockWord.{RwlockWord}
use Rattle.pth_spelling.specs.declared.keyword.RwlockWord.TheVariants as rwlocks
use Rattle.pth_spelling.specs.declared.keyword.ConditionWord.{ConditionWord}
use Rattle.pth_spelling.specs.declared.keyword.ConditionWord.TheVariants as conditions
use Rattle.pth_spelling.specs.declared.keyword.BarrierWord.{BarrierWord}
use Rattle.pth_spelling.specs.declared.keyword.BarrierWord.TheVariants as barriers
use Rattle.pth_spelling.specs.declared.keyword.IoWord.{IoWord}
use Rattle.pth_spelling.specs.declared.keyword.IoWord.TheVariants as ios
use Rattle.pth_spelling.specs.declared.keyword.NewEventWord.{NewEventWord}
use Rattle.pth_spelling.specs.declared.keyword.NewEventWord.TheVariants as new_events
use Rattle.pth_spelling.specs.declared.keyword.QueryWord.{QueryWord}
use Rattle.pth_spelling.specs.declared.keyword.QueryWord.TheVariants as queries
use Rattle.pth_print.specs.ArgWords.{arg_word, goals_word, state_word, walk_word, which_word, field_word, mode_word, query_word}
use Rattle.pth_print.specs.Args.{Arg}
use Rattle.pth_print.specs.Args as arg
use Rattle.pth_print.specs.CallWords.{arg_words, call_words, words_of}
use Rattle.pth_print.specs.Parts.{Parts, parts_of}
use Rattle.pth_print.specs.Sets.{members_word, set_word}
use Rattle.pth_print.specs.WordTexts.{hex_word, number_word}
use Rattle.pth_transcript.specs.Parted.{is_equals}
use Rattle.pth_transcript.specs.Readable.{IsReadableArg, AreReadable, IsReadableBy, IsReadable}
use Rattle.pth_transcript.proofs.Partings.{HasNoEquals}

-- a byte above the space, and not `=`
abbrev pub is_word_byte : ℕ → Bool
is_word_byte b = nat_lt (code " ") b && not (b == code "=")

-- all bytes are such
abbrev pub are_word_bytes : List ℕ → Bool
are_word_bytes bytes = list_all (λ b. is_word_byte b) bytes

-- at least one such byte, and no other
abbrev pub is_word : List ℕ → Bool
is_word w = nat_lt 0 (length w) && are_word_bytes w

-- such words
abbrev pub are_words : List (List ℕ) → Bool
are_words ws = list_all (λ w. is_word w) ws

-- ---- what such words do not have

-- no blank
no_blank_in : (bytes : List ℕ) → are_word_bytes bytes ≡ true → All (λ b. nat_lt (code " ") b ≡ true) bytes
no_blank_in [] fine = All-nil (λ b. nat_lt (code " ") b ≡ true)
no_blank_in (c ∷ cs) fine =
    let parts = and_parts (is_word_byte c) (are_word_bytes cs) fine in
    let here = and_parts (nat_lt (code " ") c) (not (c == code "=")) parts.0 in
    All-cons (λ b. nat_lt (code " ") b ≡ true) c cs here.0 (no_blank_in cs parts.1)

-- no blank stands in a word
pub no_blank : (w : List ℕ) → is_word w ≡ true → All (λ b. nat_lt (code " ") b ≡ true) w
no_blank w fine = no_blank_in w (and_parts (nat_lt 0 (length w)) (are_word_bytes w) fine).1

-- a word is not `=`
pub other_than_equals : (w : List ℕ) → is_word w ≡ true → is_equals w ≡ false
other_than_equals [] fine = refl
other_than_equals (c ∷ cs) fine =
    let bytes : are_word_bytes (c ∷ cs) ≡ true = (and_parts (nat_lt 0 (length (c ∷ cs))) (are_word_bytes (c ∷ cs)) fine).1 in
    let here : is_word_byte c ≡ true = (and_parts (is_word_byte c) (are_word_bytes cs) bytes).0 in
    let other : (c == code "=") ≡ false = grind (arith, nat_tests) in
    rw other refl

-- none of some words is `=`
pub no_equals : (ws : List (List ℕ)) → are_words ws ≡ true → HasNoEquals ws
no_equals [] fine = tt
no_equals (w ∷ ws) fine =
    let parts = and_parts (is_word w) (are_words ws) fine in
    (other_than_equals w parts.0, no_equals ws parts.1)

-- ---- bytes

-- of two texts side by side
bytes_of_both : (a b : List ℕ) → are_word_bytes a ≡ true → are_word_bytes b ≡ true → are_word_bytes (a ++ b) ≡ true
bytes_of_both a b p q = list_all-append (λ c. is_word_byte c) a b ∙ and_from (are_word_bytes a) (are_word_bytes b) p q

-- digits
digits_bytes : (ds : List ℕ) → AllDigits 10 ds → are_word_bytes ds ≡ true
digits_bytes [] digits = refl
digits_bytes (c ∷ cs) digits =
    let range : IsInRange (code "0") (code "9") c = digit_from_value c digits.0 in
    let here : is_word_byte c ≡ true = grind (arith, nat_tests) in
    and_from (is_word_byte c) (are_word_bytes cs) here (digits_bytes cs digits.1)

-- a number
pub decimal_bytes : (n : ℕ) → n < 2 ^ 64 → are_word_bytes (decimal n) ≡ true
decimal_bytes n low = digits_bytes (decimal n) (decimal_is_IsNumeral n low).0.1

-- one or more
whole_word : (w : List ℕ) → 0 < length w → are_word_bytes w ≡ true → is_word w ≡ true
whole_word w some fine =
    let test : nat_lt 0 (length w) ≡ true = grind (arith, nat_tests) in
    and_from (nat_lt 0 (length w)) (are_word_bytes w) test fine

-- a byte and more
begun_word : (c : ℕ) (cs : List ℕ) → is_word_byte c ≡ true → are_word_bytes cs ≡ true → is_word (c ∷ cs) ≡ true
begun_word c cs here fine = whole_word (c ∷ cs) (omega arith) (and_from (is_word_byte c) (are_word_bytes cs) here fine)

-- a number without a sign
pub decimal_word : (n : ℕ) → n < 2 ^ 64 → is_word (decimal n) ≡ true
decimal_word n low = let numeral = (decimal_is_IsNumeral n low).0 in whole_word (decimal n) (omega (arith, numeral.0)) (decimal_bytes n low)

-- a number
pub number_is_word : (n : ℤ) → FitsSigned w64 n → is_word (number_word n) ≡ true
number_is_word (pos n) fits = let small : n < 2 ^ 63 = fits.sfits in decimal_word n (omega arith)
number_is_word (negsuc n) fits =
    let small = fits.sfits in
    begun_word (code "-") (decimal (suc n)) refl (decimal_bytes (suc n) (omega (arith, small)))

-- ---- names, sets and bytes

-- a name's bytes
name_bytes : (bytes : List ℕ) → list_all (λ b. is_name_byte b) bytes ≡ true → are_word_bytes bytes ≡ true
name_bytes [] fine = refl
name_bytes (c ∷ cs) fine =
    let parts = and_parts (is_name_byte c) (list_all (λ b. is_name_byte b) cs) fine in
    let here : is_name_byte c ≡ true = parts.0 in
    let byte : is_word_byte c ≡ true = grind (arith, nat_tests) in
    and_from (is_word_byte c) (are_word_bytes cs) byte (name_bytes cs parts.1)

-- by whether it is a name
name_by : (w found : List ℕ) (b : Bool) → is_name w ≡ b → cond b (Some found) None ≡ Some w → is_name w ≡ true
name_by w found true is some = is
name_by w found false is some = absurd (cc)

-- what is found by a name is a name
pub name_is_name : (w : List ℕ) → name_of w ≡ Some w → is_name w ≡ true
unfolding name_of
name_is_name w some = name_by w _ (is_name w) refl some

-- a name
pub name_is_word : (w : List ℕ) → name_of w ≡ Some w → is_word w ≡ true
name_is_word w some =
    let is : is_name w ≡ true = name_is_name w some in
    let parts = and_parts (nat_le 1 (length w)) (nat_le (length w) 80 && list_all (λ b. is_name_byte b) w) is in
    let first : nat_le 1 (length w) ≡ true = parts.0 in
    let fine = (and_parts (nat_le (length w) 80) (list_all (λ b. is_name_byte b) w) parts.1).1 in
    whole_word w (grind (arith, nat_tests)) (name_bytes w fine)

-- numbers below a limit
abbrev AreBelow : (limit : ℕ) → List ℕ → Type 0
AreBelow limit [] = Unit {0}
AreBelow limit (m ∷ ms) = (m < limit) × AreBelow limit ms

-- also below the next
below_next : (limit : ℕ) (ms : List ℕ) → AreBelow limit ms → AreBelow (suc limit) ms
below_next limit [] h = tt
below_next limit (m ∷ ms) h = (omega (arith, h.0), below_next limit ms h.1)

-- and with the limit
with_limit : (limit : ℕ) (ms : List ℕ) → AreBelow limit ms → AreBelow (suc limit) (ms ++ limit ∷ [])
with_limit limit [] h = (omega arith, tt)
with_limit limit (m ∷ ms) h = (omega (arith, h.0), with_limit limit ms h.1)

-- where a number is a member or is none
below_by : (f : ℕ) (ms : List ℕ) (b : Bool) → AreBelow f ms → AreBelow (suc f) (cond b (ms ++ f ∷ []) ms)
below_by f ms true h = with_limit f ms h
below_by f ms false h = below_next f ms h

-- members are below the limit
members_below_limit : (set n : ℕ) → AreBelow n (members_below set n)
unfolding members_below
members_below_limit set zero = tt
members_below_limit set (suc f) = below_by f (members_below set f) (contains set f) (members_below_limit set f)

-- members behind the first
more_members : (fs : List ℕ) → AreBelow 64 fs → are_word_bytes (flat_map (λ g. codes "," ++ decimal g) fs) ≡ true
more_members [] low = refl
more_members (f ∷ fs) low =
    bytes_of_both (codes "," ++ decimal f) (flat_map (λ g. codes "," ++ decimal g) fs)
    (bytes_of_both (codes ",") (decimal f) refl (decimal_bytes f (omega (arith, low.0))))
    (more_members fs low.1)

-- members
members_is_word : (ms : List ℕ) → AreBelow 64 ms → is_word (members_word ms) ≡ true
members_is_word [] low = refl
members_is_word (f ∷ fs) low =
    let small : f < 2 ^ 64 = omega (arith, low.0) in
    let numeral = (decimal_is_IsNumeral f small).0 in
    let rest = flat_map (λ g. codes "," ++ decimal g) fs in
    whole_word (decimal f ++ rest) (omega (arith, numeral.0, length-append (decimal f) rest))
    (bytes_of_both (decimal f) rest (decimal_bytes f small) (more_members fs low.1))

-- a set
pub set_is_word : (set : ℕ) → is_word (set_word set) ≡ true
set_is_word set = members_is_word (members set) (members_below_limit set 64)

-- a digit of a byte
digit_byte : (n : ℕ) → is_word_byte (digit_of n) ≡ true
digit_byte n = grind (arith, nat_tests)

-- digits of bytes
hex_bytes : (bytes : List ℕ) → are_word_bytes (hex_of bytes) ≡ true
hex_bytes [] = refl
hex_bytes (b ∷ bs) =
    and_from (is_word_byte (digit_of (b / 16))) _ (digit_byte (b / 16))
    (and_from (is_word_byte (digit_of (b % 16))) _ (digit_byte (b % 16)) (hex_bytes bs))

-- bytes
pub hex_is_word : (bytes : List ℕ) → is_word (hex_word bytes) ≡ true
hex_is_word bytes = whole_word (hex_word bytes) (omega arith) (bytes_of_both (codes "hex:") (hex_of bytes) refl (hex_bytes bytes))

-- ---- words of a list

-- goals
goals_is_word : (goals : ℕ) → 1 ≤ goals → goals ≤ 7 → is_word (goals_word goals) ≡ true
goals_is_word zero some few = absurd (omega arith)
goals_is_word (suc zero) some few = refl
goals_is_word (suc (suc zero)) some few = refl
goals_is_word (suc (suc (suc zero))) some few = refl
goals_is_word (suc (suc (suc (suc zero)))) some few = refl
goals_is_word (suc (suc (suc (suc (suc zero))))) some few = refl
goals_is_word (suc (suc (suc (suc (suc (suc zero)))))) some few = refl
goals_is_word (suc (suc (suc (suc (suc (suc (suc zero))))))) some few = refl
goals_is_word (suc (suc (suc (suc (suc (suc (suc (suc more)))))))) some few = absurd (omega arith)

-- which events are freed
which_is_word : (all : Bool) → is_word (which_word all) ≡ true
which_is_word true = refl
which_is_word false = refl

-- to write, or to read
mode_is_word : (write : Bool) → is_word (mode_word write) ≡ true
mode_is_word true = refl
mode_is_word false = refl

-- a walk
walk_is_word : (forward until_occurred : Bool) → is_word (walk_word forward until_occurred) ≡ true
walk_is_word true true = refl
walk_is_word true false = refl
walk_is_word false true = refl
walk_is_word false false = refl

-- a field of an attribute object
field_is_word : (f : AttrField) → is_word (field_word f) ≡ true
field_is_word field.Prio = refl
field_is_word f = refl

-- a thread's state
state_is_word : (s : ThreadState) → is_word (state_word s) ≡ true
state_is_word New = refl
state_is_word s = refl

-- what the scheduler is asked
query_is_word : (q : QueryWord) → is_word (query_word q) ≡ true
query_is_word queries.Threads = refl
query_is_word q = refl

-- the kind of a new event
event_is_word : (k : NewEventWord) → is_word (new_event_syntax k).text ≡ true
event_is_word new_events.Fd = refl
event_is_word k = refl

-- an operand
arg_is_word : (o : Arg) → IsReadableArg o → is_word (arg_word o) ≡ true
arg_is_word (arg.Number n) fits = number_is_word n fits
arg_is_word (arg.MaybeNumber (Some n)) fits = number_is_word n fits
arg_is_word (arg.MaybeNumber None) fine = refl
arg_is_word (arg.Name name) some = name_is_word name some
arg_is_word (arg.MaybeName (Some name)) some = name_is_word name some
arg_is_word (arg.MaybeName None) fine = refl
arg_is_word (arg.Set set) low = set_is_word set
arg_is_word (arg.Bytes bytes) low = hex_is_word bytes
arg_is_word (arg.Goals goals) some = goals_is_word goals some.0 some.1
arg_is_word (arg.Which all) fine = which_is_word all
arg_is_word (arg.Mode write) fine = mode_is_word write
arg_is_word (arg.Walk forward until_occurred) fine = walk_is_word forward until_occurred
arg_is_word (arg.Field f) fine = field_is_word f
arg_is_word (arg.State s) fine = state_is_word s
arg_is_word (arg.Query k) fine = query_is_word k
arg_is_word (arg.Event k) fine = event_is_word k

-- operands
args_are_words : (os : List Arg) → AreReadable os → are_words (arg_words os) ≡ true
args_are_words [] fine = refl
args_are_words (o ∷ os) fine = and_from (is_word (arg_word o)) (are_words (arg_words os)) (arg_is_word o fine.0) (args_are_words os fine.1)

-- ---- calls

-- a call's word, by its group
library_is_word : (k : LibraryWord) → is_word (library_syntax k).text ≡ true
library_is_word libraries.Kill = refl
library_is_word k = refl

attribute_is_word : (k : AttributeWord) → is_word (attribute_syntax k).text ≡ true
attribute_is_word attributes.New = refl
attribute_is_word k = refl

thread_is_word : (k : ThreadWord) → is_word (thread_syntax k).text ≡ true
thread_is_word threads.Spawn = refl
thread_is_word k = refl

utility_is_word : (k : UtilityWord) → is_word (utility_syntax k).text ≡ true
utility_is_word utilities.Fdmode = refl
utility_is_word k = refl

cancellation_is_word : (k : CancellationWord) → is_word (cancellation_syntax k).text ≡ true
cancellation_is_word cancellations.Point = refl
cancellation_is_word k = refl

events_is_word : (k : EventWord) → is_word (event_syntax k).text ≡ true
events_is_word (events.New k) = event_is_word k
events_is_word events.Chain = refl
events_is_word k = refl

key_is_word : (k : KeyStorageWord) → is_word (key_syntax k).text ≡ true
key_is_word keys.Create = refl
key_is_word k = refl

port_is_word : (k : PortWord) → is_word (port_syntax k).text ≡ true
port_is_word ports.Create = refl
port_is_word k = refl

cleanup_is_word : (k : CleanupWord) → is_word (cleanup_syntax k).text ≡ true
cleanup_is_word cleanups.Push = refl
cleanup_is_word k = refl

mutex_is_word : (k : MutexWord) → is_word (mutex_syntax k).text ≡ true
mutex_is_word mutexes.Init = refl
mutex_is_word k = refl

rwlock_is_word : (k : RwlockWord) → is_word (rwlock_syntax k).text ≡ true
rwlock_is_word rwlocks.Init = refl
rwlock_is_word k = refl

condition_is_word : (k : ConditionWord) → is_word (condition_syntax k).text ≡ true
condition_is_word conditions.Init = refl
condition_is_word k = refl

barrier_is_word : (k : BarrierWord) → is_word (barrier_syntax k).text ≡ true
barrier_is_word barriers.Init = refl
barrier_is_word k = refl

io_is_word : (k : IoWord) → is_word (io_syntax k).text ≡ true
io_is_word ios.Usleep = refl
io_is_word k = refl

-- a call's word
call_word_is_word : (k : CallWord) → is_word (syntax_of k).text ≡ true
call_word_is_word (calls.Library k) = library_is_word k
call_word_is_word (calls.Attributes k) = attribute_is_word k
call_word_is_word (calls.Threads k) = thread_is_word k
call_word_is_word (calls.Utilities k) = utility_is_word k
call_word_is_word (calls.Cancellation k) = cancellation_is_word k
call_word_is_word (calls.Events k) = events_is_word k
call_word_is_word (calls.Keys k) = key_is_word k
call_word_is_word (calls.Ports k) = port_is_word k
call_word_is_word (calls.Cleanups k) = cleanup_is_word k
call_word_is_word (calls.Mutexes k) = mutex_is_word k
call_word_is_word (calls.Rwlocks k) = rwlock_is_word k
call_word_is_word (calls.Conditions k) = condition_is_word k
call_word_is_word (calls.Barriers k) = barrier_is_word k
call_word_is_word (calls.Io k) = io_is_word k

-- the words of a call in parts
parts_are_words : (o : Option Parts) → IsReadableBy o → are_words (words_of o) ≡ true
parts_are_words (Some p) fine =
    and_from (is_word (syntax_of p.word).text) (are_words (arg_words p.operands)) (call_word_is_word p.word) (args_are_words p.operands fine)
parts_are_words None fine = absurd fine

-- the words of a call
pub call_words_are_words : (c : Call) → IsReadable c → are_words (call_words c) ≡ true
call_words_are_words call.Plain fine = absurd fine
call_words_are_words (call.Note v) fine = absurd fine
call_words_are_words c fine = parts_are_words (parts_of c) fine
