-- How many bytes the lines of a dump have at most.
use Rattle.std.proofs.Common.{◌≡◌, ◌+◌, ◌*◌, ◌/◌, ◌%◌, ◌≤◌, ◌<◌, ◌^◌, ◌==◌, ℕ, zero, suc, ℤ, pos, negsuc, Bool, true, false, if◌then◌else◌, List, [], ◌∷◌, ◌++◌, length, codes, decimal, Option, Some, None, Result, Ok, Err, OnOk, ap, arith, refl}
use Rattle.std.specs.Fmt.{digit_glyph, digits, digits_onto, signed_decimal}
use Rattle.std.proofs.Math.Nat.{mul-suc}
use Rattle.std.proofs.lemmas.List.{length-append}
use Rattle.pth_lock.specs.Mutexes.{MutexTable, owner_of}
use Rattle.pth_kernel.specs.Kernel.{Kernel, is_fd_live, is_nonblocking, room, unread}
use Rattle.pth_queue.specs.declared.queue.Queue.{Queue}
use Rattle.pth_threads.specs.Attributes.{flag}
use Rattle.pth_threads.specs.declared.entry.Entry.{Entry}
use Rattle.pth_snapshot.specs.Dump.{numbers, row, lines, stand, thread_numbers, thread_row, mutex_row, mutex_rows, mode_of, fd_row, fd_rows, place_row, place_rows, named_tid, single_rows}

-- ---- numbers

-- one digit more
digit_more : (b : Bool) (k d n : ℕ) (acc rest : List ℕ) → length acc ≤ n → length rest ≤ k + (n + 1) → length (if b then d ∷ acc else rest) ≤ suc k + n
digit_more true k d n acc rest few later = omega arith
digit_more false k d n acc rest few later = omega arith

onto_few : (k base : ℕ) (upper : Bool) (n : ℕ) (acc : List ℕ) (m : ℕ) → length acc ≤ m → length (digits_onto k base upper n acc) ≤ k + m
onto_few zero base upper n acc m few = omega arith
onto_few (suc k) base upper n acc m few =
    digit_more (n / base == 0) k (digit_glyph upper (n % base)) m acc (digits_onto k base upper (n / base) (digit_glyph upper (n % base) ∷ acc)) few
    (onto_few k base upper (n / base) (digit_glyph upper (n % base) ∷ acc) (m + 1) (omega arith))

-- a number is written with 64 digits at most
decimal_few : (n : ℕ) → length (decimal n) ≤ 64
unfolding digits
decimal_few n = onto_few 64 10 false n [] 0 (omega arith)

signed_few : (z : ℤ) → length (signed_decimal z) ≤ 65
signed_few (pos n) = let few = decimal_few n in omega arith
signed_few (negsuc n) = let few = decimal_few (suc n) in omega arith

numbers_few : (ns : List ℤ) → length (numbers ns) ≤ 66 * length ns
numbers_few [] = omega arith
numbers_few (n ∷ ns) =
    let here = signed_few n in
    let later = numbers_few ns in
    let first = length-append (codes " ") (signed_decimal n) in
    let all = length-append (codes " " ++ signed_decimal n) (numbers ns) in
    omega arith

row_few : (word : List ℕ) (ns : List ℤ) → length (row word ns) ≤ length word + 66 * length ns + 1
row_few word ns =
    let few = numbers_few ns in
    let first = length-append word (numbers ns) in
    let all = length-append (word ++ numbers ns) (codes "\n") in
    omega arith

-- ---- lines

lines_few : (f : ℕ → List ℕ) (k n : ℕ) → ((i : ℕ) → length (f i) ≤ k) → length (lines f n) ≤ k * n
unfolding lines
lines_few f k zero few = omega arith
lines_few f k (suc n) few =
    let here = few n in
    let later = lines_few f k n few in
    let all = length-append (lines f n) (f n) in
    let product = mul-suc k n in
    omega arith

-- the line of a thread, by its numbers and its name
thread_by : (ns : List ℤ) (name : List ℕ) → length ns ≡ 11 → length name ≤ 40 → length (codes "thread" ++ numbers ns ++ codes " " ++ name ++ codes "\n") ≤ 800
thread_by ns name all_numbers short =
    let few = numbers_few ns in
    let first = length-append (codes "thread") (numbers ns) in
    let second = length-append (codes "thread" ++ numbers ns) (codes " ") in
    let third = length-append (codes "thread" ++ numbers ns ++ codes " ") name in
    let all = length-append (codes "thread" ++ numbers ns ++ codes " " ++ name) (codes "\n") in
    omega arith

more_few : (old piece new : List ℕ) (k : ℕ) → new ≡ old ++ piece → length piece ≤ k → length new ≤ length old + k
more_few old piece new k is few = let e = ap length is in let all = length-append old piece in omega arith

-- a thread whose name has 40 bytes at most
pub entry_few : (old new : List ℕ) (t : ℕ) (e : Entry) (p : Option (Queue × ℤ × ℕ)) → new ≡ old ++ thread_row t (Some e) p → length e.name ≤ 40 → length new ≤ length old + 800
entry_few old new t e p is short = more_few old (thread_row t (Some e) p) new 800 is (thread_by (thread_numbers t e (stand p)) e.name refl short)

-- what two facts of a call that succeeds say together
pub both : {T E P Q R : Type 0} (r : Result T E) → OnOk r P → OnOk r Q → (P → Q → R) → OnOk r R
both (Ok x) p q f = f p q
both (Err e) p q f = tt

mutex_few : (m : ℕ) (o : Option ℕ) → length (mutex_row m o) ≤ 300
mutex_few m None = omega arith
mutex_few m (Some t) = let few = row_few (codes "mutex") (pos m ∷ pos t ∷ []) in omega arith

mutexes_few : (x : MutexTable) → length (mutex_rows x) ≤ 300 * 64
mutexes_few x = lines_few (λ m. mutex_row m (owner_of (x m))) 300 64 (λ m. mutex_few m (owner_of (x m)))

fd_few : (b : Bool) (ns : List ℤ) → length ns ≡ 4 → length (if b then row (codes "fd") ns else []) ≤ 300
fd_few true ns four = let few = row_few (codes "fd") ns in omega arith
fd_few false ns four = omega arith

fds_few : (k : Kernel) → length (fd_rows k) ≤ 300 * 64
fds_few k =
    lines_few (fd_row k) 300 64 (λ f. fd_few (is_fd_live k f) (pos f ∷ pos (length (unread k f)) ∷ pos (room k f) ∷ mode_of (is_nonblocking k f) ∷ []) refl)

-- ---- what is there once

open_few : (r : Option ℕ) → length (place_row r) ≤ 11
open_few None = omega arith
open_few (Some t) = omega arith

place_few : (steps : ℕ) (r : Option ℕ) → length (place_rows steps r) ≤ 100
place_few steps r =
    let few = row_few (codes "steps") (pos steps ∷ []) in
    let last = open_few r in
    let first = length-append (codes "pthsnap 1\n") (row (codes "steps") (pos steps ∷ [])) in
    let all = length-append (codes "pthsnap 1\n" ++ row (codes "steps") (pos steps ∷ [])) (place_row r) in
    omega arith

single_few : (now turns : ℕ) (favour : Bool) (named : Option ℕ) → length (single_rows now turns favour named) ≤ 300
single_few now turns favour named =
    let a = row (codes "now") (pos now ∷ []) in
    let b = row (codes "turn") (pos turns ∷ []) in
    let c = row (codes "favour") (flag favour ∷ []) in
    let d = row (codes "named") (pos (named_tid named) ∷ []) in
    let fa : length a ≤ 70 = row_few (codes "now") (pos now ∷ []) in
    let fb : length b ≤ 71 = row_few (codes "turn") (pos turns ∷ []) in
    let fc : length c ≤ 73 = row_few (codes "favour") (flag favour ∷ []) in
    let fd : length d ≤ 72 = row_few (codes "named") (pos (named_tid named) ∷ []) in
    let two = length-append a b in
    let three = length-append (a ++ b) c in
    let all = length-append (a ++ b ++ c) d in
    omega arith

-- ---- the whole

-- all pieces one behind another
pub dump_few : (old o1 o2 o3 o4 o5 o6 : List ℕ) (steps now turns : ℕ) (r : Option ℕ) (favour : Bool) (named : Option ℕ) (x : MutexTable) (k : Kernel)
    → o1 ≡ old ++ place_rows steps r → o2 ≡ o1 ++ single_rows now turns favour named → length o3 ≤ length o2 + 800 * 4096
    → o4 ≡ o3 ++ mutex_rows x → o5 ≡ o4 ++ fd_rows k → o6 ≡ o5 ++ codes "end\n" → length o6 < length old + 2 ^ 22
dump_few old o1 o2 o3 o4 o5 o6 steps now turns r favour named x k h1 h2 h3 h4 h5 h6 =
    let f1 = more_few old (place_rows steps r) o1 100 h1 (place_few steps r) in
    let f2 = more_few o1 (single_rows now turns favour named) o2 300 h2 (single_few now turns favour named) in
    let f4 = more_few o3 (mutex_rows x) o4 (300 * 64) h4 (mutexes_few x) in
    let f5 = more_few o4 (fd_rows k) o5 (300 * 64) h5 (fds_few k) in
    let f6 = more_few o5 (codes "end\n") o6 4 h6 (omega arith) in
    omega arith
