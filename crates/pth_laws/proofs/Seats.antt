-- How often a seat is taken at a condition, as the tables of conditions change.
use Rattle.std.proofs.Common.{◌≡◌, ◌≢◌, ◌≤◌, ℕ, ◌+◌, ◌-◌, count_by, ◌||◌, Bool, true, false, cond, if◌then◌else◌, ℤ, List, [], ◌∷◌, Some, None, option_map, refl, sym, ◌∙◌, ap, arith}
use Rattle.std.specs.List.{list_any}
use Rattle.std.proofs.lemmas.List.Sums.{sum_by-cons, sum_by_push}
use Rattle.std.proofs.lemmas.Bool.{true≢false}
use Rattle.pth_base.proofs.Tables.{put_by, put_here, put_other}
use Rattle.pth_lock.specs.Objects.{object_named}
use Rattle.pth_cond.specs.declared.seats.Seat.{Seat}
use Rattle.pth_cond.specs.declared.seats.SeatMark.TheVariants.{Unmarked, One, All}
use Rattle.pth_cond.specs.declared.seats.Taken.{Taken}
use Rattle.pth_cond.specs.Seats.{is_seat, is_at, is_one_at, mark_at, has_mark, with_seat, without_seat, one_notified, all_notified, notified, handed_on}
use Rattle.pth_cond.specs.Conditions.{Condition, ConditionTable, has_seat_here, has_seat, with_seats, cond_initialised, seat_entered, seat_left, seat_handed_on, cond_notified, all_left, all_seats_left}

-- how often a seat is among these
abbrev pub taken : Seat → List Taken → ℕ
taken s ts = count_by (is_at s) ts

pub taken_cons : (s : Seat) (t : Taken) (ts : List Taken) → taken s (t ∷ ts) ≡ cond (is_at s t) 1 0 + taken s ts
taken_cons s t ts = sum_by-cons (λ x. cond (is_at s x) 1 0) t ts

any_taken : (s : Seat) (ts : List Taken) → list_any (is_at s) ts ≡ true → 1 ≤ taken s ts
any_taken s [] h = absurd (true≢false (sym h))
any_taken s (t ∷ ts) h = by_test (is_at s t) (taken_cons s t ts) (any_taken s ts) h
  where
    by_test : (b : Bool) → taken s (t ∷ ts) ≡ cond b 1 0 + taken s ts → (list_any (is_at s) ts ≡ true → 1 ≤ taken s ts) → (b || list_any (is_at s) ts) ≡ true → 1 ≤ taken s (t ∷ ts)
    by_test true same more h = omega (arith, same)
    by_test false same more h = let some = more h in omega (arith, same, some)

-- it is left
without_one : (s : Seat) (ts : List Taken) → taken s (without_seat s ts) ≡ taken s ts - 1
without_one s [] = refl
without_one s (t ∷ ts) = by_test (is_at s t) refl (without_one s ts)
  where
    by_test : (b : Bool) → is_at s t ≡ b → taken s (without_seat s ts) ≡ taken s ts - 1 → taken s (if b then ts else t ∷ without_seat s ts) ≡ taken s (t ∷ ts) - 1
    by_test true own more = let same = taken_cons s t ts ∙ ap (λ (b : Bool). cond b 1 0 + taken s ts) own in omega (arith, same)
    by_test false own more =
        let same = taken_cons s t ts ∙ ap (λ (b : Bool). cond b 1 0 + taken s ts) own in
        let left = taken_cons s t (without_seat s ts) ∙ ap (λ (b : Bool). cond b 1 0 + taken s (without_seat s ts)) own in
        omega (arith, same, left, more)

without_fewer : (s u : Seat) (ts : List Taken) → taken u (without_seat s ts) ≤ taken u ts
without_fewer s u [] = omega arith
without_fewer s u (t ∷ ts) = by_test (is_at s t) (without_fewer s u ts)
  where
    by_test : (b : Bool) → taken u (without_seat s ts) ≤ taken u ts → taken u (if b then ts else t ∷ without_seat s ts) ≤ taken u (t ∷ ts)
    by_test true more = let same = taken_cons u t ts in omega (arith, same)
    by_test false more = let same = taken_cons u t ts in let left = taken_cons u t (without_seat s ts) in omega (arith, same, left, more)

-- marks take no seat, and leave none
pub one_same : (u : Seat) (ts : List Taken) → taken u (one_notified ts) ≡ taken u ts
one_same u [] = refl
one_same u (t ∷ ts) = by_test (has_mark t) (one_same u ts)
  where
    by_test : (b : Bool) → taken u (one_notified ts) ≡ taken u ts → taken u (if b then t ∷ one_notified ts else record t { mark = One } ∷ ts) ≡ taken u (t ∷ ts)
    by_test true more = taken_cons u t (one_notified ts) ∙ ap (λ n. cond (is_at u t) 1 0 + n) more ∙ sym (taken_cons u t ts)
    by_test false more = taken_cons u (record t { mark = One }) ts ∙ sym (taken_cons u t ts)

all_same : (u : Seat) (ts : List Taken) → taken u (all_notified ts) ≡ taken u ts
all_same u [] = refl
all_same u (t ∷ ts) = by_test (has_mark t) (all_same u ts)
  where
    by_test : (b : Bool) → taken u (all_notified ts) ≡ taken u ts → taken u ((if b then t else record t { mark = All }) ∷ all_notified ts) ≡ taken u (t ∷ ts)
    by_test true more = taken_cons u t (all_notified ts) ∙ ap (λ n. cond (is_at u t) 1 0 + n) more ∙ sym (taken_cons u t ts)
    by_test false more = taken_cons u (record t { mark = All }) (all_notified ts) ∙ ap (λ n. cond (is_at u t) 1 0 + n) more ∙ sym (taken_cons u t ts)

pub notified_same : (u : Seat) (all : Bool) (ts : List Taken) → taken u (notified all ts) ≡ taken u ts
notified_same u true ts = all_same u ts
notified_same u false ts = one_same u ts

handed_same : (s u : Seat) (ts : List Taken) → taken u (handed_on s ts) ≡ taken u (without_seat s ts)
handed_same s u ts = by_test (is_one_at (mark_at s ts))
  where
    by_test : (b : Bool) → taken u (if b then one_notified (without_seat s ts) else without_seat s ts) ≡ taken u (without_seat s ts)
    by_test true = one_same u (without_seat s ts)
    by_test false = refl

-- ---- tables

-- how often it is taken at a condition
abbrev pub seats_at : Seat → Condition → ℕ
seats_at s None = 0
seats_at s (Some ts) = taken s ts

-- nobody has a seat more
abbrev pub HasFewerSeats : ConditionTable → ConditionTable → Type 0
HasFewerSeats x y = (c : ℕ) (u : Seat) → seats_at u (x c) ≤ seats_at u (y c)

-- a seat is left at a condition
abbrev pub HasLeftAt : Seat → ℕ → ConditionTable → ConditionTable → Type 0
HasLeftAt s c x y = seats_at s (x c) ≤ seats_at s (y c) - 1

pub has_some : (x : ConditionTable) (c : ℕ) (s : Seat) → has_seat x c s ≡ true → 1 ≤ seats_at s (x c)
has_some x c s h = by_condition (x c) h
  where
    by_condition : (y : Condition) → has_seat_here s y ≡ true → 1 ≤ seats_at s y
    by_condition None h = absurd (true≢false (sym h))
    by_condition (Some ts) h = any_taken s ts h

fewer_with : (k : ℕ) (change : List Taken → List Taken) (x : ConditionTable) → ((u : Seat) (ts : List Taken) → taken u (change ts) ≤ taken u ts) → HasFewerSeats (with_seats k change x) x
fewer_with k change x fewer c u = put_by (λ y. seats_at u y ≤ seats_at u (x c)) x k (option_map change (x k)) c (λ here. rw here (by_condition (x k))) (λ other. omega arith)
  where
    by_condition : (y : Condition) → seats_at u (option_map change y) ≤ seats_at u y
    by_condition None = omega arith
    by_condition (Some ts) = fewer u ts

left_with : (s : Seat) (k : ℕ) (change : List Taken → List Taken) (x : ConditionTable) → ((ts : List Taken) → taken s (change ts) ≡ taken s ts - 1) → HasLeftAt s k (with_seats k change x) x
left_with s k change x left = let here = ap (seats_at s) (put_here x k (option_map change (x k))) ∙ by_condition (x k) in omega (arith, here)
  where
    by_condition : (y : Condition) → seats_at s (option_map change y) ≡ seats_at s y - 1
    by_condition None = refl
    by_condition (Some ts) = left ts

pub seats_same : (x : ConditionTable) → HasFewerSeats x x
seats_same x c u = omega arith

pub seats_fewer : (x y z : ConditionTable) → HasFewerSeats x y → HasFewerSeats y z → HasFewerSeats x z
seats_fewer x y z one two c u = let less = one c u in let more = two c u in omega (arith, less, more)

-- a seat that is left is still left where nobody has a seat more
pub left_fewer : (s : Seat) (k : ℕ) (x y z : ConditionTable) → HasFewerSeats x y → HasLeftAt s k y z → HasLeftAt s k x z
left_fewer s k x y z fewer left = let less = fewer k s in omega (arith, less, left)

pub seats_notified : (c : ℤ) (all : Bool) (x : ConditionTable) → HasFewerSeats (cond_notified c all x) x
seats_notified c all x = fewer_with (object_named c) (notified all) x (λ u ts. let same = notified_same u all ts in omega (arith, same))

pub seats_initialised : (c : ℤ) (x : ConditionTable) → HasFewerSeats (cond_initialised c x) x
seats_initialised c x i u = put_by (λ y. seats_at u y ≤ seats_at u (x i)) x (object_named c) (Some []) i (λ here. omega arith) (λ other. omega arith)

pub seats_left : (c : ℤ) (s : Seat) (x : ConditionTable) → HasFewerSeats (seat_left c s x) x
seats_left c s x = fewer_with (object_named c) (without_seat s) x (λ u ts. without_fewer s u ts)

pub left_there : (c : ℤ) (s : Seat) (x : ConditionTable) → HasLeftAt s (object_named c) (seat_left c s x) x
left_there c s x = left_with s (object_named c) (without_seat s) x (without_one s)

pub seats_handed : (c : ℤ) (s : Seat) (x : ConditionTable) → HasFewerSeats (seat_handed_on c s x) x
seats_handed c s x = fewer_with (object_named c) (handed_on s) x (λ u ts. let same = handed_same s u ts in let fewer = without_fewer s u ts in omega (arith, same, fewer))

pub handed_there : (c : ℤ) (s : Seat) (x : ConditionTable) → HasLeftAt s (object_named c) (seat_handed_on c s x) x
handed_there c s x = left_with s (object_named c) (handed_on s) x (λ ts. handed_same s s ts ∙ without_one s ts)

pub seats_gone : (x : ConditionTable) (c : ℕ) (u : Seat) → seats_at u (all_seats_left x c) ≤ 0
seats_gone x c u = by_condition (x c)
  where
    by_condition : (y : Condition) → seats_at u (all_left y) ≤ 0
    by_condition None = omega arith
    by_condition (Some ts) = omega arith

-- one is entered
pub entered_other : (c : ℤ) (s : Seat) (x : ConditionTable) (k : ℕ) → k ≢ object_named c → seat_entered c s x k ≡ x k
entered_other c s x k apart = put_other x (object_named c) (option_map (with_seat s) (x (object_named c))) k apart

pub entered_by : (c : ℤ) (s u : Seat) (x : ConditionTable) (k : ℕ) → seats_at u (seat_entered c s x k) ≤ seats_at u (x k) + cond (is_seat s u) 1 0
entered_by c s u x k = put_by (λ y. seats_at u y ≤ seats_at u (x k) + cond (is_seat s u) 1 0) x (object_named c) (option_map (with_seat s) (x (object_named c))) k (λ here. rw here (by_condition (x (object_named c)))) (λ other. omega arith)
  where
    by_condition : (y : Condition) → seats_at u (option_map (with_seat s) y) ≤ seats_at u y + cond (is_seat s u) 1 0
    by_condition None = omega arith
    by_condition (Some ts) = let same = sum_by_push (λ t. cond (is_at u t) 1 0) ts (record { seat = s; mark = Unmarked }) in omega (arith, same)
