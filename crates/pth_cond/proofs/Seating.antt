-- The seats of a condition before and after a call.
use Rattle.std.proofs.Common.{◌≡◌, ℕ, zero, suc, ◌+◌, ◌-◌, ◌<◌, ◌≤◌, Bool, true, false, not, if◌then◌else◌, List, [], ◌∷◌, ◌++◌, length, get_or, set, map, take, drop, Option, Some, None, refl, sym, ◌∙◌, ap, position, nat_lt, append-nil, length-append, length-drop, arith, ◌||◌}
use Rattle.pth_cond.specs.declared.seats.SeatMark.{SeatMark}
use Rattle.std.specs.List.{list_any, remove, position_or_len}
use Rattle.std.proofs.lemmas.List.{length-map, length-take-le, take-append-le, get_or-append_right, get_or-drop, get_or_default, take_all, drop_all}
use Rattle.std.proofs.lemmas.List.Edits.{map_over_more}
use Rattle.std.proofs.lemmas.List.Quantifiers.{position-Some}
use Rattle.std.proofs.lemmas.List.Sums.{sum_by-cons, sum_by-remove, sum_by_push, count_by-le-length, fails_before_first}
use Rattle.std.proofs.lemmas.Bool.Decides.{nat_tests}
use Rattle.std.proofs.lemmas.Bool.{true≢false, not-true}
use Rattle.pth_cond.specs.declared.seats.Seat.{Seat}
use Rattle.pth_cond.specs.declared.seats.SeatMark.TheVariants.{Unmarked, One, All}
use Rattle.pth_cond.specs.declared.seats.Taken.{Taken}
use Rattle.pth_cond.specs.Seats.{is_at, has_mark, marks, marks_stand_first, mark_at, with_seat, without_seat, one_notified, all_notified, notified, handed_on, is_one_at, SeatsAreKept, is_marked_at, is_mark}

pub cases : {P : Type 0} (b : Bool) → (b ≡ true → P) → (b ≡ false → P) → P
cases true whole empty = whole refl
cases false whole empty = empty refl

-- a list that was written back as the front of a longer one
pub written_back : (news rest : List Taken) (n : ℕ) → length news ≡ n → take n (news ++ rest) ≡ news
written_back news rest n long = take-append-le n news rest (omega arith) ∙ take_all n news (omega arith)

-- ---- counts

pub marks_cons : (t : Taken) (ts : List Taken) → marks (t ∷ ts) ≡ (if has_mark t then 1 else 0) + marks ts
marks_cons t ts = sum_by-cons (λ x. if has_mark x then 1 else 0) t ts

marks_more : (t : Taken) (ts : List Taken) → has_mark t ≡ true → marks (t ∷ ts) ≡ suc (marks ts)
marks_more t ts e = marks_cons t ts ∙ rw e (omega arith)

marks_same : (t : Taken) (ts : List Taken) → has_mark t ≡ false → marks (t ∷ ts) ≡ marks ts
marks_same t ts e = marks_cons t ts ∙ rw e (omega arith)

-- ---- lists in which nobody has a mark

none_rest : (t : Taken) (ts : List Taken) → list_any has_mark (t ∷ ts) ≡ false → (has_mark t ≡ false) × (list_any has_mark ts ≡ false)
none_rest t ts none = cases (has_mark t)
    (λ e. let h : true ≡ false = rw e at none in absurd (true≢false h))
    (λ e. (e, rw e at none))

none_counted : (ts : List Taken) → list_any has_mark ts ≡ false → marks ts ≡ 0
none_counted [] none = refl
none_counted (t ∷ ts) none = let rest = none_rest t ts none in marks_same t ts rest.0 ∙ none_counted ts rest.1

none_first : (ts : List Taken) → list_any has_mark ts ≡ false → marks_stand_first ts ≡ true
none_first [] none = refl
none_first (t ∷ ts) none = let rest = none_rest t ts none in rw rest.0 (ap not rest.1)

-- ---- the order of marks, one seat at a time

first_rest : (t : Taken) (ts : List Taken) → has_mark t ≡ true → marks_stand_first (t ∷ ts) ≡ true → marks_stand_first ts ≡ true
first_rest t ts e order = rw e at order

first_none : (t : Taken) (ts : List Taken) → has_mark t ≡ false → marks_stand_first (t ∷ ts) ≡ true → list_any has_mark ts ≡ false
first_none t ts e order = not-true (list_any has_mark ts) (rw e at order)

order_more : (t : Taken) (ts : List Taken) → has_mark t ≡ true → marks_stand_first ts ≡ true → marks_stand_first (t ∷ ts) ≡ true
order_more t ts e order = rw e order

order_none : (t : Taken) (ts : List Taken) → list_any has_mark ts ≡ false → marks_stand_first (t ∷ ts) ≡ true
order_none t ts none = cases (has_mark t) (λ e. rw e (none_first ts none)) (λ e. rw e (ap not none))

-- ---- a seat is entered

module _ (s : Seat) where
  any_entered : (ts : List Taken) → list_any has_mark (with_seat s ts) ≡ list_any has_mark ts
  any_entered [] = refl
  any_entered (t ∷ ts) = rw (any_entered ts)

  pub order_entered : (ts : List Taken) → marks_stand_first ts ≡ true → marks_stand_first (with_seat s ts) ≡ true
  order_entered [] order = refl
  order_entered (t ∷ ts) order = cases (has_mark t)
      (λ e. order_more t (with_seat s ts) e (order_entered ts (first_rest t ts e order)))
      (λ e. order_none t (with_seat s ts) (any_entered ts ∙ first_none t ts e order))

  pub kept_entered : (n : ℕ) (ts : List Taken) → SeatsAreKept n ts → SeatsAreKept n (with_seat s ts)
  kept_entered n ts kept = record {
    count = let push = sum_by_push (λ x. if has_mark x then 1 else 0) ts (record { seat = s; mark = Unmarked }) in push ∙ omega (arith, kept.count);
    order = order_entered ts kept.order;
  }

-- ---- a seat is left

-- the first of a seat stands at i
pub record IsLeftAt (s : Seat) (ts : List Taken) (i : ℕ) (t : Taken) : Type 0 where
  pub left : without_seat s ts ≡ remove ts i
  pub mark : mark_at s ts ≡ Some t.mark

module _ (s : Seat) where
  at_first : (ts : List Taken) (i : ℕ) (d : Taken) → i < length ts → is_at s (get_or ts i d) ≡ true → ((k : ℕ) → k < i → is_at s (get_or ts k d) ≡ false) → IsLeftAt s ts i (get_or ts i d)
  at_first [] i d low here before = absurd (omega arith)
  at_first (t ∷ ts) zero d low here before = record { left = rw here; mark = rw here }
  at_first (t ∷ ts) (suc i) d low here before =
      let apart : is_at s t ≡ false = before 0 (omega arith) in
      let rest = at_first ts i d (omega arith) here (λ k lower. before (suc k) (omega arith)) in
      record { left = rw apart (ap (λ (xs : List Taken). t ∷ xs) rest.left); mark = rw apart rest.mark }

  pub left_at : (ts : List Taken) (i : ℕ) (d : Taken) → position (is_at s) ts ≡ Some i → IsLeftAt s ts i (get_or ts i d)
  left_at ts i d is = let found = position-Some (is_at s) ts i d is in at_first ts i d found.0 found.1 found.2

  not_first : (ts : List Taken) (d : Taken) → ((k : ℕ) → k < length ts → is_at s (get_or ts k d) ≡ false) → (without_seat s ts ≡ ts) × (mark_at s ts ≡ None)
  not_first [] d none = (refl, refl)
  not_first (t ∷ ts) d none =
      let apart : is_at s t ≡ false = none 0 (omega arith) in
      let rest = not_first ts d (λ k low. none (suc k) (omega arith)) in
      (rw apart (ap (λ (xs : List Taken). t ∷ xs) rest.0), rw apart rest.1)

  any_left : (ts : List Taken) → list_any has_mark ts ≡ false → list_any has_mark (without_seat s ts) ≡ false
  any_left [] none = refl
  any_left (t ∷ ts) none =
      let rest = none_rest t ts none in
      cases (is_at s t) (λ e. rw e rest.1) (λ e. rw (e, rest.0) (any_left ts rest.1))

  pub order_left : (ts : List Taken) → marks_stand_first ts ≡ true → marks_stand_first (without_seat s ts) ≡ true
  order_left [] order = refl
  order_left (t ∷ ts) order = cases (has_mark t)
      (λ e. let rest = first_rest t ts e order in cases (is_at s t) (λ here. rw here rest) (λ apart. rw apart (order_more t (without_seat s ts) e (order_left ts rest))))
      (λ e. let none = first_none t ts e order in cases (is_at s t) (λ here. rw here (none_first ts none)) (λ apart. rw apart (order_none t (without_seat s ts) (any_left ts none))))

-- where it stands in a list that was read as a slice
pub place_is : (s : Seat) {ts us : List Taken} {r o : Option ℕ} → us ≡ ts → r ≡ position (is_at s) us → r ≡ o → position (is_at s) ts ≡ o
place_is s same found is = ap (position (is_at s)) (sym same) ∙ sym found ∙ is

-- it had a mark, or had none
module _ (s : Seat) (n : ℕ) (ts : List Taken) (kept : SeatsAreKept n ts) (i : ℕ) (d : Taken) (is : position (is_at s) ts ≡ Some i) where
  removed : marks (remove ts i) + (if has_mark (get_or ts i d) then 1 else 0) ≡ n
  removed = let low = (position-Some (is_at s) ts i d is).0 in sum_by-remove (λ x. if has_mark x then 1 else 0) ts i d low ∙ kept.count

  order_removed : marks_stand_first (remove ts i) ≡ true
  order_removed = ap marks_stand_first (sym (left_at s ts i d is).left) ∙ order_left s ts kept.order

  module _ (e : has_mark (get_or ts i d) ≡ true) where
    removed_marked : marks (remove ts i) + 1 ≡ n
    removed_marked = rw e at removed

    pub kept_marked : SeatsAreKept (n - 1) (remove ts i)
    kept_marked = record { count = let h = removed_marked in omega arith; order = order_removed }

  module _ (e : has_mark (get_or ts i d) ≡ false) where
    pub kept_unmarked : SeatsAreKept n (remove ts i)
    kept_unmarked = record { count = let h : marks (remove ts i) + 0 ≡ n = rw e at removed in omega arith; order = order_removed }

-- nobody has it
not_below : (p : Taken → Bool) (ts : List Taken) → position p ts ≡ None → length ts ≤ position_or_len p ts
not_below p ts none = cases (nat_lt (position_or_len p ts) (length ts))
    (λ e. let h : Some (position_or_len p ts) ≡ None = rw e at none in cc)
    (λ e. grind (arith, nat_tests))

pub not_left : (s : Seat) (ts : List Taken) → position (is_at s) ts ≡ None → (without_seat s ts ≡ ts) × (mark_at s ts ≡ None)
not_left s ts none =
    let past = not_below (is_at s) ts none in
    let other : Taken = record { seat = s; mark = Unmarked } in
    not_first s ts other (λ k low. fails_before_first (is_at s) ts k other (omega arith))

-- ---- the first without a mark is notified

pub one_set : (ts : List Taken) (n : ℕ) (d : Taken) → marks ts ≡ n → marks_stand_first ts ≡ true → n < length ts → set ts n (record (get_or ts n d) { mark = One }) ≡ one_notified ts
one_set [] n d count order low = absurd (omega arith)
one_set (t ∷ ts) zero d count order low = cases (has_mark t)
    (λ e. let more = marks_more t ts e in absurd (omega arith))
    (λ e. rw e)
one_set (t ∷ ts) (suc n) d count order low = cases (has_mark t)
    (λ e. let more = marks_more t ts e in rw e (ap (λ (xs : List Taken). t ∷ xs) (one_set ts n d (omega arith) (first_rest t ts e order) (omega arith))))
    (λ e. let same = marks_same t ts e in let none = none_counted ts (first_none t ts e order) in absurd (omega arith))

-- each has a mark
pub one_past : (ts : List Taken) → length ts ≤ marks ts → one_notified ts ≡ ts
one_past [] all = refl
one_past (t ∷ ts) all = cases (has_mark t)
    (λ e. let more = marks_more t ts e in rw e (ap (λ (xs : List Taken). t ∷ xs) (one_past ts (omega arith))))
    (λ e. let same = marks_same t ts e in let most = count_by-le-length has_mark ts in absurd (omega arith))

pub one_more : (t : Taken) (ts : List Taken) → has_mark t ≡ true → one_notified (t ∷ ts) ≡ t ∷ one_notified ts
one_more t ts e = rw e

pub one_here : (t : Taken) (ts : List Taken) → has_mark t ≡ false → one_notified (t ∷ ts) ≡ record t { mark = One } ∷ ts
one_here t ts e = rw e

one_counted : (ts : List Taken) → marks ts < length ts → marks (one_notified ts) ≡ marks ts + 1
one_counted [] low = absurd (omega arith)
one_counted (t ∷ ts) low = cases (has_mark t)
    (λ e. let more = marks_more t ts e in let rest = one_counted ts (omega arith) in ap marks (one_more t ts e) ∙ marks_more t (one_notified ts) e ∙ omega arith)
    (λ e. let same = marks_same t ts e in ap marks (one_here t ts e) ∙ marks_more (record t { mark = One }) ts refl ∙ omega arith)

pub order_one : (ts : List Taken) → marks_stand_first ts ≡ true → marks_stand_first (one_notified ts) ≡ true
order_one [] order = refl
order_one (t ∷ ts) order = cases (has_mark t)
    (λ e. rw e (order_more t (one_notified ts) e (order_one ts (first_rest t ts e order))))
    (λ e. rw e (none_first ts (first_none t ts e order)))

length_one : (ts : List Taken) → length (one_notified ts) ≡ length ts
length_one [] = refl
length_one (t ∷ ts) = cases (has_mark t)
    (λ e. ap length (one_more t ts e) ∙ ap suc (length_one ts))
    (λ e. ap length (one_here t ts e))

pub kept_one : (n : ℕ) (ts : List Taken) → SeatsAreKept n ts → n < length ts → SeatsAreKept (n + 1) (one_notified ts)
kept_one n ts kept low = record {
  count = let count = kept.count in one_counted ts (omega arith) ∙ omega arith;
  order = order_one ts kept.order;
}

-- as it is written back
pub written_one : (n long : ℕ) (ts news rest : List Taken) → SeatsAreKept n ts → n < length ts → length ts ≡ long → news ≡ one_notified ts → SeatsAreKept (n + 1) (take long (news ++ rest))
written_one n long ts news rest kept low same is =
    let e = written_back news rest long (ap length is ∙ length_one ts ∙ same) ∙ is in
    rw e (kept_one n ts kept low)

-- ---- each without a mark is notified

abbrev pub marked_all : Taken → Taken
marked_all t = if has_mark t then t else record t { mark = All }

has_all : (t : Taken) → has_mark (marked_all t) ≡ true
has_all t = cases (has_mark t) (λ e. rw e e) (λ e. rw e)

pub kept_all : (ts : List Taken) → SeatsAreKept (length ts) (all_notified ts)
kept_all [] = record { count = refl; order = refl }
kept_all (t ∷ ts) =
    let rest = kept_all ts in
    let more = marks_more (marked_all t) (all_notified ts) (has_all t) in
    record { count = let count = rest.count in more ∙ omega arith; order = order_more (marked_all t) (all_notified ts) (has_all t) rest.order }

-- as it is written back
pub written_all : (long : ℕ) (ts news rest : List Taken) → length ts ≡ long → news ≡ all_notified ts → SeatsAreKept long (take long (news ++ rest))
written_all long ts news rest same is =
    let e = written_back news rest long (ap length is ∙ length-map ts (λ t. marked_all t) ∙ same) ∙ is in
    rw (e, ← same) (kept_all ts)

-- before the first without a mark nothing changes
pub all_none : (ts : List Taken) (n : ℕ) → marks ts ≡ n → marks_stand_first ts ≡ true → ts ≡ map marked_all (take n ts) ++ drop n ts
all_none ts zero count order = refl
all_none [] (suc n) count order = refl
all_none (t ∷ ts) (suc n) count order = cases (has_mark t)
    (λ e. let more = marks_more t ts e in rw e (ap (λ (xs : List Taken). t ∷ xs) (all_none ts n (omega arith) (first_rest t ts e order))))
    (λ e. let same = marks_same t ts e in let none = none_counted ts (first_none t ts e order) in absurd (omega arith))

none_anywhere : (ts : List Taken) (i : ℕ) (d : Taken) → list_any has_mark ts ≡ false → i < length ts → has_mark (get_or ts i d) ≡ false
none_anywhere [] i d none low = absurd (omega arith)
none_anywhere (t ∷ ts) zero d none low = (none_rest t ts none).0
none_anywhere (t ∷ ts) (suc i) d none low = none_anywhere ts i d (none_rest t ts none).1 (omega arith)

unmarked_at : (ts : List Taken) (i : ℕ) (d : Taken) → marks_stand_first ts ≡ true → marks ts ≤ i → i < length ts → has_mark (get_or ts i d) ≡ false
unmarked_at [] i d order from low = absurd (omega arith)
unmarked_at (t ∷ ts) zero d order from low = cases (has_mark t)
    (λ e. let more = marks_more t ts e in absurd (omega arith))
    (λ e. e)
unmarked_at (t ∷ ts) (suc i) d order from low = cases (has_mark t)
    (λ e. let more = marks_more t ts e in unmarked_at ts i d (first_rest t ts e order) (omega arith) (omega arith))
    (λ e. none_anywhere ts i d (first_none t ts e order) (omega arith))

-- one more is notified
module _ (ts us : List Taken) (i : ℕ) (d : Taken) (order : marks_stand_first ts ≡ true) (from : marks ts ≤ i) (low : i < length ts) (now : us ≡ map marked_all (take i ts) ++ drop i ts) where
  long : length (map marked_all (take i ts)) ≡ i
  long = length-map (take i ts) marked_all ∙ length-take-le i ts (omega arith)

  here : get_or us i d ≡ get_or ts i d
  here = ap (λ (xs : List Taken). get_or xs i d) now ∙ get_or-append_right (map marked_all (take i ts)) (drop i ts) i i d long (omega arith) ∙ get_or-drop i ts (i - i) d ∙ ap (λ (k : ℕ). get_or ts k d) (omega arith)

  pub all_more : set us i (record (get_or us i d) { mark = All }) ≡ map marked_all (take (i + 1) ts) ++ drop (i + 1) ts
  all_more =
      let none : has_mark (get_or us i d) ≡ false = ap has_mark here ∙ unmarked_at ts i d order from low in
      let is : marked_all (get_or us i d) ≡ record (get_or us i d) { mark = All } = rw none in
      let same : length us ≡ length ts = ap length now ∙ simp (length-append, length-map) (omega (arith, length-take-le i ts (omega arith), length-drop i ts)) in
      ap (set us i) (sym is) ∙ map_over_more marked_all ts us i (get_or us i d) low now (get_or_default us i d (get_or us i d) (omega arith))

pub all_end : (ts us : List Taken) (i : ℕ) → length ts ≤ i → us ≡ map marked_all (take i ts) ++ drop i ts → us ≡ all_notified ts
all_end ts us i end now = now ∙ rw (take_all, drop_all) (append-nil (map marked_all ts))

pub order_notified : (all : Bool) (ts : List Taken) → marks_stand_first ts ≡ true → marks_stand_first (notified all ts) ≡ true
order_notified true ts order = (kept_all ts).order
order_notified false ts order = order_one ts order

pub order_handed_on : (s : Seat) (ts : List Taken) → marks_stand_first ts ≡ true → marks_stand_first (handed_on s ts) ≡ true
order_handed_on s ts order = cases (is_one_at (mark_at s ts))
    (λ e. rw e (order_one (without_seat s ts) (order_left s ts order)))
    (λ e. rw e (order_left s ts order))

-- ---- a seat has a mark exactly if it stands among those that have one

-- one seat more, with what is known of the others
none_marked_by : (at marked : Bool) (n : SeatMark) (o : Option SeatMark) (any : Bool) → is_mark n ≡ marked → (marked || any) ≡ false → (any ≡ false → is_marked_at o ≡ false) → is_marked_at (if at then Some n else o) ≡ false
none_marked_by at true n o any is none rest = absurd (cc none)
none_marked_by true false n o any is none rest = is
none_marked_by false false n o any is none rest = rest none

none_marked : (s : Seat) (ts : List Taken) → list_any has_mark ts ≡ false → is_marked_at (mark_at s ts) ≡ false
none_marked s [] none = refl
none_marked s (t ∷ ts) none = none_marked_by (is_at s t) (has_mark t) t.mark (mark_at s ts) (list_any has_mark ts) refl none (none_marked s ts)

more_first : (at : Bool) (n : SeatMark) (o : Option SeatMark) (any : Bool) → is_mark n ≡ true → any ≡ is_marked_at o → (at || any) ≡ is_marked_at (if at then Some n else o)
more_first true n o any marked same = sym marked
more_first false n o any marked same = same

pub marked_first : (s : Seat) (ts : List Taken) → marks_stand_first ts ≡ true → list_any (is_at s) (take (marks ts) ts) ≡ is_marked_at (mark_at s ts)
marked_first s [] order = refl
marked_first s (t ∷ ts) order = by_mark (has_mark t) refl (marked_first s ts)
  where
    by_mark : (b : Bool) → has_mark t ≡ b → (marks_stand_first ts ≡ true → list_any (is_at s) (take (marks ts) ts) ≡ is_marked_at (mark_at s ts)) → list_any (is_at s) (take (marks (t ∷ ts)) (t ∷ ts)) ≡ is_marked_at (mark_at s (t ∷ ts))
    by_mark true e rest =
        let others = rest (rw e at order) in
        rw (marks_more t ts e) (more_first (is_at s t) t.mark (mark_at s ts) (list_any (is_at s) (take (marks ts) ts)) e others)
    by_mark false e rest =
        let none = not-true (list_any has_mark ts) (rw e at order) in
        let few : marks (t ∷ ts) ≡ 0 = marks_same t ts e ∙ none_counted ts none in
        rw few (sym (none_marked s (t ∷ ts) (rw e none)))
