-- How many seats have which mark, after one was handed on.
use Rattle.std.proofs.Common.{◌≡◌, ◌≢◌, ℕ, ◌+◌, ◌<◌, Bool, true, false, not, if◌then◌else◌, List, [], ◌∷◌, Option, Some, None, refl, ◌∙◌, ap, count_by, inl, inr, arith}
use Rattle.std.proofs.lemmas.Bool.{cases_lt}
use Rattle.std.proofs.lemmas.List.Sums.{sum_by-cons}
use Rattle.pth_cond.specs.declared.seats.Seat.{Seat}
use Rattle.pth_cond.specs.declared.seats.SeatMark.{SeatMark}
use Rattle.pth_cond.specs.declared.seats.SeatMark.TheVariants.{Unmarked, One, All}
use Rattle.pth_cond.specs.declared.seats.Taken.{Taken}
use Rattle.pth_cond.specs.Seats.{is_at, is_mark, is_one, is_all, has_mark, is_one_at, mark_at, without_seat, one_notified, handed_on, seats_with_one, seats_with_all, unmarked, HandingOnKeepsOnes}
use Rattle.pth_cond.proofs.Seating.{cases, one_more, one_here}

no_mark : (n : SeatMark) → is_mark n ≡ false → n ≡ Unmarked
no_mark Unmarked none = refl
no_mark One none = cc
no_mark All none = cc

-- ---- how many seats have no mark

unmarked_cons : (t : Taken) (ts : List Taken) → unmarked (t ∷ ts) ≡ (if not (has_mark t) then 1 else 0) + unmarked ts
unmarked_cons t ts = sum_by-cons (λ x. if not (has_mark x) then 1 else 0) t ts

unmarked_same : (t : Taken) (ts : List Taken) → has_mark t ≡ true → unmarked (t ∷ ts) ≡ unmarked ts
unmarked_same t ts e = unmarked_cons t ts ∙ rw e (omega arith)

unmarked_more : (t : Taken) (ts : List Taken) → has_mark t ≡ false → unmarked (t ∷ ts) ≡ 1 + unmarked ts
unmarked_more t ts e = unmarked_cons t ts ∙ rw e

-- where each has a mark, nobody is notified
one_none : (ts : List Taken) → unmarked ts ≡ 0 → one_notified ts ≡ ts
one_none [] none = refl
one_none (t ∷ ts) none = cases (has_mark t)
    (λ e. let same = unmarked_same t ts e in one_more t ts e ∙ ap (λ (xs : List Taken). t ∷ xs) (one_none ts (omega arith)))
    (λ e. let more = unmarked_more t ts e in absurd (omega arith))

-- ---- a test of marks

module _ (test : SeatMark → Bool) where
  abbrev counted : List Taken → ℕ
  counted ts = count_by (λ t. test t.mark) ts

  abbrev weight : Option SeatMark → ℕ
  weight (Some n) = if test n then 1 else 0
  weight None = 0

  counted_cons : (t : Taken) (ts : List Taken) → counted (t ∷ ts) ≡ (if test t.mark then 1 else 0) + counted ts
  counted_cons t ts = sum_by-cons (λ x. if test x.mark then 1 else 0) t ts

  left_here : (s : Seat) (t : Taken) (ts : List Taken) → is_at s t ≡ true → counted (without_seat s (t ∷ ts)) + weight (mark_at s (t ∷ ts)) ≡ counted (t ∷ ts)
  left_here s t ts e =
      let left : without_seat s (t ∷ ts) ≡ ts = rw e in
      let mark : mark_at s (t ∷ ts) ≡ Some t.mark = rw e in
      rw (left, mark) (omega (arith, counted_cons t ts))

  left_behind : (s : Seat) (t : Taken) (ts : List Taken) → is_at s t ≡ false → counted (without_seat s ts) + weight (mark_at s ts) ≡ counted ts → counted (without_seat s (t ∷ ts)) + weight (mark_at s (t ∷ ts)) ≡ counted (t ∷ ts)
  left_behind s t ts e rest =
      let left : without_seat s (t ∷ ts) ≡ t ∷ without_seat s ts = rw e in
      let mark : mark_at s (t ∷ ts) ≡ mark_at s ts = rw e in
      rw (left, mark) (omega (arith, counted_cons t ts, counted_cons t (without_seat s ts)))

  -- a seat that is left takes its mark along
  counted_left : (s : Seat) (ts : List Taken) → counted (without_seat s ts) + weight (mark_at s ts) ≡ counted ts
  counted_left s [] = refl
  counted_left s (t ∷ ts) = cases (is_at s t) (left_here s t ts) (λ e. left_behind s t ts e (counted_left s ts))

  one_behind : (t : Taken) (ts : List Taken) → has_mark t ≡ true → counted (one_notified ts) + weight (Some Unmarked) ≡ counted ts + weight (Some One) → counted (one_notified (t ∷ ts)) + weight (Some Unmarked) ≡ counted (t ∷ ts) + weight (Some One)
  one_behind t ts e rest = rw (one_more t ts e) (omega (arith, counted_cons t ts, counted_cons t (one_notified ts)))

  one_first : (t : Taken) (ts : List Taken) → has_mark t ≡ false → counted (one_notified (t ∷ ts)) + weight (Some Unmarked) ≡ counted (t ∷ ts) + weight (Some One)
  one_first t ts e =
      let none : t.mark ≡ Unmarked = no_mark t.mark e in
      let before : counted (t ∷ ts) ≡ weight (Some Unmarked) + counted ts = counted_cons t ts ∙ ap (λ (n : SeatMark). weight (Some n) + counted ts) none in
      let after : counted (record t { mark = One } ∷ ts) ≡ weight (Some One) + counted ts = counted_cons (record t { mark = One }) ts in
      rw (one_here t ts e) (omega arith)

  -- the first without a mark has the mark One
  counted_one : (ts : List Taken) → 0 < unmarked ts → counted (one_notified ts) + weight (Some Unmarked) ≡ counted ts + weight (Some One)
  counted_one [] some = absurd (omega arith)
  counted_one (t ∷ ts) some = cases (has_mark t)
      (λ e. let same = unmarked_same t ts e in one_behind t ts e (counted_one ts (omega arith)))
      (λ e. one_first t ts e)

-- ---- a seat with the mark One is handed on

module _ (s : Seat) (ts : List Taken) (mark : mark_at s ts ≡ Some One) where
  given_on : handed_on s ts ≡ one_notified (without_seat s ts)
  given_on = rw mark

  others_unmarked : unmarked (without_seat s ts) ≡ unmarked ts
  others_unmarked = let h = rw mark at (counted_left (λ n. not (is_mark n)) s ts) in omega arith

  one_less : seats_with_one (without_seat s ts) + 1 ≡ seats_with_one ts
  one_less = rw mark at (counted_left is_one s ts)

  all_stay : seats_with_all (without_seat s ts) ≡ seats_with_all ts
  all_stay = let h = rw mark at (counted_left is_all s ts) in omega arith

  module _ (some : 0 < unmarked ts) where
    some_left : 0 < unmarked (without_seat s ts)
    some_left = let same = others_unmarked in omega arith

    pub kept : seats_with_one (handed_on s ts) ≡ seats_with_one ts
    kept =
        let less = one_less in
        let more = counted_one is_one (without_seat s ts) some_left in
        ap seats_with_one given_on ∙ omega arith

    pub given : unmarked (handed_on s ts) + 1 ≡ unmarked ts
    given =
        let same = others_unmarked in
        let fewer = counted_one (λ n. not (is_mark n)) (without_seat s ts) some_left in
        rw given_on (omega arith)

    all_given : seats_with_all (handed_on s ts) ≡ seats_with_all ts
    all_given =
        let same = all_stay in
        let more = counted_one is_all (without_seat s ts) some_left in
        ap seats_with_all given_on ∙ omega arith

  module _ (none : unmarked ts ≡ 0) where
    not_given : handed_on s ts ≡ without_seat s ts
    not_given = given_on ∙ one_none (without_seat s ts) (others_unmarked ∙ none)

    pub lost : seats_with_one (handed_on s ts) + 1 ≡ seats_with_one ts
    lost = rw not_given one_less

    all_not_given : seats_with_all (handed_on s ts) ≡ seats_with_all ts
    all_not_given = ap seats_with_all not_given ∙ all_stay

  all_anyway : seats_with_all (handed_on s ts) ≡ seats_with_all ts
  all_anyway = elim (cases_lt 0 (unmarked ts)) [ inl some ↦ all_given some | inr none ↦ all_not_given (omega arith) ]

-- ---- a seat with another mark, or none

one_was : (o : Option SeatMark) → o ≢ Some One → (is_one_at o ≡ false) × (weight is_one o ≡ 0)
one_was (Some Unmarked) other = (refl, refl)
one_was (Some One) other = absurd (other refl)
one_was (Some All) other = (refl, refl)
one_was None other = (refl, refl)

all_was : (o : Option SeatMark) → o ≢ Some All → weight is_all o ≡ 0
all_was (Some Unmarked) other = refl
all_was (Some One) other = refl
all_was (Some All) other = absurd (other refl)
all_was None other = refl

module _ (s : Seat) (ts : List Taken) where
  kept_on : is_one_at (mark_at s ts) ≡ false → handed_on s ts ≡ without_seat s ts
  kept_on other = rw other

  pub others : mark_at s ts ≢ Some One → seats_with_one (handed_on s ts) ≡ seats_with_one ts
  others other =
      let none = one_was (mark_at s ts) other in
      let left = counted_left is_one s ts in
      ap seats_with_one (kept_on none.0) ∙ omega (arith, none.1)

  all_other : is_one_at (mark_at s ts) ≡ false → mark_at s ts ≢ Some All → seats_with_all (handed_on s ts) ≡ seats_with_all ts
  all_other kept other =
      let none = all_was (mark_at s ts) other in
      let left = counted_left is_all s ts in
      ap seats_with_all (kept_on kept) ∙ omega arith

was_one_is : (o : Option SeatMark) → is_one_at o ≡ true → o ≡ Some One
was_one_is (Some Unmarked) one = cc
was_one_is (Some One) one = refl
was_one_is (Some All) one = cc
was_one_is None one = cc

all_handed_on : (s : Seat) (ts : List Taken) → mark_at s ts ≢ Some All → seats_with_all (handed_on s ts) ≡ seats_with_all ts
all_handed_on s ts other = cases (is_one_at (mark_at s ts))
    (λ e. all_anyway s ts (was_one_is (mark_at s ts) e))
    (λ e. all_other s ts e other)

pub handing_on : HandingOnKeepsOnes
handing_on = record { kept = kept; given = given; lost = lost; others = others; stays = all_handed_on }
