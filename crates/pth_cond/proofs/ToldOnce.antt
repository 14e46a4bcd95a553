-- That a thread was the first of a round is told once.
use Rattle.std.proofs.Common.{◌≡◌, ℕ, ◌==◌, Bool, true, false, not, ◌&&◌, if◌then◌else◌, List, [], ◌∷◌, refl, sym, ◌∙◌, ap}
use Rattle.std.proofs.lemmas.List.Elements.{All-nil, All-cons, All-head, All-tail, All-push, All-filter}
use Rattle.pth_base.proofs.Tables.{same_means, same_self}
use Rattle.pth_cond.specs.Barriers.{Arrived, is_headlight, answered, without_thread, made_late, late_behind}
use Rattle.pth_cond.specs.Rounds.{AreLate, FirstIsToldOnce}

-- an arrival that is late, if it is of a round
abbrev IsLate : ℕ → Arrived → Type 0
IsLate round a = a.round ≡ round → a.late ≡ true

fewer_late : (t round : ℕ) (xs : List Arrived) → AreLate round xs → AreLate round (without_thread t xs)
fewer_late t round xs late = All-filter (λ (a : Arrived). not (a.tid == t)) (IsLate round) xs late

-- ---- marks

one_late : (round : ℕ) (b : Bool) (a : Arrived) → (a.round == round) ≡ b → IsLate round (if b then record a { late = true } else a)
one_late round true a same = λ _. refl
one_late round false a apart = λ is. let no : false ≡ true = sym apart ∙ ap (λ (n : ℕ). n == round) is ∙ same_self round in absurd (cc)

all_late : (round : ℕ) (xs : List Arrived) → AreLate round (made_late round xs)
all_late round [] = All-nil (IsLate round)
all_late round (a ∷ xs) = All-cons (IsLate round) _ _ (one_late round (a.round == round) a refl) (all_late round xs)

still_late : (round other : ℕ) (b : Bool) (a : Arrived) → IsLate round a → IsLate round (if b then record a { late = true } else a)
still_late round other true a late = λ _. refl
still_late round other false a late = late

more_late : (round other : ℕ) (xs : List Arrived) → AreLate round xs → AreLate round (made_late other xs)
more_late round other [] late = All-nil (IsLate round)
more_late round other (a ∷ xs) late = All-cons (IsLate round) _ _ (still_late round other (a.round == other) a (All-head (IsLate round) a xs late)) (more_late round other xs (All-tail (IsLate round) a xs late))

either_late : (t round other : ℕ) (b : Bool) (xs : List Arrived) → AreLate round xs → AreLate round (late_behind t other xs) → AreLate round (if b then made_late other xs else late_behind t other xs)
either_late t round other true xs late behind = more_late round other xs late
either_late t round other false xs late behind = behind

behind_late : (t round other : ℕ) (xs : List Arrived) → AreLate round xs → AreLate round (late_behind t other xs)
behind_late t round other [] late = All-nil (IsLate round)
behind_late t round other (a ∷ xs) late =
    let rest = All-tail (IsLate round) a xs late in
    All-cons (IsLate round) _ _ (All-head (IsLate round) a xs late) (either_late t round other (a.tid == t) xs rest (behind_late t round other xs rest))

-- ---- the first of a round

-- one at the front, by whether it is this thread's and whether it is of the round
given_front : (t round : ℕ) (a : Arrived) (xs : List Arrived) (its ours : Bool) → (a.tid == t) ≡ its → (a.round == round) ≡ ours → is_headlight t round (a ∷ xs) ≡ true → (is_headlight t round xs ≡ true → AreLate round (answered t round xs)) → AreLate round (answered t round (a ∷ xs))
given_front t round a xs true ours its of first rest = rw its (fewer_late t round (made_late round xs) (all_late round xs))
given_front t round a xs false true its of first rest = let no : false ≡ true = rw (of, its) at first in absurd (cc)
given_front t round a xs false false its of first rest =
    let later : is_headlight t round xs ≡ true = rw of at first in
    let apart : IsLate round a = one_late round false a of in
    rw its (All-cons (IsLate round) a (answered t round xs) apart (rest later))

given_first : (t round : ℕ) (xs : List Arrived) → is_headlight t round xs ≡ true → AreLate round (answered t round xs)
given_first t round [] first = All-nil (IsLate round)
given_first t round (a ∷ xs) first = given_front t round a xs (a.tid == t) (a.round == round) refl refl first (given_first t round xs)

none_front : (t round : ℕ) (a : Arrived) (xs : List Arrived) (ours : Bool) → (a.round == round) ≡ ours → IsLate round a → is_headlight t round xs ≡ false → is_headlight t round (a ∷ xs) ≡ false
none_front t round a xs true of late rest = let is : a.late ≡ true = late (same_means a.round round of) in rw (of, is) (and_false (a.tid == t))
  where
    and_false : (b : Bool) → (b && false) ≡ false
    and_false true = refl
    and_false false = refl
none_front t round a xs false of late rest = rw of rest

none_first : (t round : ℕ) (xs : List Arrived) → AreLate round xs → is_headlight t round xs ≡ false
none_first t round [] late = refl
none_first t round (a ∷ xs) late = none_front t round a xs (a.round == round) refl (All-head (IsLate round) a xs late) (none_first t round xs (All-tail (IsLate round) a xs late))

pub first_is_told_once : FirstIsToldOnce
first_is_told_once = record {
  given = given_first;
  none = none_first;
  answers = λ t round other xs late. fewer_late t round (late_behind t other xs) (behind_late t round other xs late);
  withdrawals = fewer_late;
  arrivals = λ round xs a apart late. All-push (IsLate round) xs a late (λ is. absurd (apart is));
}
