-- Arrivals at a barrier, when some are marked, added or taken out.
use Rattle.std.proofs.Common.{◌≡◌, ℕ, suc, ◌+◌, ◌≤◌, ◌==◌, Bool, true, false, not, ◌||◌, if◌then◌else◌, List, [], ◌∷◌, ◌++◌, length, map, take, drop, refl, sym, ◌∙◌, ap, arith}
use Rattle.std.specs.List.{list_any}
use Rattle.std.proofs.lemmas.List.{length-map}
use Rattle.std.proofs.lemmas.List.Sums.{sum_by-cons, sum_by_push, length-filter, count_by-le-length}
use Rattle.pth_cond.specs.Barriers.{Arrived, arrived_in, without_thread, made_late, late_behind}
use Rattle.pth_cond.specs.Kept.{arrivals_of}
use Rattle.pth_cond.specs.declared.barriers.arrivals.Waiter.{Waiter}

-- ---- tests of arrivals as they are kept

pub list_any-map : {X Y : Type 0} (test : Y → Bool) (f : X → Y) (xs : List X) → list_any test (map f xs) ≡ list_any (λ x. test (f x)) xs
list_any-map test f [] = refl
list_any-map test f (x ∷ xs) = ap (λ (b : Bool). test (f x) || b) (list_any-map test f xs)

-- ---- how many wait for a round

-- one that waits counts for its round
abbrev counts_in : ℕ → Arrived → ℕ
counts_in r a = if a.round == r then 1 else 0

pub arrived_in-cons : (r : ℕ) (a : Arrived) (xs : List Arrived) → arrived_in r (a ∷ xs) ≡ counts_in r a + arrived_in r xs
arrived_in-cons r a xs = sum_by-cons (counts_in r) a xs

pub arrived_in-push : (r : ℕ) (a : Arrived) (xs : List Arrived) → arrived_in r (xs ++ a ∷ []) ≡ arrived_in r xs + counts_in r a
arrived_in-push r a xs = sum_by_push (counts_in r) xs a

one_less : (r : ℕ) (out : Bool) (a : Arrived) (xs ys : List Arrived) → arrived_in r ys ≤ arrived_in r xs → arrived_in r (if not out then a ∷ ys else ys) ≤ arrived_in r (a ∷ xs)
one_less r true a xs ys few = omega (arith, arrived_in-cons r a xs)
one_less r false a xs ys few = omega (arith, arrived_in-cons r a xs, arrived_in-cons r a ys)

pub arrived_in-without : (r t : ℕ) (xs : List Arrived) → arrived_in r (without_thread t xs) ≤ arrived_in r xs
arrived_in-without r t [] = omega arith
arrived_in-without r t (a ∷ xs) = one_less r (a.tid == t) a xs (without_thread t xs) (arrived_in-without r t xs)

-- whether they are late doesn't count
one_late : (r : ℕ) (b : Bool) (a : Arrived) (xs ys : List Arrived) → arrived_in r ys ≡ arrived_in r xs → arrived_in r ((if b then record a { late = true } else a) ∷ ys) ≡ arrived_in r (a ∷ xs)
one_late r true a xs ys same = arrived_in-cons r (record a { late = true }) ys ∙ ap (λ (n : ℕ). counts_in r a + n) same ∙ sym (arrived_in-cons r a xs)
one_late r false a xs ys same = arrived_in-cons r a ys ∙ ap (λ (n : ℕ). counts_in r a + n) same ∙ sym (arrived_in-cons r a xs)

arrived_in-made_late : (r q : ℕ) (xs : List Arrived) → arrived_in r (made_late q xs) ≡ arrived_in r xs
arrived_in-made_late r q [] = refl
arrived_in-made_late r q (a ∷ xs) = one_late r (a.round == q) a xs (made_late q xs) (arrived_in-made_late r q xs)

-- the rest behind one that is this thread's, or not
either_late : (r q t : ℕ) (b : Bool) (xs : List Arrived) → arrived_in r (late_behind t q xs) ≡ arrived_in r xs → arrived_in r (if b then made_late q xs else late_behind t q xs) ≡ arrived_in r xs
either_late r q t true xs same = arrived_in-made_late r q xs
either_late r q t false xs same = same

pub arrived_in-late_behind : (r q t : ℕ) (xs : List Arrived) → arrived_in r (late_behind t q xs) ≡ arrived_in r xs
arrived_in-late_behind r q t [] = refl
arrived_in-late_behind r q t (a ∷ xs) = one_late r false a xs (if a.tid == t then made_late q xs else late_behind t q xs) (either_late r q t (a.tid == t) xs (arrived_in-late_behind r q t xs))

-- ---- how many wait

pub length-without : (t : ℕ) (xs : List Arrived) → length (without_thread t xs) ≤ length xs
length-without t xs = omega (arith, length-filter (λ a. not (a.tid == t)) xs, count_by-le-length (λ a. not (a.tid == t)) xs)

length-made_late : (r : ℕ) (xs : List Arrived) → length (made_late r xs) ≡ length xs
length-made_late r xs = length-map xs (λ (a : Arrived). if a.round == r then record a { late = true } else a)

either_length : (r t : ℕ) (b : Bool) (xs : List Arrived) → length (late_behind t r xs) ≡ length xs → length (if b then made_late r xs else late_behind t r xs) ≡ length xs
either_length r t true xs same = length-made_late r xs
either_length r t false xs same = same

pub length-late_behind : (r t : ℕ) (xs : List Arrived) → length (late_behind t r xs) ≡ length xs
length-late_behind r t [] = refl
length-late_behind r t (a ∷ xs) = ap suc (either_length r t (a.tid == t) xs (length-late_behind r t xs))

-- ---- marking, from place to place

-- what is left to mark, behind the arrival of a thread or before it
abbrev pub marked_from : (behind : Bool) (t round : ℕ) → List Arrived → List Arrived
marked_from behind t round xs = if behind then made_late round xs else late_behind t round xs

-- the arrivals up to a place, and then what is made of the rest
abbrev pub up_to : (es : List Waiter) (i : ℕ) → (List Arrived → List Arrived) → List Arrived
up_to es i rest = arrivals_of (take i es) ++ rest (arrivals_of (drop i es))
