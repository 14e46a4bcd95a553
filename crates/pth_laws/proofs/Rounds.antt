-- Arrivals at barriers, as the tables of barriers change.
use Rattle.std.proofs.Common.{◌≡◌, ◌≢◌, ◌≤◌, ℕ, ◌+◌, ◌==◌, ◌&&◌, count_by, is_some, subst, arith, ◌||◌, not, Bool, true, false, if◌then◌else◌, ℤ, List, [], ◌∷◌, ◌++◌, cond, ◌⊎◌, inl, inr, Option, Some, None, option_map, Result, Ok, refl, sym, ◌∙◌, ap}
use Rattle.std.specs.List.{list_any}
use Rattle.std.specs.Option.{ok_or}
use Rattle.std.proofs.lemmas.List.Folds.{list_any-append}
use Rattle.std.proofs.lemmas.List.Sums.{sum_by-cons, sum_by_push}
use Rattle.std.proofs.lemmas.Bool.{true≢false}
use Rattle.pth_base.proofs.Tables.{same_means, same_self, put_by, put_here}
use Rattle.pth_base.specs.declared.errno.Errno.{Errno}
use Rattle.pth_base.specs.declared.errno.Errno.TheVariants.{EINVAL}
use Rattle.pth_lock.specs.Objects.{object_named}
use Rattle.pth_cond.specs.declared.barriers.Arrival.{Arrival}
use Rattle.pth_cond.specs.declared.barriers.Arrival.TheVariants.{Incomplete, Tail}
use Rattle.pth_cond.specs.Barriers.{Arrived, Barrier, BarrierTable, lacks_one, waits_among, waits_here, waits_at, arrival_at, arrival_answer, with_barrier, barrier_initialised, arrived, barrier_reached, without_thread, withdrawn, made_late, late_behind, answered, round_answered, all_withdrawn}
use Rattle.pth_laws.specs.Arrivals.{arrivals_of}
use Rattle.pth_laws.specs.Clean.{is_of, has_arrived_here, has_arrived}

-- ---- lists of arrivals

without_any : (p : Arrived → Bool) (t : ℕ) (xs : List Arrived) → list_any p (without_thread t xs) ≡ true → list_any p xs ≡ true
without_any p t [] h = h
without_any p t (a ∷ rest) h = by_test (not (a.tid == t)) (p a) refl (without_any p t rest) h
  where
    by_test : (b own : Bool) → p a ≡ own → (list_any p (without_thread t rest) ≡ true → list_any p rest ≡ true) → list_any p (cond b (a ∷ without_thread t rest) (without_thread t rest)) ≡ true → (own || list_any p rest) ≡ true
    by_test b true same more h = refl
    by_test true false same more h = more (sym (ap (λ (own : Bool). own || list_any p (without_thread t rest)) same) ∙ h)
    by_test false false same more h = more h

without_none : (t : ℕ) (xs : List Arrived) → waits_among t (without_thread t xs) ≡ false
without_none t [] = refl
without_none t (a ∷ rest) = by_test (a.tid == t) refl (without_none t rest)
  where
    by_test : (own : Bool) → (a.tid == t) ≡ own → waits_among t (without_thread t rest) ≡ false → waits_among t (cond (not own) (a ∷ without_thread t rest) (without_thread t rest)) ≡ false
    by_test true same none = none
    by_test false same none = ap (λ (own : Bool). own || waits_among t (without_thread t rest)) same ∙ none

-- a late arrival is that of the same thread, for the same round
late_same : (round t r : ℕ) (xs : List Arrived) → list_any (is_of round t) (made_late r xs) ≡ list_any (is_of round t) xs
late_same round t r [] = refl
late_same round t r (a ∷ rest) = by_test (a.round == r) ∙ ap (λ (more : Bool). is_of round t a || more) (late_same round t r rest)
  where
    by_test : (b : Bool) → (is_of round t (if b then record a { late = true } else a) || list_any (is_of round t) (made_late r rest)) ≡ (is_of round t a || list_any (is_of round t) (made_late r rest))
    by_test true = refl
    by_test false = refl

behind_same : (round t thread r : ℕ) (xs : List Arrived) → list_any (is_of round t) (late_behind thread r xs) ≡ list_any (is_of round t) xs
behind_same round t thread r [] = refl
behind_same round t thread r (a ∷ rest) = ap (λ (more : Bool). is_of round t a || more) (by_test (a.tid == thread) (behind_same round t thread r rest))
  where
    by_test : (b : Bool) → list_any (is_of round t) (late_behind thread r rest) ≡ list_any (is_of round t) rest → list_any (is_of round t) (if b then made_late r rest else late_behind thread r rest) ≡ list_any (is_of round t) rest
    by_test true more = late_same round t r rest
    by_test false more = more

-- an arrival that is of a thread waits among all
of_waits : (round t : ℕ) (xs : List Arrived) → list_any (is_of round t) xs ≡ true → waits_among t xs ≡ true
of_waits round t [] h = h
of_waits round t (a ∷ rest) h = by_test (a.round == round) (a.tid == t) (of_waits round t rest) h
  where
    by_test : (same own : Bool) → (list_any (is_of round t) rest ≡ true → waits_among t rest ≡ true) → ((same && own) || list_any (is_of round t) rest) ≡ true → (own || waits_among t rest) ≡ true
    by_test same true more h = refl
    by_test true false more h = more h
    by_test false false more h = more h

second : (x y : Bool) → (x && y) ≡ true → y ≡ true
second true y h = h
second false y h = absurd (true≢false (sym h))

or_true : (b : Bool) → (b || true) ≡ true
or_true true = refl
or_true false = refl

-- no arrival is lost but those of the thread
without_others : (r t u : ℕ) → u ≢ t → (xs : List Arrived) → list_any (is_of r u) xs ≡ true → list_any (is_of r u) (without_thread t xs) ≡ true
without_others r t u apart [] h = h
without_others r t u apart (a ∷ rest) h = by_test (a.tid == t) (is_of r u a) refl refl (without_others r t u apart rest) h
  where
    left : List Arrived
    left = without_thread t rest

    by_test : (own here : Bool) → (a.tid == t) ≡ own → is_of r u a ≡ here → (list_any (is_of r u) rest ≡ true → list_any (is_of r u) left ≡ true) → (here || list_any (is_of r u) rest) ≡ true → list_any (is_of r u) (cond (not own) (a ∷ left) left) ≡ true
    by_test true true is_own is_here more h = absurd (apart (sym (same_means a.tid u (second (a.round == r) (a.tid == u) is_here)) ∙ same_means a.tid t is_own))
    by_test true false is_own is_here more h = more h
    by_test false true is_own is_here more h = ap (λ (b : Bool). b || list_any (is_of r u) left) is_here
    by_test false false is_own is_here more h = ap (λ (b : Bool). b || list_any (is_of r u) left) is_here ∙ more h

-- how often a thread is among arrivals
count_cons : (t : ℕ) (a : Arrived) (xs : List Arrived) → count_by (λ x. x.tid == t) (a ∷ xs) ≡ cond (a.tid == t) 1 0 + count_by (λ x. x.tid == t) xs
count_cons t a xs = sum_by-cons (λ x. cond (x.tid == t) 1 0) a xs

without_count : (u t : ℕ) (xs : List Arrived) → count_by (λ x. x.tid == u) (without_thread t xs) ≤ count_by (λ x. x.tid == u) xs
without_count u t [] = omega arith
without_count u t (a ∷ rest) = by_test (not (a.tid == t)) (without_count u t rest)
  where
    by_test : (b : Bool) → count_by (λ x. x.tid == u) (without_thread t rest) ≤ count_by (λ x. x.tid == u) rest → count_by (λ x. x.tid == u) (cond b (a ∷ without_thread t rest) (without_thread t rest)) ≤ count_by (λ x. x.tid == u) (a ∷ rest)
    by_test true h = omega (arith, count_cons u a rest, count_cons u a (without_thread t rest))
    by_test false h = omega (arith, count_cons u a rest)

late_count : (u r : ℕ) (xs : List Arrived) → count_by (λ x. x.tid == u) (made_late r xs) ≡ count_by (λ x. x.tid == u) xs
late_count u r [] = refl
late_count u r (a ∷ rest) = by_test (a.round == r) ∙ ap (λ n. cond (a.tid == u) 1 0 + n) (late_count u r rest) ∙ sym (count_cons u a rest)
  where
    by_test : (b : Bool) → count_by (λ x. x.tid == u) ((if b then record a { late = true } else a) ∷ made_late r rest) ≡ cond (a.tid == u) 1 0 + count_by (λ x. x.tid == u) (made_late r rest)
    by_test true = count_cons u (record a { late = true }) (made_late r rest)
    by_test false = count_cons u a (made_late r rest)

behind_count : (u t r : ℕ) (xs : List Arrived) → count_by (λ x. x.tid == u) (late_behind t r xs) ≡ count_by (λ x. x.tid == u) xs
behind_count u t r [] = refl
behind_count u t r (a ∷ rest) = count_cons u a (if a.tid == t then made_late r rest else late_behind t r rest) ∙ ap (λ n. cond (a.tid == u) 1 0 + n) (by_test (a.tid == t) (behind_count u t r rest)) ∙ sym (count_cons u a rest)
  where
    by_test : (b : Bool) → count_by (λ x. x.tid == u) (late_behind t r rest) ≡ count_by (λ x. x.tid == u) rest → count_by (λ x. x.tid == u) (if b then made_late r rest else late_behind t r rest) ≡ count_by (λ x. x.tid == u) rest
    by_test true more = late_count u r rest
    by_test false more = more

-- who has no arrival for any round is not among them
pub none_counted : (t : ℕ) (xs : List Arrived) → ((r : ℕ) → list_any (is_of r t) xs ≡ true → ⊥) → count_by (λ x. x.tid == t) xs ≡ 0
none_counted t [] none = refl
none_counted t (a ∷ rest) none = count_cons t a rest ∙ by_own (a.tid == t) refl (none_counted t rest (λ r h. none r (ap (λ (b : Bool). is_of r t a || b) h ∙ or_true (is_of r t a))))
  where
    here : (a.tid == t) ≡ true → list_any (is_of a.round t) (a ∷ rest) ≡ true
    here is_own = ap (λ (b : Bool). (b && (a.tid == t)) || list_any (is_of a.round t) rest) (same_self a.round) ∙ ap (λ (b : Bool). b || list_any (is_of a.round t) rest) is_own

    by_own : (own : Bool) → (a.tid == t) ≡ own → count_by (λ x. x.tid == t) rest ≡ 0 → cond own 1 0 + count_by (λ x. x.tid == t) rest ≡ 0
    by_own true is_own more = absurd (none a.round (here is_own))
    by_own false is_own more = omega (arith, more)

-- ---- tables

-- each arrival at a barrier is one of it as it was, and no thread has more there
pub record HasFewerHere (o p : Option Barrier) : Type 0 where
  pub comes : (round t : ℕ) → has_arrived_here round t o ≡ true → has_arrived_here round t p ≡ true
  pub times : (t : ℕ) → arrivals_of t o ≤ arrivals_of t p

-- so at each barrier of a table
abbrev pub HasFewer : BarrierTable → BarrierTable → Type 0
HasFewer x y = (b : ℕ) → HasFewerHere (x b) (y b)

-- no arrival of a table is lost but those of one thread
abbrev pub HasOthers : ℕ → BarrierTable → BarrierTable → Type 0
HasOthers t x y = (b round u : ℕ) → u ≢ t → has_arrived y b round u ≡ true → has_arrived x b round u ≡ true

-- none is
abbrev pub HasAll : BarrierTable → BarrierTable → Type 0
HasAll x y = (b round u : ℕ) → has_arrived y b round u ≡ true → has_arrived x b round u ≡ true

pub fewer_same : (o : Option Barrier) → HasFewerHere o o
fewer_same o = record { comes = λ round t h. h; times = λ t. omega arith }

-- what holds of each barrier as it was and as it is, where one is changed
module _ (Q : Option Barrier → Option Barrier → Type 0) (same : (o : Option Barrier) → Q o o) where
  each_with : (b : ℤ) (change : Barrier → Barrier) (x : BarrierTable) → ((y : Barrier) → x (object_named b) ≡ Some y → Q (Some (change y)) (Some y)) → (n : ℕ) → Q (with_barrier b change x n) (x n)
  each_with b change x changes n =
      put_by (λ o. Q o (x n)) x (object_named b) (option_map change (x (object_named b))) n
      (λ here. subst (λ (i : ℕ). Q (option_map change (x (object_named b))) (x i)) (sym here) (by_barrier (x (object_named b)) changes))
      (λ other. same (x n))
    where
      by_barrier : (o : Option Barrier) → ((y : Barrier) → o ≡ Some y → Q (Some (change y)) (Some y)) → Q (option_map change o) o
      by_barrier None changes = same None
      by_barrier (Some y) changes = changes y refl

pub fewer_withdrawn : (b : ℤ) (t : ℕ) (x : BarrierTable) → HasFewer (withdrawn b t x) x
fewer_withdrawn b t x = each_with HasFewerHere fewer_same b (λ y. record y { arrivals = without_thread t y.arrivals }) x (λ y same. record { comes = λ round u h. without_any (is_of round u) t y.arrivals h; times = λ u. without_count u t y.arrivals })

pub fewer_answered : (b : ℤ) (round t : ℕ) (x : BarrierTable) → HasFewer (round_answered b round t x) x
fewer_answered b round t x = each_with HasFewerHere fewer_same b (λ y. record y { arrivals = answered t round y.arrivals }) x (λ y same. record {
  comes = λ r u h. sym (behind_same r u t round y.arrivals) ∙ without_any (is_of r u) t (late_behind t round y.arrivals) h;
  times = λ u. subst (λ (n : ℕ). count_by (λ a. a.tid == u) (answered t round y.arrivals) ≤ n) (behind_count u t round y.arrivals) (without_count u t (late_behind t round y.arrivals));
})

pub fewer_initialised : (b n : ℤ) (x : BarrierTable) → HasFewer (barrier_initialised b n x) x
fewer_initialised b n x i = put_by (λ o. HasFewerHere o (x i)) x (object_named b) _ i (λ here. record { comes = λ round t h. absurd (true≢false (sym h)); times = λ t. omega arith }) (λ other. fewer_same (x i))

pub others_withdrawn : (b : ℤ) (t : ℕ) (x : BarrierTable) → HasOthers t (withdrawn b t x) x
others_withdrawn b t x n r u apart = each_with (λ o p. has_arrived_here r u p ≡ true → has_arrived_here r u o ≡ true) (λ o h. h) b (λ y. record y { arrivals = without_thread t y.arrivals }) x (λ y same h. without_others r t u apart y.arrivals h) n

pub others_answered : (b : ℤ) (round t : ℕ) (x : BarrierTable) → HasOthers t (round_answered b round t x) x
others_answered b round t x n r u apart = each_with (λ o p. has_arrived_here r u p ≡ true → has_arrived_here r u o ≡ true) (λ o h. h) b (λ y. record y { arrivals = answered t round y.arrivals }) x (λ y same h. without_others r t u apart (late_behind t round y.arrivals) (behind_same r u t round y.arrivals ∙ h)) n

-- nobody had arrived at a barrier that was not initialised
pub all_initialised : (b n : ℤ) (x : BarrierTable) → is_some (x (object_named b)) ≡ false → HasAll (barrier_initialised b n x) x
all_initialised b n x new i r u = put_by (λ o. has_arrived_here r u (x i) ≡ true → has_arrived_here r u o ≡ true) x (object_named b) _ i (λ here h. absurd (none_here (x (object_named b)) new (ap (λ j. has_arrived_here r u (x j)) (sym here) ∙ h))) (λ other h. h)
  where
    none_here : (o : Option Barrier) → is_some o ≡ false → has_arrived_here r u o ≡ true → ⊥
    none_here None new h = true≢false (sym h)
    none_here (Some y) new h = true≢false new

same_arrival : (x y : Arrival) (o : Result Arrival Errno) → o ≡ Ok x → o ≡ Ok y → x ≡ y
same_arrival x y o one two = cc

-- what an arrival comes to at a barrier that is initialised
comes_to : (b : ℤ) (x : BarrierTable) (y : Barrier) (a : Arrival) → x (object_named b) ≡ Some y → arrival_answer x b ≡ Ok a → arrival_at y ≡ a
comes_to b x y a same answer = same_arrival (arrival_at y) a (arrival_answer x b) (ap (λ (o : Option Barrier). ok_or (option_map arrival_at o) EINVAL) same) answer

-- the last of a round waits for nothing
tail_same : (t : ℕ) (y : Barrier) → arrival_at y ≡ Tail → (arrived t y).arrivals ≡ y.arrivals
tail_same t y last = by_lack (lacks_one y) last
  where
    by_lack : (lack : Bool) → (if lack then Tail else Incomplete y.round) ≡ Tail → (if lack then record y { round = y.round + 1 } else record y { arrivals = y.arrivals ++ (record { tid = t; round = y.round; late = false } ∷ []) }).arrivals ≡ y.arrivals
    by_lack true same = refl
    by_lack false same = absurd (cc same)

pub fewer_tail : (b : ℤ) (t : ℕ) (x : BarrierTable) → arrival_answer x b ≡ Ok Tail → HasFewer (barrier_reached b t x) x
fewer_tail b t x last = each_with HasFewerHere fewer_same b (arrived t) x (λ y same. let one = tail_same t y (comes_to b x y Tail same last) in record {
  comes = λ round u h. sym (ap (λ xs. list_any (is_of round u) xs) one) ∙ h;
  times = λ u. subst (λ (xs : List Arrived). count_by (λ a. a.tid == u) xs ≤ count_by (λ a. a.tid == u) y.arrivals) (sym one) (omega arith);
})

-- nobody's arrival is lost as a thread arrives
pub all_reached : (b : ℤ) (t : ℕ) (x : BarrierTable) → HasAll (barrier_reached b t x) x
all_reached b t x n r u = each_with (λ o p. has_arrived_here r u p ≡ true → has_arrived_here r u o ≡ true) (λ o h. h) b (arrived t) x (λ y same h. by_lack y h (lacks_one y)) n
  where
    by_lack : (y : Barrier) → has_arrived_here r u (Some y) ≡ true → (lack : Bool) → has_arrived_here r u (Some (if lack then record y { round = y.round + 1 } else record y { arrivals = y.arrivals ++ (record { tid = t; round = y.round; late = false } ∷ []) })) ≡ true
    by_lack y h true = h
    by_lack y h false = list_any-append (is_of r u) y.arrivals (record { tid = t; round = y.round; late = false } ∷ []) ∙ ap (λ (b : Bool). b || ((y.round == r) && (t == u) || false)) h

-- who waits for a round has arrived for it
pub has_reached : (b : ℤ) (t round : ℕ) (x : BarrierTable) → arrival_answer x b ≡ Ok (Incomplete round) → has_arrived (barrier_reached b t x) (object_named b) round t ≡ true
has_reached b t round x waits = ap (has_arrived_here round t) (put_here x (object_named b) (option_map (arrived t) (x (object_named b)))) ∙ by_barrier (x (object_named b)) waits
  where
    by_lack : (y : Barrier) (lack : Bool) → (if lack then Tail else Incomplete y.round) ≡ Incomplete round → has_arrived_here round t (Some (if lack then record y { round = y.round + 1 } else record y { arrivals = y.arrivals ++ (record { tid = t; round = y.round; late = false } ∷ []) })) ≡ true
    by_lack y true same = absurd (cc same)
    by_lack y false same =
        let number : y.round ≡ round = cc in
        list_any-append (is_of round t) y.arrivals (record { tid = t; round = y.round; late = false } ∷ [])
        ∙ ap (λ (b : Bool). list_any (is_of round t) y.arrivals || ((b && (t == t)) || false)) (ap (λ n. n == round) number ∙ same_self round)
        ∙ ap (λ (b : Bool). list_any (is_of round t) y.arrivals || (b || false)) (same_self t)
        ∙ or_true (list_any (is_of round t) y.arrivals)

    by_barrier : (o : Option Barrier) → ok_or (option_map arrival_at o) EINVAL ≡ Ok (Incomplete round) → has_arrived_here round t (option_map (arrived t) o) ≡ true
    by_barrier None same = absurd (cc same)
    by_barrier (Some y) same = by_lack y (lacks_one y) (same_arrival (arrival_at y) (Incomplete round) (Ok (arrival_at y)) refl same)

-- who had arrived nowhere arrives once
pub once_reached : (b : ℤ) (t : ℕ) (x : BarrierTable) → ((n r : ℕ) → has_arrived x n r t ≡ true → ⊥) → ((n u : ℕ) → arrivals_of u (x n) ≤ 1) → (n u : ℕ) → arrivals_of u (barrier_reached b t x n) ≤ 1
once_reached b t x none once n u = each_with (λ o p. ((r : ℕ) → has_arrived_here r t p ≡ true → ⊥) → arrivals_of u p ≤ 1 → arrivals_of u o ≤ 1) (λ o none once. once) b (arrived t) x (λ y same none once. by_lack y none once (lacks_one y)) n (none n) (once n u)
  where
    by_lack : (y : Barrier) → ((r : ℕ) → has_arrived_here r t (Some y) ≡ true → ⊥) → arrivals_of u (Some y) ≤ 1 → (lack : Bool) → arrivals_of u (Some (if lack then record y { round = y.round + 1 } else record y { arrivals = y.arrivals ++ (record { tid = t; round = y.round; late = false } ∷ []) })) ≤ 1
    by_lack y none once true = once
    by_lack y none once false = by_own (t == u) refl
      where
        new : Arrived
        new = record { tid = t; round = y.round; late = false }

        by_own : (own : Bool) → (t == u) ≡ own → count_by (λ a. a.tid == u) (y.arrivals ++ (new ∷ [])) ≤ 1
        by_own true is_own =
            let before : count_by (λ a. a.tid == u) y.arrivals ≡ 0 = subst (λ v. count_by (λ a. a.tid == v) y.arrivals ≡ 0) (same_means t u is_own) (none_counted t y.arrivals none) in
            let after = sum_by_push (λ a. cond (a.tid == u) 1 0) y.arrivals new ∙ ap (λ (b : Bool). count_by (λ a. a.tid == u) y.arrivals + cond b 1 0) is_own in
            omega (arith, before, after)
        by_own false is_own =
            let after = sum_by_push (λ a. cond (a.tid == u) 1 0) y.arrivals new ∙ ap (λ (b : Bool). count_by (λ a. a.tid == u) y.arrivals + cond b 1 0) is_own in
            omega (arith, once, after)

-- who waits for a round has arrived for it, and of the others nobody has that had not
pub arrives : (b : ℤ) (t round : ℕ) (x : BarrierTable) → arrival_answer x b ≡ Ok (Incomplete round) → (n r u : ℕ) → has_arrived (barrier_reached b t x) n r u ≡ true → ((n ≡ object_named b) × (r ≡ round) × (u ≡ t)) ⊎ (has_arrived x n r u ≡ true)
arrives b t round x waits n r u =
    put_by (λ o. has_arrived_here r u o ≡ true → ((n ≡ object_named b) × (r ≡ round) × (u ≡ t)) ⊎ (has_arrived x n r u ≡ true)) x (object_named b) (option_map (arrived t) (x (object_named b))) n
    (λ here h. at here (by_barrier (x (object_named b)) refl h))
    (λ other h. inr h)
  where
    at : n ≡ object_named b → ((r ≡ round) × (u ≡ t)) ⊎ (has_arrived_here r u (x (object_named b)) ≡ true) → ((n ≡ object_named b) × (r ≡ round) × (u ≡ t)) ⊎ (has_arrived x n r u ≡ true)
    at here (inl own) = inl (here, own.0, own.1)
    at here (inr old) = inr (ap (λ i. has_arrived_here r u (x i)) here ∙ old)

    by_own : (y : Barrier) (same own old : Bool) → (y.round == r) ≡ same → (t == u) ≡ own → has_arrived_here r u (Some y) ≡ old → y.round ≡ round → (old || ((same && own) || false)) ≡ true → ((r ≡ round) × (u ≡ t)) ⊎ (old ≡ true)
    by_own y same own true is_same is_own is_old number h = inr refl
    by_own y true true false is_same is_own is_old number h = inl (sym (same_means y.round r is_same) ∙ number, sym (same_means t u is_own))
    by_own y true false false is_same is_own is_old number h = absurd (true≢false (sym h))
    by_own y false own false is_same is_own is_old number h = absurd (true≢false (sym h))

    by_lack : (y : Barrier) (lack : Bool) → (if lack then Tail else Incomplete y.round) ≡ Incomplete round → has_arrived_here r u (Some (if lack then record y { round = y.round + 1 } else record y { arrivals = y.arrivals ++ (record { tid = t; round = y.round; late = false } ∷ []) })) ≡ true → ((r ≡ round) × (u ≡ t)) ⊎ (has_arrived_here r u (Some y) ≡ true)
    by_lack y true same h = absurd (cc same)
    by_lack y false same h =
        let number : y.round ≡ round = cc in
        by_own y (y.round == r) (t == u) (has_arrived_here r u (Some y)) refl refl refl number (sym (list_any-append (is_of r u) y.arrivals (record { tid = t; round = y.round; late = false } ∷ [])) ∙ h)

    by_barrier : (o : Option Barrier) → x (object_named b) ≡ o → has_arrived_here r u (option_map (arrived t) o) ≡ true → ((r ≡ round) × (u ≡ t)) ⊎ (has_arrived_here r u (x (object_named b)) ≡ true)
    by_barrier None same h = absurd (true≢false (sym h))
    by_barrier (Some y) same h = back y same (by_lack y (lacks_one y) (comes_to b x y (Incomplete round) same waits) h)
      where
        back : (y : Barrier) → x (object_named b) ≡ Some y → ((r ≡ round) × (u ≡ t)) ⊎ (has_arrived_here r u (Some y) ≡ true) → ((r ≡ round) × (u ≡ t)) ⊎ (has_arrived_here r u (x (object_named b)) ≡ true)
        back y same (inl own) = inl own
        back y same (inr old) = inr (ap (has_arrived_here r u) same ∙ old)

-- nobody has arrived anywhere
pub none_arrived : (x : BarrierTable) (b round t : ℕ) → has_arrived (all_withdrawn x) b round t ≡ false
none_arrived x b round t = by_barrier (x b)
  where
    by_barrier : (o : Option Barrier) → has_arrived_here round t (option_map (λ (y : Barrier). record y { arrivals = [] }) o) ≡ false
    by_barrier None = refl
    by_barrier (Some y) = refl

-- who has arrived waits there
pub arrived_waits : (x : BarrierTable) (b : ℤ) (n round t : ℕ) → object_named b ≡ n → has_arrived x n round t ≡ true → waits_at x b t ≡ true
arrived_waits x b n round t named h = by_barrier (x (object_named b)) (ap (λ i. has_arrived_here round t (x i)) named ∙ h)
  where
    by_barrier : (o : Option Barrier) → has_arrived_here round t o ≡ true → waits_here t o ≡ true
    by_barrier None h = h
    by_barrier (Some y) h = of_waits round t y.arrivals h

-- whose arrival is taken back, or answered, waits there no longer
left_with : (b : ℤ) (t : ℕ) (g : List Arrived → List Arrived) (x : BarrierTable) → ((xs : List Arrived) → waits_among t (g xs) ≡ false) → waits_at (with_barrier b (λ y. record y { arrivals = g y.arrivals }) x) b t ≡ false
left_with b t g x none = ap (waits_here t) (put_here x (object_named b) (option_map (λ (y : Barrier). record y { arrivals = g y.arrivals }) (x (object_named b)))) ∙ by_barrier (x (object_named b))
  where
    by_barrier : (o : Option Barrier) → waits_here t (option_map (λ (y : Barrier). record y { arrivals = g y.arrivals }) o) ≡ false
    by_barrier None = refl
    by_barrier (Some y) = none y.arrivals

pub withdrawn_left : (b : ℤ) (t : ℕ) (x : BarrierTable) → waits_at (withdrawn b t x) b t ≡ false
withdrawn_left b t x = left_with b t (without_thread t) x (λ xs. without_none t xs)

pub answered_left : (b : ℤ) (round t : ℕ) (x : BarrierTable) → waits_at (round_answered b round t x) b t ≡ false
answered_left b round t x = left_with b t (answered t round) x (λ xs. without_none t (late_behind t round xs))
