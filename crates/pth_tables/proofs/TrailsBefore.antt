-- How many stand before a thread is its place in the order; and the slots in that order.
use Rattle.std.proofs.Common.{◌≡◌, ◌≢◌, ℕ, ◌≤◌, ◌==◌, Bool, true, false, cond, List, [], ◌∷◌, ◌++◌, length, All, AllPairs, Contains, Option, Some, refl, sym, ap, ◌∙◌, subst, arith, inl, inr}
use Rattle.std.proofs.lemmas.Int.{ints}
use Rattle.std.proofs.lemmas.Bool.Decides.{nat_tests}
use Rattle.std.proofs.lemmas.List.Elements.{All-nil, All-cons, All-head, All-tail, All-weaker, All-contains, All-contains_itself, Contains-append_left}
use Rattle.std.proofs.lemmas.List.Sorted.{IsPermutation-sym, Contains-permutation, sum_by-IsPermutation}
use Rattle.pth_base.proofs.Tables.{same_self, same_fails}
use Rattle.pth_model.specs.Standing.{Standing, order}
use Rattle.pth_model.specs.Allowance.{is_before, number_before}
use Rattle.pth_model.specs.Order.{StandsBefore, IsNumbered, stands}
use Rattle.pth_model.proofs.Sorted.{pairs-head, pairs-tail, same-order, sorted-order}
use Rattle.pth_tables.proofs.TrailsCounted.{count-yes, count-no, count-append, count-none, count-all, none-counted, contains-middle, IsSplit, split}

-- these slots are those of these threads
abbrev pub AreSlotsOf : (slot : ℕ → Option ℕ) → List ℕ → List Standing → Type 0
AreSlotsOf slot [] [] = Unit {0}
AreSlotsOf slot (u ∷ us) (s ∷ ss) = (slot s.tid ≡ Some u) × AreSlotsOf slot us ss
AreSlotsOf slot us ss = ⊥

-- two threads that are ready have two slots
abbrev pub HaveOwnSlots : (slot : ℕ → Option ℕ) → List Standing → Type 0
HaveOwnSlots slot ready = (z y : Standing) → Contains ready z → Contains ready y → slot z.tid ≡ slot y.tid → z.tid ≡ y.tid

-- ---- the place

before-yes : (x y : Standing) → StandsBefore 0 x y → is_before x y ≡ true
unfolding is_before
before-yes x y (inl above) = grind (arith, ints, nat_tests)
before-yes x y (inr same) = let e = same.0 in let l = same.1 in grind (arith, ints, nat_tests)

before-no : (x y : Standing) → StandsBefore 0 x y → is_before y x ≡ false
unfolding is_before
before-no x y (inl above) = grind (arith, ints, nat_tests)
before-no x y (inr same) = let e = same.0 in let l = same.1 in grind (arith, ints, nat_tests)

before-self : (x : Standing) → is_before x x ≡ false
unfolding is_before
before-self x = grind (arith, ints, nat_tests)

module _ {X : Type 0} (R : X → X → Type 0) (x : X) where
  pairs-front : (front back : List X) → AllPairs R (front ++ x ∷ back) → All (λ y. R y x) front
  pairs-front [] back p = All-nil (λ y. R y x)
  pairs-front (y ∷ front) back p =
      All-cons (λ y. R y x) y front
      (All-contains (R y) (front ++ x ∷ back) x (pairs-head R y (front ++ x ∷ back) p) (contains-middle front x back))
      (pairs-front front back (pairs-tail R y (front ++ x ∷ back) p))

  pairs-back : (front back : List X) → AllPairs R (front ++ x ∷ back) → All (R x) back
  pairs-back [] back p = pairs-head R x back p
  pairs-back (y ∷ front) back p = pairs-back front back (pairs-tail R y (front ++ x ∷ back) p)

-- in a list in order as many are before one as stand in front of it
pub before-middle : (s : Standing) (front back : List Standing) → AllPairs (StandsBefore 0) (front ++ s ∷ back) → number_before s (front ++ s ∷ back) ≡ length front
before-middle s front back p =
    let Test : Standing → Bool = λ x. is_before x s in
    omega (
      arith,
      count-append Test front (s ∷ back),
      count-no Test s back (before-self s),
      count-all Test front (All-weaker (λ y. StandsBefore 0 y s) (λ y. is_before y s ≡ true) (λ y. before-yes y s) front (pairs-front (StandsBefore 0) s front back p)),
      count-none Test back (All-weaker (StandsBefore 0 s) (λ y. is_before y s ≡ false) (λ y. before-no s y) back (pairs-back (StandsBefore 0) s front back p)),
    )

-- ---- slots

-- a number stands in a list with so many in front of it, and none of these is the same
pub record IsAt (u : ℕ) (us : List ℕ) (n : ℕ) : Type 0 where
  pub front : List ℕ
  pub back : List ℕ
  pub is : us ≡ front ++ u ∷ back
  pub long : length front ≡ n
  pub apart : All (λ v. v ≢ u) front

module _ (slot : ℕ → Option ℕ) (s : Standing) (u : ℕ) (own : slot s.tid ≡ Some u) where
  abbrev HasAnother : Standing → Type 0
  HasAnother z = slot z.tid ≢ Some u

  slots-split : (us : List ℕ) (front back : List Standing) → AreSlotsOf slot us (front ++ s ∷ back) → All HasAnother front → IsAt u us (length front)
  slots-split [] [] back are others = absurd are
  slots-split [] (z ∷ front) back are others = absurd are
  slots-split (v ∷ us) [] back are others =
      let same : v ≡ u = (let e = are.0 in cc) in
      record { front = []; back = us; is = ap (λ w. w ∷ us) same; long = refl; apart = All-nil (λ v. v ≢ u) }
  slots-split (v ∷ us) (z ∷ front) back are others =
      let r = slots-split us front back are.1 (All-tail HasAnother z front others) in
      record {
        front = v ∷ r.front;
        back = r.back;
        is = ap (λ l. v ∷ l) r.is;
        long = (let l = r.long in omega arith);
        apart = All-cons (λ v. v ≢ u) v r.front (λ same. All-head HasAnother z front others (are.0 ∙ ap Some same)) r.apart;
      }

-- The slot of a ready thread stands among the slots of the queue with as many in front of it as stand before the thread.
pub slot-at : (slot : ℕ → Option ℕ) (us : List ℕ) (ready : List Standing) (entries : ℕ) (s : Standing) (u : ℕ) → IsNumbered entries ready → ((t : ℕ) → stands t ready ≤ 1) → HaveOwnSlots slot ready → AreSlotsOf slot us (order ready) → Contains ready s → slot s.tid ≡ Some u → IsAt u us (number_before s ready)
slot-at slot us ready entries s u numbered once distinct are has own =
    let r = split (order ready) s (Contains-permutation ready (order ready) s (same-order ready) has) in
    subst (IsAt u us) (place r) (slots-split slot s u own us r.front r.back (subst (AreSlotsOf slot us) r.is are) (others r))
  where
    place : (r : IsSplit (order ready) s) → length r.front ≡ number_before s ready
    place r =
        sym (before-middle s r.front r.back (subst (AllPairs (StandsBefore 0)) r.is (sorted-order 0 ready numbered.falling)))
        ∙ ap (number_before s) (sym r.is)
        ∙ sum_by-IsPermutation (λ x. cond (is_before x s) 1 0) ready (order ready) (same-order ready)

    -- it stands there once
    alone : (r : IsSplit (order ready) s) → stands s.tid r.front ≡ 0
    alone r =
        let Test : Standing → Bool = λ x. x.tid == s.tid in
        let all : stands s.tid (r.front ++ s ∷ r.back) ≡ stands s.tid ready = ap (stands s.tid) (sym r.is) ∙ sum_by-IsPermutation (λ x. cond (x.tid == s.tid) 1 0) ready (order ready) (same-order ready) in
        omega (arith, all, once s.tid, count-append Test r.front (s ∷ r.back), count-yes Test s r.back (same_self s.tid))

    ready_too : (r : IsSplit (order ready) s) (z : Standing) → Contains r.front z → Contains ready z
    ready_too r z h =
        Contains-permutation (order ready) ready z (IsPermutation-sym ready (order ready) (same-order ready))
        (subst (λ l. Contains l z) (sym r.is) (Contains-append_left r.front (s ∷ r.back) z h))

    others : (r : IsSplit (order ready) s) → All (λ z. slot z.tid ≢ Some u) r.front
    others r =
        let Apart : Standing → Type 0 = λ z. (z.tid == s.tid) ≡ false in
        All-weaker (Contains r.front) (λ z. slot z.tid ≢ Some u)
        (λ z h same. same_fails z.tid s.tid (All-contains Apart r.front z (none-counted (λ x. x.tid == s.tid) r.front (alone r)) h)
        (distinct z s (ready_too r z h) has (same ∙ sym own)))
        r.front (All-contains_itself r.front)
