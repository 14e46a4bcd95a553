-- How many standings pass a test, and who is found among them.
use Rattle.std.proofs.Common.{◌≡◌, ℕ, zero, suc, ◌+◌, ◌≤◌, ◌<◌, ◌==◌, Bool, true, false, not, cond, List, [], ◌∷◌, ◌++◌, length, count_by, All, Contains, Some, refl, sym, ap, ◌∙◌, arith}
use Rattle.std.proofs.lemmas.List.Elements.{All-nil, All-cons, All-head, All-tail, All-weaker, All-contains_itself, Contains-append_right}
use Rattle.std.proofs.lemmas.List.Folds.{list_any_at, list_any_none}
use Rattle.std.proofs.lemmas.List.Sums.{sum_by-cons, sum_by-append}
use Rattle.pth_base.proofs.Tables.{same_self, not_same, same_means}
use Rattle.pth_model.specs.Standing.{Standing, left_by}
use Rattle.pth_model.specs.Allowance.{has_entry, standing_of}
use Rattle.pth_model.specs.Order.{stands}

-- ---- counts

module _ {X : Type 0} (p : X → Bool) where
  pub count-cons : (x : X) (xs : List X) → count_by p (x ∷ xs) ≡ cond (p x) 1 0 + count_by p xs
  count-cons x xs = sum_by-cons (λ x. cond (p x) 1 0) x xs

  pub count-yes : (x : X) (xs : List X) → p x ≡ true → count_by p (x ∷ xs) ≡ 1 + count_by p xs
  count-yes x xs e = count-cons x xs ∙ rw e

  pub count-no : (x : X) (xs : List X) → p x ≡ false → count_by p (x ∷ xs) ≡ count_by p xs
  count-no x xs e = count-cons x xs ∙ rw e (omega arith)

  pub count-append : (xs ys : List X) → count_by p (xs ++ ys) ≡ count_by p xs + count_by p ys
  count-append xs ys = sum_by-append (λ x. cond (p x) 1 0) xs ys

  pub count-push : (xs : List X) (x : X) → count_by p (xs ++ x ∷ []) ≡ count_by p xs + cond (p x) 1 0
  count-push xs x = omega (arith, count-append xs (x ∷ []), count-cons x [])

  pub count-none : (xs : List X) → All (λ x. p x ≡ false) xs → count_by p xs ≡ 0
  count-none [] h = refl
  count-none (x ∷ xs) h = count-no x xs (All-head (λ x. p x ≡ false) x xs h) ∙ count-none xs (All-tail (λ x. p x ≡ false) x xs h)

  pub count-all : (xs : List X) → All (λ x. p x ≡ true) xs → count_by p xs ≡ length xs
  count-all [] h = refl
  count-all (x ∷ xs) h = omega (arith, count-yes x xs (All-head (λ x. p x ≡ true) x xs h), count-all xs (All-tail (λ x. p x ≡ true) x xs h))

  -- where none is counted, each fails
  pub none-counted : (xs : List X) → count_by p xs ≡ 0 → All (λ x. p x ≡ false) xs
  none-counted [] none = All-nil (λ x. p x ≡ false)
  none-counted (x ∷ xs) none = by (p x) refl (none-counted xs)
    where
      by : (b : Bool) → p x ≡ b → (count_by p xs ≡ 0 → All (λ x. p x ≡ false) xs) → All (λ x. p x ≡ false) (x ∷ xs)
      by true e more = absurd (omega (arith, count-yes x xs e))
      by false e more = All-cons (λ x. p x ≡ false) x xs e (more (sym (count-no x xs e) ∙ none))

-- two tests that agree on each
pub count-same : {X : Type 0} (p q : X → Bool) (xs : List X) → All (λ x. p x ≡ q x) xs → count_by p xs ≡ count_by q xs
count-same p q [] h = refl
count-same p q (x ∷ xs) h =
    count-cons p x xs
    ∙ rw (All-head (λ x. p x ≡ q x) x xs h, count-same p q xs (All-tail (λ x. p x ≡ q x) x xs h)) (sym (count-cons q x xs))

-- ---- elements

module _ {X : Type 0} where
  pub contains-here : (x : X) (xs : List X) → Contains (x ∷ xs) x
  contains-here x xs = (0, omega arith, refl)

  pub contains-middle : (front : List X) (x : X) (back : List X) → Contains (front ++ x ∷ back) x
  contains-middle front x back = Contains-append_right front (x ∷ back) x (contains-here x back)

  -- what holds of each that is contained
  pub All-from_contained : (P : X → Type 0) (xs : List X) → ((x : X) → Contains xs x → P x) → All P xs
  All-from_contained P xs h = All-weaker (Contains xs) P h xs (All-contains_itself xs)

  -- a list is split where an element stands
  pub record IsSplit (xs : List X) (x : X) : Type 0 where
    pub front : List X
    pub back : List X
    pub is : xs ≡ front ++ x ∷ back

  pub split : (xs : List X) (x : X) → Contains xs x → IsSplit xs x
  split [] x h = absurd (let low = h.1 in omega (arith, low))
  split (y ∷ ys) x (zero, low, e) = record { front = []; back = ys; is = ap (λ z. z ∷ ys) e }
  split (y ∷ ys) x (suc k, low, e) =
      let r = split ys x (k, omega arith, e) in
      record { front = y ∷ r.front; back = r.back; is = ap (λ l. y ∷ l) r.is }

-- ---- entries and threads

pub has-contained : (s : Standing) (all : List Standing) → Contains all s → has_entry s.entry all ≡ true
has-contained s all h = list_any_at (λ x. x.entry == s.entry) all h.0 s h.1 (rw h.2 (same_self s.entry))

-- no entry of these has so great a number
pub has-above : (e n : ℕ) (all : List Standing) → n ≤ e → All (λ x. x.entry < n) all → has_entry e all ≡ false
has-above e n all le low =
    list_any_none (λ x. x.entry == e) all
    (All-weaker (λ x. x.entry < n) (λ x. (x.entry == e) ≡ false) (λ x less. not_same x.entry e (λ same. omega (arith, less, le, same))) all low)

-- who is found, stands there
pub found-is : (t : ℕ) (all : List Standing) (s : Standing) → standing_of t all ≡ Some s → (s.tid ≡ t) × Contains all s
found-is t [] s found = absurd (cc found)
found-is t (x ∷ xs) s found = by (x.tid == t) refl found (found-is t xs s)
  where
    by : (b : Bool) → (x.tid == t) ≡ b → cond b (Some x) (standing_of t xs) ≡ Some s → (standing_of t xs ≡ Some s → (s.tid ≡ t) × Contains xs s) → (s.tid ≡ t) × Contains (x ∷ xs) s
    by true test e more = let same : x ≡ s = cc in (rw (← same) (same_means x.tid t test), rw (← same) (contains-here x xs))
    by false test e more = let r = more e in (r.0, Contains-append_right (x ∷ []) xs s r.1)

-- a thread that stands there is found
pub found-standing : (t : ℕ) (all : List Standing) → 1 ≤ stands t all → (s : Standing) × (standing_of t all ≡ Some s)
found-standing t [] some = absurd (omega (arith, some))
found-standing t (x ∷ xs) some = by (x.tid == t) refl (found-standing t xs)
  where
    by : (b : Bool) → (x.tid == t) ≡ b → (1 ≤ stands t xs → (s : Standing) × (standing_of t xs ≡ Some s)) → (s : Standing) × (cond b (Some x) (standing_of t xs) ≡ Some s)
    by true test more = (x, refl)
    by false test more = more (omega (arith, count-no (λ x. x.tid == t) x xs test))

-- ---- without a thread

pub left_none : (t : ℕ) (all : List Standing) → stands t all ≡ 0 → left_by t all ≡ all
left_none t [] none = refl
left_none t (x ∷ xs) none = by (x.tid == t) refl (left_none t xs)
  where
    by : (b : Bool) → (x.tid == t) ≡ b → (stands t xs ≡ 0 → left_by t xs ≡ xs) → cond (not b) (x ∷ left_by t xs) (left_by t xs) ≡ x ∷ xs
    by true test more = absurd (omega (arith, count-yes (λ x. x.tid == t) x xs test))
    by false test more = ap (λ l. x ∷ l) (more (sym (count-no (λ x. x.tid == t) x xs test) ∙ none))

-- one that stands once is counted once
pub count-left : (p : Standing → Bool) (t : ℕ) (s : Standing) (all : List Standing) → standing_of t all ≡ Some s → stands t all ≤ 1 → count_by p all ≡ cond (p s) 1 0 + count_by p (left_by t all)
count-left p t s [] found once = absurd (cc found)
count-left p t s (x ∷ xs) found once = by (x.tid == t) refl found (count-left p t s xs)
  where
    by : (b : Bool) → (x.tid == t) ≡ b → cond b (Some x) (standing_of t xs) ≡ Some s → (standing_of t xs ≡ Some s → stands t xs ≤ 1 → count_by p xs ≡ cond (p s) 1 0 + count_by p (left_by t xs)) → count_by p (x ∷ xs) ≡ cond (p s) 1 0 + count_by p (cond (not b) (x ∷ left_by t xs) (left_by t xs))
    by true test e more =
        let same : x ≡ s = cc in
        let none : stands t xs ≡ 0 = omega (arith, count-yes (λ x. x.tid == t) x xs test) in
        rw (left_none t xs none, ← same) (count-cons p x xs)
    by false test e more =
        omega (arith, count-cons p x xs, count-cons p x (left_by t xs), more e (omega (arith, count-no (λ x. x.tid == t) x xs test)))
