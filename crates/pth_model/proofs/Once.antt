-- How often a thread stands in the queues of a state, after one change.
use Rattle.std.proofs.Common.{◌≡◌, ◌≢◌, ℕ, ◌+◌, ◌≤◌, ◌<◌, ◌==◌, not, Bool, true, false, cond, if◌then◌else◌, ℤ, List, [], ◌∷◌, map, All, Option, Some, None, is_some, option_map, refl, sym, ◌∙◌, ap, arith}
use Rattle.std.proofs.lemmas.List.Elements.{All-head, All-tail, All-cons, All-weaker, All-filter, All-map}
use Rattle.std.proofs.lemmas.List.Sorted.{All-permutation}
use Rattle.std.proofs.lemmas.List.Sums.{sum_by-cons}
use Rattle.pth_base.specs.Program.{Functions}
use Rattle.pth_base.proofs.Tables.{same_means, not_same, put_by}
use Rattle.pth_queue.specs.declared.ranked.Ranked.{Ranked}
use Rattle.pth_queue.specs.declared.queue.Queue.{Queue}
use Rattle.pth_queue.specs.declared.queue.Queue.TheVariants.{New, Ready, Waiting, Suspended, Dead}
use Rattle.pth_threads.specs.declared.entry.Change.{Change}
use Rattle.pth_threads.specs.declared.entry.Entry.{Entry}
use Rattle.pth_threads.specs.declared.entry.NewThread.{NewThread}
use Rattle.pth_threads.specs.Threads.{changed}
use Rattle.pth_model.specs.Standing.{Standing, order, row_at, shown, left_by, is_queue, raises_of}
use Rattle.pth_model.specs.State.{Control, queue}
use Rattle.pth_model.specs.Changes.{enters, leaves_queue, makes, forgets}
use Rattle.pth_model.specs.Changes as changes
use Rattle.pth_model.specs.Changes.{holders}
use Rattle.pth_model.specs.Order.{stands, times_listed}
use Rattle.pth_model.proofs.Sorted.{same-order}

-- ---- one queue

pub stands-cons : (t : ℕ) (x : Standing) (xs : List Standing) → stands t (x ∷ xs) ≡ cond (x.tid == t) 1 0 + stands t xs
stands-cons t x xs = sum_by-cons (λ x. cond (x.tid == t) 1 0) x xs

left_by_test : (t u : ℕ) (x : Standing) (xs : List Standing) (b : Bool) → stands u (left_by t xs) ≤ stands u xs → stands u (cond (not b) (x ∷ left_by t xs) (left_by t xs)) ≤ stands u (x ∷ xs)
left_by_test t u x xs true h = omega (arith, stands-cons u x xs)
left_by_test t u x xs false h = omega (arith, stands-cons u x xs, stands-cons u x (left_by t xs))

stands-left_le : (t u : ℕ) (xs : List Standing) → stands u (left_by t xs) ≤ stands u xs
stands-left_le t u [] = omega arith
stands-left_le t u (x ∷ xs) = left_by_test t u x xs (x.tid == t) (stands-left_le t u xs)

own_by_test : (t : ℕ) (x : Standing) (xs : List Standing) (b : Bool) → (x.tid == t) ≡ b → stands t (left_by t xs) ≡ 0 → stands t (cond (not b) (x ∷ left_by t xs) (left_by t xs)) ≡ 0
own_by_test t x xs true test h = h
own_by_test t x xs false test h = stands-cons t x (left_by t xs) ∙ rw (test, h)

stands-left : (t : ℕ) (xs : List Standing) → stands t (left_by t xs) ≡ 0
stands-left t [] = refl
stands-left t (x ∷ xs) = own_by_test t x xs (x.tid == t) refl (stands-left t xs)

-- a number above all does not stand there
stands-above : (t n : ℕ) (xs : List Standing) → n < t → All (λ x. x.tid ≤ n) xs → stands t xs ≡ 0
stands-above t n [] above low = refl
stands-above t n (x ∷ xs) above low =
    let here : x.tid ≤ n = All-head (λ x. x.tid ≤ n) x xs low in
    let other : (x.tid == t) ≡ false = not_same x.tid t (omega arith) in
    stands-cons t x xs ∙ rw (other, stands-above t n xs above (All-tail (λ x. x.tid ≤ n) x xs low))

-- what holds of those that stand in a queue holds of those whose rows are shown
pub shown-all : (P : ℕ → Type 0) (raises : ℕ) (all : List Standing) → All (λ x. P x.tid) all → All P (holders (shown raises all))
unfolding shown
shown-all P raises all each =
    All-map P (λ (r : Ranked). r.holder) (map (row_at raises) (order all))
    (All-map (λ (r : Ranked). P r.holder) (row_at raises) (order all) (All-permutation (λ x. P x.tid) all (order all) (same-order all) each))

-- ---- every queue of a state

some_before : {A : Type 0} (g : A → A) (o : Option A) → is_some (option_map g o) ≡ true → is_some o ≡ true
some_before g (Some x) h = refl
some_before g None h = h

pub record SetsOf (made : ℕ) (known : ℕ → Option Entry) (all : Queue → List Standing) : Type 0 where
  pub once : (t : ℕ) → times_listed t all ≤ 1
  pub low : (q : Queue) → All (λ x. x.tid ≤ made) (all q)
  -- who is in the system was made
  pub numbered : (t : ℕ) → is_some (known t) ≡ true → t ≤ made

pub at_most_one : (b : Bool) → cond b 1 0 ≤ 1
at_most_one true = omega arith
at_most_one false = omega arith

module _ {P S H : Type 0} where
  abbrev pub times_in : Control P S H → ℕ → ℕ
  times_in s t = times_listed t s.threads.standing

  module _ (s : Control P S H) where
    times-enter : (t : ℕ) (q : Queue) (rank : ℤ) (top : Bool) (u : ℕ) → times_in (enters t q rank top s) u ≡ cond (t == u) 1 0 + times_in s u
    unfolding enters
    times-enter t q rank top u = by_queue q
      where
        here : Queue → Standing
        here p = record { tid = t; rank = rank; since = raises_of s.threads.raises p; entry = s.threads.entries; top = top }

        more : (p : Queue) → stands u (here p ∷ s.threads.standing p) ≡ cond (t == u) 1 0 + stands u (s.threads.standing p)
        more p = stands-cons u (here p) (s.threads.standing p)

        by_queue : (p : Queue) → times_in (enters t p rank top s) u ≡ cond (t == u) 1 0 + times_in s u
        by_queue New = omega (arith, more New)
        by_queue Ready = omega (arith, more Ready)
        by_queue Waiting = omega (arith, more Waiting)
        by_queue Suspended = omega (arith, more Suspended)
        by_queue Dead = omega (arith, more Dead)

    pub times-leave_le : (t u : ℕ) → times_in (leaves_queue t s) u ≤ times_in s u
    unfolding leaves_queue
    times-leave_le t u =
        let less : (q : Queue) → stands u (left_by t (s.threads.standing q)) ≤ stands u (s.threads.standing q) = λ q. stands-left_le t u (s.threads.standing q) in
        omega (arith, less New, less Ready, less Waiting, less Suspended, less Dead)

    pub times-leave : (t : ℕ) → times_in (leaves_queue t s) t ≡ 0
    unfolding leaves_queue
    times-leave t =
        let none : (q : Queue) → stands t (left_by t (s.threads.standing q)) ≡ 0 = λ q. stands-left t (s.threads.standing q) in
        omega (arith, none New, none Ready, none Waiting, none Suspended, none Dead)

  -- no thread stands twice, and those that stand were made
  abbrev pub Sets : Control P S H → Type 0
  Sets s = SetsOf s.threads.made s.threads.known s.threads.standing

  module _ (s : Control P S H) (sets : Sets s) where
    once_by : (t u : ℕ) (b : Bool) → (t == u) ≡ b → times_in s t ≡ 0 → cond b 1 0 + times_in s u ≤ 1
    once_by t u true test none = let same : t ≡ u = same_means t u test in let other : times_in s u ≡ 0 = ap (times_in s) (sym same) ∙ none in omega (arith, other)
    once_by t u false test none = omega (arith, sets.once u)

    pub sets-enter : (t : ℕ) (q : Queue) (rank : ℤ) (top : Bool) → times_in s t ≡ 0 → t ≤ s.threads.made → Sets (enters t q rank top s)
    unfolding enters
    sets-enter t q rank top none low = record {
      once = λ u. omega (arith, times-enter s t q rank top u, once_by t u (t == u) refl none);
      low = λ p. entered p (is_queue p q);
      numbered = sets.numbered;
    }
      where
        Low : Standing → Type 0
        Low x = x.tid ≤ s.threads.made

        here : Standing
        here = record { tid = t; rank = rank; since = raises_of s.threads.raises q; entry = s.threads.entries; top = top }

        entered : (p : Queue) (b : Bool) → All Low (if b then here ∷ s.threads.standing p else s.threads.standing p)
        entered p true = All-cons Low here (s.threads.standing p) low (sets.low p)
        entered p false = sets.low p

    pub sets-leave : (t : ℕ) → Sets (leaves_queue t s)
    unfolding leaves_queue
    sets-leave t = record {
      once = λ u. omega (arith, times-leave_le s t u, sets.once u);
      low = λ q. All-filter (λ x. not (x.tid == t)) (λ x. x.tid ≤ s.threads.made) (s.threads.standing q) (sets.low q);
      numbered = sets.numbered;
    }

    pub times-above : (t : ℕ) → s.threads.made < t → times_in s t ≡ 0
    times-above t above =
        let none : (q : Queue) → stands t (s.threads.standing q) ≡ 0 = λ q. stands-above t s.threads.made (s.threads.standing q) above (sets.low q) in
        omega (arith, none New, none Ready, none Waiting, none Suspended, none Dead)

    -- one more thread was made
    pub sets-thread : (f : P → Functions S H) (b : ℕ) (v : ℤ) (of : NewThread) → Sets (makes f b v of s)
    unfolding makes
    sets-thread f b v of = record {
      once = sets.once;
      low = λ q. All-weaker (λ x. x.tid ≤ s.threads.made) (λ x. x.tid ≤ s.threads.made + 1) (λ x h. omega (arith, h)) (s.threads.standing q) (sets.low q);
      numbered = λ t. let Low : Option Entry → Type 0 = λ o. is_some o ≡ true → t ≤ s.threads.made + 1 in put_by Low s.threads.known (s.threads.made + 1) _ t (λ here e. omega (arith, here)) (λ other e. let h = sets.numbered t e in omega (arith, h));
    }

    -- a field of a record was set
    pub sets-change : (t : ℕ) (c : Change) → Sets (changes.sets t c s)
    unfolding changes.sets
    sets-change t c = record {
      once = sets.once;
      low = sets.low;
      numbered = λ u. let Low : Option Entry → Type 0 = λ o. is_some o ≡ true → u ≤ s.threads.made in put_by Low s.threads.known t _ u (λ here e. sets.numbered u (rw here (some_before (changed c) (s.threads.known t) e))) (λ other. sets.numbered u);
    }

    -- a thread is gone
    pub sets-forget : (t : ℕ) → Sets (forgets t s)
    unfolding forgets
    sets-forget t = record {
      once = sets.once;
      low = sets.low;
      numbered = λ u. let Low : Option Entry → Type 0 = λ o. is_some o ≡ true → u ≤ s.threads.made in put_by Low s.threads.known t None u (λ here e. absurd (cc e)) (λ other. sets.numbered u);
    }

    -- another that enters changes nothing for u
    pub times-enter_other : (t : ℕ) (q : Queue) (rank : ℤ) (top : Bool) (u : ℕ) → t ≢ u → times_in (enters t q rank top s) u ≡ times_in s u
    times-enter_other t q rank top u other = times-enter s t q rank top u ∙ rw (not_same t u other) (omega arith)

    pub rows-low : (q : Queue) → All (λ t. t ≤ s.threads.made) (holders (queue s q))
    rows-low q = shown-all (λ t. t ≤ s.threads.made) (raises_of s.threads.raises q) (s.threads.standing q) (sets.low q)
