-- How long those have waited that are ready: what holds of the trail and of the ready queue while threads enter it, leave it, and are
-- taken.
use Rattle.std.proofs.Common.{◌≡◌, ℕ, zero, suc, ◌+◌, ◌<◌, ◌≤◌, ◌==◌, ◌&&◌, ◌||◌, not, Bool, true, false, cond, if◌then◌else◌, drop, length, ℤ, pos, negsuc, ◌+ℤ◌, ◌-ℤ◌, ◌≤ℤ◌, ◌<ℤ◌, int_lt, nat_lt, List, [], ◌∷◌, ◌++◌, count_by, get_or, map, All, AllPairs, Contains, Option, Some, None, is_some, refl, sym, ◌∙◌, ap, subst, inl, inr, ◌⊎◌, arith, length-drop, length-append, append_assoc, append-nil}
use Rattle.std.specs.List.{filter}
use Rattle.std.specs.List.Sorted.{IsPermutation}
use Rattle.std.proofs.lemmas.List.{drop-append-le, drop_all}
use Rattle.std.proofs.lemmas.List.Elements.{All-nil, All-cons, All-head, All-tail, All-push, All-weaker, All-filter, All-drop, All-contains, filter-append}
use Rattle.std.proofs.lemmas.List.Folds.{list_any-append, list_any_at, list_any_none}
use Rattle.std.proofs.lemmas.List.Kept.{AllPairs-cons, AllPairs-filter}
use Rattle.std.proofs.lemmas.List.Sorted.{IsPermutation-sym, All-permutation, sum_by-IsPermutation}
use Rattle.std.proofs.lemmas.List.Sums.{sum_by-cons, sum_by_push, sum_by-le-sum_by}
use Rattle.std.proofs.lemmas.Bool.{cond-true, cond-false, cases_Bool, cases_lt}
use Rattle.std.proofs.lemmas.Bool.Decides.{nat_tests}
use Rattle.std.proofs.lemmas.Int.{ints}
use Rattle.pth_base.proofs.Tables.{not_same, same_self}
use Rattle.pth_queue.specs.Ranking.{head_of}
use Rattle.pth_model.specs.Allowance.{Point, has_entry, standing_of, number_by, points, takes_another, names_another, waited, or_none, grace, is_before, number_before, new_at_top, newcomers, beyond, allowed}
use Rattle.pth_model.specs.Order.{StandsBefore, IsNumbered}
use Rattle.pth_model.specs.Part.{chosen}
use Rattle.pth_model.specs.Standing.{Standing, height, row_at, shown, left_by}
use Rattle.pth_model.proofs.Sorted.{pairs-head, pairs-nil, shown_in_order}

-- ---- counts

abbrev one_if : Bool → ℕ
one_if b = cond b 1 0

one_if_le : (b : Bool) → one_if b ≤ 1
one_if_le true = omega arith
one_if_le false = omega arith

count-cons : {X : Type 0} (f : X → Bool) (x : X) (xs : List X) → count_by f (x ∷ xs) ≡ one_if (f x) + count_by f xs
count-cons f x xs = sum_by-cons (λ x. cond (f x) 1 0) x xs

count-push : {X : Type 0} (f : X → Bool) (xs : List X) (x : X) → count_by f (xs ++ x ∷ []) ≡ count_by f xs + one_if (f x)
count-push f xs x = sum_by_push (λ x. cond (f x) 1 0) xs x

-- a stronger test passes less often
count-weaker : {X : Type 0} (f g : X → Bool) → ((x : X) → one_if (f x) ≤ one_if (g x)) → (xs : List X) → count_by f xs ≤ count_by g xs
count-weaker f g h xs = sum_by-le-sum_by (λ x. cond (f x) 1 0) (λ x. cond (g x) 1 0) xs h

-- a test and two that share it
count-split : {X : Type 0} (f g k : X → Bool) → ((x : X) → one_if (f x) ≤ one_if (g x) + one_if (k x)) → (xs : List X) → count_by f xs ≤ count_by g xs + count_by k xs
count-split f g k h [] = omega arith
count-split f g k h (x ∷ xs) = omega (arith, count-cons f x xs, count-cons g x xs, count-cons k x xs, h x, count-split f g k h xs)

count-drop : {X : Type 0} (f : X → Bool) (n : ℕ) (xs : List X) → count_by f xs ≤ n + count_by f (drop n xs)
count-drop f zero xs = omega arith
count-drop f (suc n) [] = omega arith
count-drop f (suc n) (x ∷ xs) = omega (arith, count-cons f x xs, count-drop f n xs, one_if_le (f x))

filter_if : {X : Type 0} (f p : X → Bool) (x : X) (xs : List X) (b : Bool) → p x ≡ b → count_by f (filter p xs) ≡ count_by (λ y. p y && f y) xs → count_by f (cond b (x ∷ filter p xs) (filter p xs)) ≡ one_if (b && f x) + count_by (λ y. p y && f y) xs
filter_if f p x xs true e h = omega (arith, count-cons f x (filter p xs), h)
filter_if f p x xs false e h = omega (arith, h)

count-filter : {X : Type 0} (f p : X → Bool) (xs : List X) → count_by f (filter p xs) ≡ count_by (λ y. p y && f y) xs
count-filter f p [] = refl
count-filter f p (x ∷ xs) = filter_if f p x xs (p x) refl (count-filter f p xs) ∙ sym (count-cons (λ y. p y && f y) x xs)

both_le : (a b : Bool) → one_if (a && b) ≤ one_if b
both_le true b = omega arith
both_le false b = omega arith

module _ (f : Standing → Bool) (t : ℕ) where
  abbrev stays : Standing → Bool
  stays x = not (x.tid == t) && f x

  -- no more pass once t has left
  count-left_le : (xs : List Standing) → count_by f (left_by t xs) ≤ count_by f xs
  count-left_le xs = omega (arith, count-filter f (λ x. not (x.tid == t)) xs, count-weaker stays f (λ x. both_le (not (x.tid == t)) (f x)) xs)

  -- and one fewer where the first of them is t's
  count-first_left : (x : Standing) (xs all : List Standing) → IsPermutation all (x ∷ xs) → x.tid ≡ t → one_if (f x) + count_by f (left_by t all) ≤ count_by f all
  count-first_left x xs all same own =
      let gone : one_if (stays x) ≡ 0 = ap (λ b. one_if (not b && f x)) (ap (λ i. x.tid == i) (sym own) ∙ same_self x.tid) in
      let rest = count-weaker stays f (λ y. both_le (not (y.tid == t)) (f y)) xs in
      let before = sum_by-IsPermutation (λ y. cond (f y) 1 0) all (x ∷ xs) same in
      let after = sum_by-IsPermutation (λ y. cond (stays y) 1 0) all (x ∷ xs) same in
      omega (arith, count-filter f (λ y. not (y.tid == t)) all, number_before, after, gone, rest, count-cons stays x xs, count-cons f x xs)

-- ---- points and newcomers

has-own : (xs : List Standing) (i : ℕ) (d : Standing) → i < length xs → has_entry (get_or xs i d).entry xs ≡ true
has-own xs i d low = list_any_at (λ x. x.entry == (get_or xs i d).entry) xs i d low (same_self (get_or xs i d).entry)

-- an entry that is not counted yet is none of these
has-none : (n e : ℕ) (xs : List Standing) → All (λ x. x.entry < n) xs → n ≤ e → has_entry e xs ≡ false
has-none n e xs low late = list_any_none (λ x. x.entry == e) xs (All-weaker (λ x. x.entry < n) (λ x. (x.entry == e) ≡ false) (λ x h. not_same x.entry e (λ same. omega (arith, h, late, same))) xs low)

-- an entry did not stand at a dispatch
abbrev Lacks : ℕ → Point → Type 0
Lacks e p = has_entry e p.ready ≡ false

points-none : (e : ℕ) (trail : List Point) → All (Lacks e) trail → points e trail ≡ []
unfolding points
points-none e [] h = refl
points-none e (p ∷ ps) h = cond-false (has_entry e p.ready) (p ∷ points e ps) (points e ps) (All-head (Lacks e) p ps h) ∙ points-none e ps (All-tail (Lacks e) p ps h)

points-push : (e : ℕ) (trail : List Point) (q : Point) → has_entry e q.ready ≡ true → points e (trail ++ q ∷ []) ≡ points e trail ++ q ∷ []
unfolding points
points-push e trail q h = filter-append (λ p. has_entry e p.ready) trail (q ∷ []) ∙ ap (λ (l : List Point). points e trail ++ l) (cond-true (has_entry e q.ready) (q ∷ []) [] h)

-- all that stood at these dispatches
abbrev seen_in : List Point → List Standing
seen_in [] = []
seen_in (p ∷ ps) = p.ready ++ seen_in ps

seen-none : (e : ℕ) (ps : List Point) → All (Lacks e) ps → has_entry e (seen_in ps) ≡ false
seen-none e [] h = refl
seen-none e (p ∷ ps) h =
    list_any-append (λ x. x.entry == e) p.ready (seen_in ps) ∙ ap (λ b. b || has_entry e (seen_in ps)) (All-head (Lacks e) p ps h) ∙ seen-none e ps (All-tail (Lacks e) p ps h)

newcomers-push : (seen : List Standing) (ps : List Point) (q : Point) → newcomers seen (ps ++ q ∷ []) ≡ newcomers seen ps + new_at_top (seen ++ seen_in ps) q.ready
unfolding newcomers
newcomers-push seen [] q = omega (arith, ap (λ l. new_at_top l q.ready) (append-nil seen))
newcomers-push seen (p ∷ ps) q = omega (arith, newcomers-push (seen ++ p.ready) ps q, ap (λ l. new_at_top l q.ready) (append_assoc seen p.ready (seen_in ps)))

-- ---- a wait after its grace

-- x stands before s, and is no newcomer at Top that is still to be counted
abbrev is_counted : Standing → List Standing → Standing → Bool
is_counted s seen x = is_before x s && not (x.top && not (has_entry x.entry seen))

-- how often another was taken, with those that are still to be taken before s while nobody new comes to Top
abbrev IsWithin : Standing → List Point → List Standing → Type 0
IsWithin s [] ready = Unit {0}
IsWithin s (p ∷ ps) ready = count_by (takes_another s) (p ∷ ps) + count_by (is_counted s (seen_in (p ∷ ps))) ready ≤ beyond s (p ∷ ps)

counted_or_new : (a b : Bool) → one_if a ≤ one_if (a && not b) + one_if b
counted_or_new true true = omega arith
counted_or_new true false = omega arith
counted_or_new false b = omega arith

first_le : (a b : Bool) → one_if (a && b) ≤ one_if a
first_le true b = one_if_le b
first_le false b = omega arith

module _ (s : Standing) where
  counted-before : (seen xs : List Standing) → count_by (is_counted s seen) xs ≤ number_before s xs
  counted-before seen xs = count-weaker (is_counted s seen) (λ x. is_before x s) (λ x. first_le (is_before x s) (not (x.top && not (has_entry x.entry seen)))) xs

  before-split : (seen xs : List Standing) → number_before s xs ≤ count_by (is_counted s seen) xs + new_at_top seen xs
  before-split seen xs = count-split (λ x. is_before x s) (is_counted s seen) (λ x. x.top && not (has_entry x.entry seen)) (λ x. counted_or_new (is_before x s) (x.top && not (has_entry x.entry seen))) xs

  -- at a dispatch another is taken only by name, or from before s
  abbrev Passes : Point → Type 0
  Passes q = one_if (takes_another s q) + number_before s (left_by q.taken q.ready) ≤ one_if (names_another s q) + number_before s q.ready

  within_taken : (later : List Point) (q : Point) → Passes q → IsWithin s later q.ready → IsWithin s (later ++ q ∷ []) (left_by q.taken q.ready)
  unfolding beyond newcomers
  within_taken [] q passes h =
      omega (arith, counted-before (seen_in (q ∷ [])) (left_by q.taken q.ready), passes)
  within_taken (p ∷ ps) q passes h =
      let left = counted-before (seen_in (p ∷ (ps ++ q ∷ []))) (left_by q.taken q.ready) in
      let stood = before-split (seen_in (p ∷ ps)) q.ready in
      omega (arith, left, passes, stood, newcomers-push p.ready ps q, count-push (takes_another s) (p ∷ ps) q, count-push (names_another s) (p ∷ ps) q, h)

  within_drop : (n : ℕ) (ps : List Point) (q : Point) → Passes q → IsWithin s (drop n ps) q.ready → IsWithin s (drop n (ps ++ q ∷ [])) (left_by q.taken q.ready)
  within_drop n ps q passes h = elim (cases_lt (length ps) n) [
    | inl few ↦ (
        let e : drop n (ps ++ q ∷ []) ≡ [] = drop_all n (ps ++ q ∷ []) (omega (arith, few, length-append ps (q ∷ []))) in
        subst (λ l. IsWithin s l (left_by q.taken q.ready)) (sym e) tt)
    | inr many ↦ subst (λ l. IsWithin s l (left_by q.taken q.ready)) (sym (drop-append-le n ps (q ∷ []) many)) (within_taken (drop n ps) q passes h)
  ]

  within_left : (t : ℕ) (later : List Point) (ready : List Standing) → IsWithin s later ready → IsWithin s later (left_by t ready)
  within_left t [] ready h = tt
  within_left t (p ∷ ps) ready h = omega (arith, count-left_le (is_counted s (seen_in (p ∷ ps))) t ready, h)

  within_entered : (new : Standing) (later : List Point) (ready : List Standing) → (0 < length later → is_counted s (seen_in later) new ≡ false) → IsWithin s later ready → IsWithin s later (new ∷ ready)
  within_entered new [] ready behind h = tt
  within_entered new (p ∷ ps) ready behind h =
      let none : one_if (is_counted s (seen_in (p ∷ ps)) new) ≡ 0 = ap one_if (behind (omega arith)) in
      omega (arith, count-cons (is_counted s (seen_in (p ∷ ps))) new ready, none, h)

  within_beyond : (later : List Point) (ready : List Standing) → IsWithin s later ready → count_by (takes_another s) later ≤ beyond s later
  unfolding beyond
  within_beyond [] ready h = omega arith
  within_beyond (p ∷ ps) ready h = omega (arith, h)

-- ---- where a new one stands

-- the rank of a wait that has passed its grace is above those at which threads come back
grace-covers : (top : ℕ) (rank : ℤ) → pos (top + 1) ≤ℤ (rank +ℤ pos (grace top rank))
unfolding grace
grace-covers top rank = by_rest (pos (top + 1) -ℤ rank) refl
  where
    by_rest : (d : ℤ) → (pos (top + 1) -ℤ rank) ≡ d → pos (top + 1) ≤ℤ (rank +ℤ pos (or_none d))
    by_rest (pos n) e = omega (arith, ints, e)
    by_rest (negsuc n) e = omega (arith, ints, e)

low_enough : (top raises since n : ℕ) (rank new : ℤ) → new ≤ℤ pos (top + 1) → since + n ≤ raises + 1 → grace top rank < n → (new -ℤ pos raises) ≤ℤ (rank -ℤ pos since)
low_enough top raises since n rank new low risen far = let covers = grace-covers top rank in omega (arith, ints)

tested_behind : (a b : ℤ) (i j : ℕ) → a ≤ℤ b → j < i → (if int_lt b a then true else (if int_lt a b then false else nat_lt i j)) ≡ false
tested_behind a b i j low late = grind (arith, ints, nat_tests)

-- who enters later at no greater height is behind
behind : (s new : Standing) → height new ≤ℤ height s → s.entry < new.entry → is_before new s ≡ false
unfolding is_before
behind s new low late = tested_behind (height new) (height s) new.entry s.entry low late

tested_before : (a b : ℤ) (i j raises : ℕ) → ((b +ℤ pos raises) <ℤ (a +ℤ pos raises)) ⊎ (((a +ℤ pos raises) ≡ (b +ℤ pos raises)) × (i < j)) → (if int_lt b a then true else (if int_lt a b then false else nat_lt i j)) ≡ true
tested_before a b i j raises (inl above) = grind (arith, ints, nat_tests)
tested_before a b i j raises (inr same) = let e = same.0 in let earlier = same.1 in grind (arith, ints, nat_tests)

before_is : (raises : ℕ) (x y : Standing) → StandsBefore raises x y → is_before x y ≡ true
unfolding is_before
before_is raises x y h = tested_before (height x) (height y) x.entry y.entry raises h

-- ---- what is kept

abbrev later_points : ℕ → Standing → List Point → List Point
later_points top s trail = drop (grace top s.rank) (points s.entry trail)

-- of the ready threads, after so many raises and entries, while so many turns are open, which is one or none
pub record AreInTime (top turns raises entries : ℕ) (trail : List Point) (ready : List Standing) : Type 0 where
  pub numbered : IsNumbered entries ready
  -- an entry that is still to come stood in no dispatch
  pub past : (e : ℕ) → entries ≤ e → All (Lacks e) trail
  -- who is ready stood in as many dispatches as there were raises since, at most, and in one more while a turn is open
  pub risen : All (λ s. s.since + length (points s.entry trail) ≤ raises + turns) ready
  pub within : All (λ s. IsWithin s (later_points top s trail) ready) ready

within_in_time : (top : ℕ) (trail : List Point) (ready : List Standing) (s : Standing) → IsWithin s (later_points top s trail) ready → waited trail s ≤ allowed top trail s
unfolding waited allowed
within_in_time top trail ready s h = omega (arith, count-drop (takes_another s) (grace top s.rank) (points s.entry trail), within_beyond s (later_points top s trail) ready h)

-- where nobody is ready
pub in_time_none : (top turns raises entries : ℕ) (trail : List Point) → ((e : ℕ) → entries ≤ e → All (Lacks e) trail) → AreInTime top turns raises entries trail []
in_time_none top turns raises entries trail past = record {
  numbered = record { counted = All-nil (λ x. x.entry < entries); falling = pairs-nil (λ x y. y.entry < x.entry) };
  past = past;
  risen = All-nil (λ s. s.since + length (points s.entry trail) ≤ raises + turns);
  within = All-nil (λ s. IsWithin s (later_points top s trail) []);
}

not_stale : (a t u : Bool) → t ≡ true → u ≡ false → (a && not (t && not u)) ≡ false
not_stale true t u e f = rw (e, f) refl
not_stale false t u e f = refl

module _ {top turns raises entries : ℕ} {trail : List Point} {ready : List Standing} (one : turns ≤ 1) (k : AreInTime top turns raises entries trail ready) where
  abbrev Risen : Standing → Type 0
  Risen s = s.since + length (points s.entry trail) ≤ raises + turns

  -- a new one is before nobody whose grace is over, or it is a newcomer at Top
  new_behind : (new s : Standing) → new.since ≡ raises → new.entry ≡ entries → (new.top ≡ false → new.rank ≤ℤ pos (top + 1)) → s.entry < entries → Risen s → 0 < length (later_points top s trail) → is_counted s (seen_in (later_points top s trail)) new ≡ false
  unfolding points
  new_behind new s since entry low earlier risen some = elim (cases_Bool new.top) [ inl t ↦ at_top t | inr f ↦ below f ]
    where
      later : List Point
      later = later_points top s trail

      unseen : has_entry new.entry (seen_in later) ≡ false
      unseen = seen-none new.entry later (All-drop (Lacks new.entry) (grace top s.rank) (points s.entry trail) (All-filter (λ p. has_entry s.entry p.ready) (Lacks new.entry) trail (k.past new.entry (omega (arith, entry)))))

      at_top : new.top ≡ true → is_counted s (seen_in later) new ≡ false
      at_top t = not_stale (is_before new s) new.top (has_entry new.entry (seen_in later)) t unseen

      below : new.top ≡ false → is_counted s (seen_in later) new ≡ false
      below f =
          let far = length-drop (grace top s.rank) (points s.entry trail) in
          let under : height new ≤ℤ height s = rw since (low_enough top raises s.since (length (points s.entry trail)) s.rank new.rank (low f) (omega (arith, risen, one)) (omega (arith, far, some))) in
          ap (λ b. b && not (new.top && not (has_entry new.entry (seen_in later)))) (behind s new under (omega (arith, earlier, entry)))

  pub in_time_entered : (new : Standing) → new.since ≡ raises → new.entry ≡ entries → (new.top ≡ false → new.rank ≤ℤ pos (top + 1)) → AreInTime top turns raises (entries + 1) trail (new ∷ ready)
  in_time_entered new since entry low =
      let none : points new.entry trail ≡ [] = points-none new.entry trail (k.past new.entry (omega (arith, entry))) in
      let nowhere : later_points top new trail ≡ [] = ap (drop (grace top new.rank)) none ∙ drop_all (grace top new.rank) [] (omega arith) in
      record {
        numbered = record {
          counted = All-cons (λ x. x.entry < entries + 1) new ready (omega (arith, entry)) (All-weaker (λ x. x.entry < entries) (λ x. x.entry < entries + 1) (λ x h. omega (arith, h)) ready k.numbered.counted);
          falling = AllPairs-cons (λ x y. y.entry < x.entry) new ready (λ i d here. let h = k.numbered.counted i d here in omega (arith, h, entry)) k.numbered.falling;
        };
        past = λ e late. k.past e (omega (arith, late));
        risen = All-cons Risen new ready (omega (arith, since, ap (λ (l : List Point). length l) none)) k.risen;
        within = All-cons (λ s. IsWithin s (later_points top s trail) (new ∷ ready)) new ready (subst (λ l. IsWithin new l (new ∷ ready)) (sym nowhere) tt)
            (λ i d here. let s = get_or ready i d in within_entered s new (later_points top s trail) ready (new_behind new s since entry low (k.numbered.counted i d here) (k.risen i d here)) (k.within i d here));
      }

  pub in_time_left : (t : ℕ) → AreInTime top turns raises entries trail (left_by t ready)
  in_time_left t = record {
    numbered = record {
      counted = All-filter (λ s. not (s.tid == t)) (λ x. x.entry < entries) ready k.numbered.counted;
      falling = AllPairs-filter (λ x y. y.entry < x.entry) (λ s. not (s.tid == t)) ready k.numbered.falling;
    };
    past = k.past;
    risen = All-filter (λ s. not (s.tid == t)) Risen ready k.risen;
    within = All-filter (λ s. not (s.tid == t)) (λ s. IsWithin s (later_points top s trail) (left_by t ready)) ready
        (λ i d here. let s = get_or ready i d in within_left s t (later_points top s trail) ready (k.within i d here));
  }

  -- entries into other queues are counted too
  pub in_time_counted : AreInTime top turns raises (entries + 1) trail ready
  in_time_counted = record {
    numbered = record { counted = All-weaker (λ x. x.entry < entries) (λ x. x.entry < entries + 1) (λ x h. omega (arith, h)) ready k.numbered.counted; falling = k.numbered.falling };
    past = λ e late. k.past e (omega (arith, late));
    risen = k.risen;
    within = k.within;
  }

  -- a raise ends the turn
  pub in_time_raised : AreInTime top 0 (raises + 1) entries trail ready
  in_time_raised = record {
    numbered = k.numbered;
    past = k.past;
    risen = All-weaker Risen (λ s. s.since + length (points s.entry trail) ≤ raises + 1 + 0) (λ s h. omega (arith, h, one)) ready k.risen;
    within = k.within;
  }

  pub in_time_open : AreInTime top 1 raises entries trail ready
  in_time_open = record {
    numbered = k.numbered;
    past = k.past;
    risen = All-weaker Risen (λ s. s.since + length (points s.entry trail) ≤ raises + 1) (λ s h. omega (arith, h, one)) ready k.risen;
    within = k.within;
  }

-- who is ready has waited in time
pub ready_in_time : {top turns raises entries : ℕ} {trail : List Point} {ready : List Standing} → AreInTime top turns raises entries trail ready → (s : Standing) → Contains ready s → waited trail s ≤ allowed top trail s
ready_in_time {top = top} {trail = trail} {ready = ready} k s here = within_in_time top trail ready s (All-contains (λ x. IsWithin x (later_points top x trail) ready) ready s k.within here)

-- ---- a dispatch

-- the numbers of one of these, if it is there
numbers_of : (f g : Standing → ℕ) (t : ℕ) (xs : List Standing) → All (λ s. f s ≤ g s) xs → number_by f (standing_of t xs) ≤ number_by g (standing_of t xs)
numbers_of f g t [] all = omega arith
numbers_of f g t (x ∷ xs) all = by_test (x.tid == t) (numbers_of f g t xs (All-tail (λ s. f s ≤ g s) x xs all))
  where
    by_test : (b : Bool) → number_by f (standing_of t xs) ≤ number_by g (standing_of t xs) → number_by f (cond b (Some x) (standing_of t xs)) ≤ number_by g (cond b (Some x) (standing_of t xs))
    by_test true rest = All-head (λ s. f s ≤ g s) x xs all
    by_test false rest = rest

module _ {top raises entries : ℕ} {trail : List Point} {ready : List Standing} (t : ℕ) (k : AreInTime top 0 raises entries trail ready) where
  abbrev taking : Option ℕ → Point
  taking named = record { ready = ready; taken = t; by_name = is_some named }

  own_passes : (s : Standing) (named : Option ℕ) → s.tid ≡ t → Passes s (taking named)
  own_passes s named own =
      let none : one_if (takes_another s (taking named)) ≡ 0 = ap (λ b. one_if (not b)) (ap (λ i. t == i) own ∙ same_self t) in
      omega (arith, none, count-left_le (λ x. is_before x s) t ready)

  -- the first of all comes before each other one
  first_passes : (places : List Standing) → IsPermutation ready places → AllPairs (StandsBefore raises) places → head_of (map (row_at raises) places) ≡ Some t → All (λ s. Passes s (taking None)) ready
  first_passes [] same sorted e = absurd (cc e)
  first_passes (x ∷ xs) same sorted e =
      let own : x.tid ≡ t = cc in
      let others = All-weaker (StandsBefore raises x) (λ s. Passes s (taking None))
      (λ s h. let first : one_if (is_before x s) ≡ 1 = ap one_if (before_is raises x s h) in omega (arith, count-first_left (λ y. is_before y s) t x xs ready same own, first, one_if_le (takes_another s (taking None))))
      xs (pairs-head (StandsBefore raises) x xs sorted) in
      All-permutation (λ s. Passes s (taking None)) (x ∷ xs) ready (IsPermutation-sym ready (x ∷ xs) same) (All-cons (λ s. Passes s (taking None)) x xs (own_passes x None own) others)

  all_pass : (named : Option ℕ) → chosen named (shown raises ready) ≡ Some t → All (λ s. Passes s (taking named)) ready
  all_pass (Some u) e = λ i d low. let s = get_or ready i d in omega (arith, count-left_le (λ x. is_before x s) t ready)
  all_pass None e =
      let o = shown_in_order raises entries ready k.numbered in
      first_passes o.places o.each_once o.in_order (ap head_of (sym o.shows) ∙ e)

  module _ (named : Option ℕ) (takes : chosen named (shown raises ready) ≡ Some t) where
    abbrev after : List Point
    after = trail ++ taking named ∷ []

    one_more : (i : ℕ) (d : Standing) → i < length ready → points (get_or ready i d).entry after ≡ points (get_or ready i d).entry trail ++ taking named ∷ []
    one_more i d low = points-push (get_or ready i d).entry trail (taking named) (has-own ready i d low)

    within_after : All (λ s. IsWithin s (later_points top s after) (left_by t ready)) ready
    within_after i d low =
        let s = get_or ready i d in
        subst (λ l. IsWithin s (drop (grace top s.rank) l) (left_by t ready)) (sym (one_more i d low)) (within_drop s (grace top s.rank) (points s.entry trail) (taking named) (all_pass named takes i d low) (k.within i d low))

    pub in_time_taken : AreInTime top 1 raises entries after (left_by t ready)
    in_time_taken = record {
      numbered = (in_time_left (omega arith) k t).numbered;
      past = λ e late. All-push (Lacks e) trail (taking named) (k.past e late) (has-none entries e ready k.numbered.counted late);
      risen = All-filter (λ s. not (s.tid == t)) (λ s. s.since + length (points s.entry after) ≤ raises + 1) ready
          (λ i d low. let s = get_or ready i d in let h = k.risen i d low in omega (arith, h, ap (λ (l : List Point). length l) (one_more i d low), length-append (points s.entry trail) (taking named ∷ [])));
      within = All-filter (λ s. not (s.tid == t)) (λ s. IsWithin s (later_points top s after) (left_by t ready)) ready within_after;
    }

    -- whoever was ready has waited in time, also at its own dispatch
    pub taken_in_time : number_by (waited after) (standing_of t ready) ≤ number_by (allowed top after) (standing_of t ready)
    taken_in_time = numbers_of (waited after) (allowed top after) t ready
        (All-weaker (λ s. IsWithin s (later_points top s after) (left_by t ready)) (λ s. waited after s ≤ allowed top after s) (within_in_time top after (left_by t ready)) ready within_after)
