-- At a barrier there is always room for one more arrival: those that wait there are of other threads, each of which has one, and threads
-- have slots.
use Rattle.std.proofs.Common.{◌≡◌, ◌≢◌, ◌<◌, ◌≤◌, ◌⊎◌, ℕ, zero, suc, ◌+◌, ◌==◌, ◌&&◌, ◌||◌, not, nat_lt, Bool, true, false, cond, ℤ, List, [], ◌∷◌, map, length, count_by, Option, Some, None, IsSome, inl, inr, refl, sym, ◌∙◌, ap, subst, arith}
use Rattle.std.specs.List.{list_any}
use Rattle.std.proofs.lemmas.Bool.Decides.{nat_tests}
use Rattle.std.proofs.lemmas.Bool.{true≢false}
use Rattle.std.proofs.lemmas.List.Sums.{sum_by-cons}
use Rattle.std.proofs.lemmas.Option.{none-some}
use Rattle.pth_base.specs.Chain.{Distinct, StandsIn}
use Rattle.pth_base.specs.Limits.{thread_limit}
use Rattle.pth_base.proofs.Chains.{distinct-few}
use Rattle.pth_base.proofs.Tables.{same_self, same_means}
use Rattle.pth_cond.specs.Barriers.{Arrived, Barrier, arrival_limit, barriers_of, has_room, round_number_limit, takes_more}
use Rattle.pth_lock.specs.Objects.{object_named}
use Rattle.pth_threads.specs.Threads.{slot_of, tid_at}
use Rattle.pth_model.specs.Changes.{blocked_of}
use Rattle.pth_model.specs.State.{State}
use Rattle.pth_laws.specs.Arrivals.{arrivals_of}
use Rattle.pth_laws.specs.Clean.{has_arrived, has_arrived_here, is_of, round_held}
use Rattle.pth_laws.specs.Valid.{Lives}
use Rattle.pth_world.specs.Shows.{StandsFor}
use Rattle.pth_world.specs.Sound.{IsSound}
use Rattle.pth_world.specs.StateOf.{state_of}
use Rattle.pth_world.specs.World.{WorldOf}
use Rattle.pth_world.proofs.Slots.{low, name_is, used}
use Rattle.pth_world.proofs.Stores.{alive_known}
use Rattle.pth_world.proofs.StateOf.{stands_for_state}
use Rattle.pth_end.specs.Whole.{Whole, IsUnblocked}
use Rattle.pth_waits.specs.Room.{AreRoundsOver}

-- who is among these arrivals has one
abbrev is_among : ℕ → List Arrived → Bool
is_among u xs = list_any (λ (a : Arrived). a.tid == u) xs

count_cons : (u : ℕ) (x : Arrived) (xs : List Arrived) → count_by (λ (a : Arrived). a.tid == u) (x ∷ xs) ≡ cond (x.tid == u) 1 0 + count_by (λ (a : Arrived). a.tid == u) xs
count_cons u x xs = sum_by-cons (λ (a : Arrived). cond (a.tid == u) 1 0) x xs

counted : (u : ℕ) (xs : List Arrived) → is_among u xs ≡ true → 1 ≤ count_by (λ (a : Arrived). a.tid == u) xs
counted u [] h = absurd (true≢false (sym h))
counted u (x ∷ xs) h = by_test (x.tid == u) (count_cons u x xs) (counted u xs) h
  where
    by_test : (b : Bool) → count_by (λ (a : Arrived). a.tid == u) (x ∷ xs) ≡ cond b 1 0 + count_by (λ (a : Arrived). a.tid == u) xs → (is_among u xs ≡ true → 1 ≤ count_by (λ (a : Arrived). a.tid == u) xs) → (b || is_among u xs) ≡ true → 1 ≤ count_by (λ (a : Arrived). a.tid == u) (x ∷ xs)
    by_test true is more h = omega (arith, is)
    by_test false is more h = let some = more h in omega (arith, is, some)

fewer : (u n : ℕ) (x : Arrived) (xs : List Arrived) → count_by (λ (a : Arrived). a.tid == u) (x ∷ xs) ≤ n → count_by (λ (a : Arrived). a.tid == u) xs ≤ n
fewer u n x xs h = let is = count_cons u x xs in omega (arith, is, h)

-- nobody who is among the others has the first
apart : (x : Arrived) (xs : List Arrived) → count_by (λ (a : Arrived). a.tid == x.tid) (x ∷ xs) ≤ 1 → is_among x.tid xs ≡ true → ⊥
apart x xs once among =
    let some = counted x.tid xs among in
    let is : count_by (λ (a : Arrived). a.tid == x.tid) (x ∷ xs) ≡ 1 + count_by (λ (a : Arrived). a.tid == x.tid) xs = count_cons x.tid x xs ∙ ap (λ (b : Bool). cond b 1 0 + count_by (λ (a : Arrived). a.tid == x.tid) xs) (same_self x.tid) in
    absurd (omega (arith, some, is, once))

or_zero : Option ℕ → ℕ
or_zero None = 0
or_zero (Some n) = n

-- threads that have slots, with one arrival each
module _ (slot : ℕ → Option ℕ) (name : ℕ → ℕ) (tied : (t u : ℕ) → slot t ≡ Some u → name u ≡ t) where
  abbrev place : ℕ → ℕ
  place t = or_zero (slot t)

  abbrev places : List Arrived → List ℕ
  places xs = map (λ (a : Arrived). place a.tid) xs

  placed : (t : ℕ) → IsSome (slot t) → slot t ≡ Some (place t)
  unfolding or_zero
  placed t known = by_slot (slot t) refl known
    where
      by_slot : (o : Option ℕ) → slot t ≡ o → IsSome o → slot t ≡ Some (or_zero (slot t))
      by_slot None at known = absurd (true≢false (sym known))
      by_slot (Some u) at known = at ∙ ap (λ o. Some (or_zero o)) (sym at)

  -- at one slot there is one thread
  same_place : (t u : ℕ) → IsSome (slot t) → IsSome (slot u) → place t ≡ place u → t ≡ u
  same_place t u one two same = sym (tied t (place t) (placed t one)) ∙ ap name same ∙ tied u (place u) (placed u two)

  -- these have slots
  abbrev HaveSlots : List Arrived → Type 0
  HaveSlots xs = (u : ℕ) → is_among u xs ≡ true → IsSome (slot u)

  first_among : (x : Arrived) (xs : List Arrived) → is_among x.tid (x ∷ xs) ≡ true
  first_among x xs = rw (same_self x.tid) refl

  more_among : (u : ℕ) (x : Arrived) (xs : List Arrived) → is_among u xs ≡ true → is_among u (x ∷ xs) ≡ true
  more_among u x xs h = by_test (x.tid == u)
    where
      by_test : (b : Bool) → (b || is_among u xs) ≡ true
      by_test true = refl
      by_test false = h

  -- a place of these is that of one
  record IsPlaceOf (p : ℕ) (xs : List Arrived) : Type 0 where
    who : ℕ
    among : is_among who xs ≡ true
    here : p ≡ place who

  place_of : (p : ℕ) (xs : List Arrived) → StandsIn p (places xs) → IsPlaceOf p xs
  place_of p [] h = absurd h
  place_of p (x ∷ xs) (inl same) = record { who = x.tid; among = first_among x xs; here = same }
  place_of p (x ∷ xs) (inr h) = let r = place_of p xs h in record { who = r.who; among = more_among r.who x xs r.among; here = r.here }

  distinct_places : (xs : List Arrived) → HaveSlots xs → ((u : ℕ) → count_by (λ (a : Arrived). a.tid == u) xs ≤ 1) → Distinct (places xs)
  distinct_places [] slots once = tt
  distinct_places (x ∷ xs) slots once = (
    (λ p h same.
        let r = place_of p xs h in
        let own = same_place r.who x.tid (slots r.who (more_among r.who x xs r.among)) (slots x.tid (first_among x xs)) (sym r.here ∙ same) in
        apart x xs (once x.tid) (subst (λ (u : ℕ). is_among u xs ≡ true) own r.among)),
    distinct_places xs (λ u h. slots u (more_among u x xs h)) (λ u. fewer u 1 x xs (once u)),
  )

  length_places : (xs : List Arrived) → length (places xs) ≡ length xs
  length_places [] = refl
  length_places (x ∷ xs) = ap (λ n. suc n) (length_places xs)

-- the round of one who is among arrivals
record HasRound (u : ℕ) (xs : List Arrived) : Type 0 where
  round : ℕ
  has : list_any (is_of round u) xs ≡ true

round_among : (u : ℕ) (xs : List Arrived) → is_among u xs ≡ true → HasRound u xs
round_among u [] h = absurd (true≢false (sym h))
round_among u (x ∷ xs) h = by_test (x.tid == u) refl (round_among u xs) h
  where
    or_true : (b : Bool) → (b || true) ≡ true
    or_true true = refl
    or_true false = refl

    by_test : (b : Bool) → (x.tid == u) ≡ b → (is_among u xs ≡ true → HasRound u xs) → (b || is_among u xs) ≡ true → HasRound u (x ∷ xs)
    by_test true own more h = record { round = x.round; has = rw (same_self x.round, own) refl }
    by_test false other more h = let r = more h in record { round = r.round; has = ap (λ (b : Bool). is_of r.round u x || b) r.has ∙ or_true (is_of r.round u x) }

module _ {P S H : Type 0} (w : WorldOf P S H) (full : Whole w) (t : ℕ) (known : IsSome (slot_of w.threads.records t)) (free : IsUnblocked w t) where
  sound : IsSound w.threads
  sound = full.formed.sound

  stands : StandsFor w (state_of w)
  stands = stands_for_state w sound

  module _ (b : ℕ) (y : Barrier) (at : barriers_of w.barriers b ≡ Some y) where
    -- who has an arrival there lives, and waits for its round
    arrived_so : (u round : ℕ) → list_any (is_of round u) y.arrivals ≡ true → Lives (state_of w) u × (round_held (blocked_of (state_of w).control u) ≡ Some (b, round))
    unfolding state_of
    arrived_so u round has = full.waits.arrivals b round u (ap (has_arrived_here round u) at ∙ has)

    slots : (u : ℕ) → is_among u y.arrivals ≡ true → IsSome (slot_of w.threads.records u)
    unfolding state_of
    slots u among = let r = round_among u y.arrivals among in alive_known w.threads u (arrived_so u r.round r.has).0

    not_own : (u : ℕ) → is_among u y.arrivals ≡ true → u ≢ t
    not_own u among same =
        let r = round_among u y.arrivals among in
        let held = (arrived_so u r.round r.has).1 in
        let none : round_held (blocked_of (state_of w).control u) ≡ None = ap (λ (i : ℕ). round_held (blocked_of (state_of w).control i)) same ∙ ap round_held (free (state_of w).control stands.control) in
        none-some (b, r.round) (sym none ∙ held)

    once : (u : ℕ) → count_by (λ (a : Arrived). a.tid == u) y.arrivals ≤ 1
    unfolding state_of
    once u = subst (λ (o : Option Barrier). arrivals_of u o ≤ 1) at (full.waits.once b u)

    abbrev spot : ℕ → ℕ
    spot = place (slot_of w.threads.records) (tid_at w.threads.records) sound.tied.tid

    spot_low : (u : ℕ) → IsSome (slot_of w.threads.records u) → spot u < thread_limit
    spot_low u some = low w.threads u (spot u) sound (placed (slot_of w.threads.records) (tid_at w.threads.records) sound.tied.tid u some)

    all_low : (p : ℕ) → StandsIn p (spot t ∷ places (slot_of w.threads.records) (tid_at w.threads.records) sound.tied.tid y.arrivals) → p < thread_limit
    all_low p (inl same) = subst (λ (n : ℕ). n < thread_limit) (sym same) (spot_low t known)
    all_low p (inr h) =
        let r = place_of (slot_of w.threads.records) (tid_at w.threads.records) sound.tied.tid p y.arrivals h in
        subst (λ (n : ℕ). n < thread_limit) (sym r.here) (spot_low r.who (slots r.who r.among))

    all_apart : Distinct (spot t ∷ places (slot_of w.threads.records) (tid_at w.threads.records) sound.tied.tid y.arrivals)
    all_apart = (
      (λ p h same.
          let r = place_of (slot_of w.threads.records) (tid_at w.threads.records) sound.tied.tid p y.arrivals h in
          not_own r.who r.among (same_place (slot_of w.threads.records) (tid_at w.threads.records) sound.tied.tid r.who t (slots r.who r.among) known (sym r.here ∙ same))),
      distinct_places (slot_of w.threads.records) (tid_at w.threads.records) sound.tied.tid y.arrivals slots once,
    )

    pub arrivals_few : length y.arrivals < arrival_limit
    arrivals_few =
        let few = distinct-few (spot t ∷ places (slot_of w.threads.records) (tid_at w.threads.records) sound.tied.tid y.arrivals) thread_limit all_apart all_low in
        let same = length_places (slot_of w.threads.records) (tid_at w.threads.records) sound.tied.tid y.arrivals in
        omega (arith, few, same)

  -- so a barrier that can take no arrival of t has no number left for its rounds
  pub room_wanted : (b : ℤ) → has_room (barriers_of w.barriers) b ≡ false → AreRoundsOver (barriers_of w.barriers) b
  room_wanted b none = by_barrier (barriers_of w.barriers (object_named b)) refl none
    where
      by_test : (y : Barrier) (few below : Bool) → few ≡ true → nat_lt y.round round_number_limit ≡ below → (few && below) ≡ false → round_number_limit ≤ y.round
      by_test y true false in_time is h = grind (arith, nat_tests)
      by_test y true true in_time is h = absurd (true≢false h)
      by_test y false below in_time is h = absurd (true≢false (sym in_time))

      lt_true : (m n : ℕ) → m < n → nat_lt m n ≡ true
      lt_true m n h = grind (arith, nat_tests)

      by_barrier : (o : Option Barrier) → barriers_of w.barriers (object_named b) ≡ o → takes_more o ≡ false → AreRoundsOver (barriers_of w.barriers) b
      by_barrier None at h = absurd (true≢false h)
      by_barrier (Some y) at h = record {
        barrier = y;
        there = at;
        over = by_test y (nat_lt (length y.arrivals) arrival_limit) (nat_lt y.round round_number_limit) (lt_true (length y.arrivals) arrival_limit (arrivals_few (object_named b) y at)) refl h;
      }
