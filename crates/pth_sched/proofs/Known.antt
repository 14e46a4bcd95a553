-- What the threads in the system give, one by one in the order of a rising list of all of them.
use Rattle.std.proofs.Common.{◌≡◌, ℕ, zero, suc, ◌+◌, ◌<◌, ◌≤◌, ◌↔◌, List, [], ◌++◌, length, map, get_or, Contains, Option, Some, None, IsSome, is_some, true, refl, sym, ap, ◌∙◌, subst, arith, inl, inr, add-one, append-nil}
use Rattle.std.specs.List.Sorted.{IsStrictlyIncreasing}
use Rattle.std.proofs.lemmas.Bool.{cases_lt}
use Rattle.std.proofs.lemmas.List.{get_or-map, length-map, get_or_default}
use Rattle.std.proofs.lemmas.List.Elements.{Contains-get_or}
use Rattle.std.proofs.lemmas.List.Kept.{AllPairs-from_increasing}
use Rattle.pth_base.specs.Naming.{by_slot, seen}
use Rattle.pth_base.specs.declared.ids.Tid.{Tid}
use Rattle.pth_threads.specs.declared.entry.Entry.{Entry}
use Rattle.pth_threads.specs.Threads.{ThreadsOf, number_of, tid_from, slot_of, entry_at}
use Rattle.pth_model.specs.State.{State}
use Rattle.pth_world.specs.World.{WorldOf}
use Rattle.pth_world.specs.Shows.{StandsFor}
use Rattle.pth_world.specs.Sound.{IsSound}

-- the number before place i, 0 before the first
unfoldable pub before : List ℕ → ℕ → ℕ
before ts zero = 0
before ts (suc i) = get_or ts i 0

none_unless : {A : Type 0} (o : Option A) → (IsSome o → ⊥) → o ≡ None
none_unless None never = refl
none_unless (Some x) never = absurd (never refl)

-- what each number gives, and what the first n give together; a number that no thread in the system has gives nothing
pub record Gathers {A : Type 0} (known : ℕ → Option Entry) (each_gives all_give : ℕ → List A) : Type 0 where
  pub first : all_give 0 ≡ []
  pub more : (n : ℕ) → all_give (suc n) ≡ all_give n ++ each_gives (suc n)
  pub nothing : (t : ℕ) → known t ≡ None → each_gives t ≡ []

module _ {A : Type 0} (known : ℕ → Option Entry) (f all : ℕ → List A) (g : Gathers known f all) where
  -- no thread has a number that is above m and not above n
  skip : (m n : ℕ) → m ≤ n → ((t : ℕ) → m < t → t ≤ n → known t ≡ None) → all n ≡ all m
  skip m zero le none = let e : zero ≡ m = omega arith in ap all e
  skip m (suc n) le none = elim (cases_lt m (suc n)) [
    | inl below ↦
        g.more n
        ∙ ap (λ (xs : List A). all n ++ xs) (g.nothing (suc n) (none (suc n) below (omega arith)))
        ∙ append-nil (all n)
        ∙ skip m n (omega arith) (λ t over under. none t over (omega arith))
    | inr same ↦ (let e : suc n ≡ m = omega arith in ap all e)
  ]

  -- the same, where n itself may be in the system
  ahead : (m n : ℕ) → m < n → ((t : ℕ) → m < t → t < n → known t ≡ None) → all n ≡ all m ++ f n
  ahead m zero lt none = absurd (omega arith)
  ahead m (suc n) lt none =
      g.more n ∙ ap (λ (xs : List A). xs ++ f (suc n)) (skip m n (omega arith) (λ t over under. none t over (omega arith)))

module _ (known : ℕ → Option Entry) where
  -- the list rises, has the number of each thread in the system, and no number that was not given to a thread
  pub record IsListed (made : ℕ) (ts : List ℕ) : Type 0 where
    pub rising : IsStrictlyIncreasing ts
    pub whole : (t : ℕ) → IsSome (known t) → Contains ts t
    pub used : (i : ℕ) → i < length ts → 0 < get_or ts i 0
    pub given : (i : ℕ) → i < length ts → get_or ts i 0 ≤ made

  module _ (made : ℕ) (ts : List ℕ) (l : IsListed made ts) where
    -- a later number is as high
    rise : (i j : ℕ) → i ≤ j → j < length ts → get_or ts i 0 ≤ get_or ts j 0
    rise i j le within = elim (cases_lt i j) [
      | inl lt ↦ (let h : get_or ts i 0 < get_or ts j 0 = AllPairs-from_increasing ts l.rising i j 0 lt within in omega arith)
      | inr same ↦ (let e : i ≡ j = omega arith in subst (λ (k : ℕ). get_or ts i 0 ≤ get_or ts k 0) e (omega arith))
    ]

    -- the numbers before a place are no higher than the last of them
    early : (i j : ℕ) → j < i → i ≤ length ts → get_or ts j 0 ≤ before ts i
    unfolding before
    early zero j lt le = absurd (omega arith)
    early (suc i) j lt le = rise j i (omega arith) (omega arith)

    -- and the next one is higher
    next : (i : ℕ) → i < length ts → before ts i < get_or ts i 0
    unfolding before
    next zero lt = l.used 0 lt
    next (suc i) lt = AllPairs-from_increasing ts l.rising i (suc i) 0 (omega arith) lt

    -- and so is none of them higher than the last that was made
    last : (i : ℕ) → i ≤ length ts → before ts i ≤ made
    unfolding before
    last zero le = omega arith
    last (suc i) le = l.given i (omega arith)

    -- between two numbers of the list there is no thread
    between : (i t : ℕ) → i ≤ length ts → before ts i < t → (i < length ts → t < get_or ts i 0) → known t ≡ None
    between i t le over under = none_unless (known t) (λ some.
        let p = l.whole t some in
        let at : get_or ts p.0 0 ≡ t = get_or_default ts p.0 0 t p.1 ∙ p.2 in
        elim (cases_lt p.0 i) [
          | inl lt ↦ omega (arith, early i p.0 lt le, at, over)
          | inr ge ↦ omega (arith, rise i p.0 ge p.1, at, under (omega (arith, ge, p.1)))
        ])

    module _ {A : Type 0} (f all : ℕ → List A) (g : Gathers known f all) where
      -- one more number of the list
      one-more : (i : ℕ) → i < length ts → all (before ts (i + 1)) ≡ all (before ts i) ++ f (get_or ts i 0)
      unfolding before
      one-more i lt = rw add-one (ahead known f all g (before ts i) (get_or ts i 0) (next i lt) (λ t over under. between i t (omega arith) over (λ _. under)))

      -- after the last number of the list
      no-more : all made ≡ all (before ts (length ts))
      no-more = skip known f all g (before ts (length ts)) made (last (length ts) (omega arith)) (λ t over under. between (length ts) t (omega arith) over (λ lt. absurd (omega arith)))

-- ---- the list of a world's threads

seen_only : {A : Type 0} (slots : ℕ → Option ℕ) (f : ℕ → Option A) (t : ℕ) → IsSome (seen None slots f t) → IsSome (slots t)
unfolding seen
seen_only slots f t some = by_cases (slots t) some
  where
    by_cases : (o : Option ℕ) → IsSome (by_slot None f o) → IsSome o
    by_cases (Some u) some = refl
    by_cases None some = some

not_none : {A : Type 0} (o : Option A) → IsSome o → o ≡ None → ⊥
not_none {A} o some none = let e : is_some {T = A} None ≡ true = subst IsSome none some in cc

-- the list rises and has exactly the threads of the world
pub record AreThreads {P S H : Type 0} (w : WorldOf P S H) (ts : List Tid) : Type 0 where
  pub listed : (t : Tid) → Contains ts t ↔ IsSome (slot_of w.threads.records t.0)
  pub rising : IsStrictlyIncreasing (map number_of ts)

-- the list as a call gave it
pub threads-listed : {P S H : Type 0} (w : WorldOf P S H) (x : ThreadsOf) (ts given : List Tid) → x ≡ w.threads.records → ts ≡ given → ((t : Tid) → Contains given t ↔ IsSome (slot_of x t.0)) → IsStrictlyIncreasing (map number_of given) → AreThreads w ts
threads-listed w x ts given same is listed rising = rw is (record { listed = λ t. subst (λ (y : ThreadsOf). Contains given t ↔ IsSome (slot_of y t.0)) same (listed t); rising = rising })

module _ {P S H : Type 0} (w : WorldOf P S H) (ts : List Tid) (are : AreThreads w ts) where
  -- what holds of each thread with a slot holds of each number of the list
  each : (Q : ℕ → Type 0) → ((t : ℕ) → IsSome (slot_of w.threads.records t) → Q t) → (i : ℕ) → i < length (map number_of ts) → Q (get_or (map number_of ts) i 0)
  each Q all i lt =
      let within : i < length ts = omega (arith, lt, length-map ts number_of) in
      let t = get_or ts i (tid_from 0) in
      subst Q (sym (get_or-map number_of ts i (tid_from 0) 0 within)) (all t.0 ((are.listed t).0 (Contains-get_or ts i (tid_from 0) within)))

  contains_number : (t : ℕ) → IsSome (slot_of w.threads.records t) → Contains (map number_of ts) t
  contains_number t some =
      let p = (are.listed (tid_from t)).1 some in
      let within : p.0 < length (map number_of ts) = omega (arith, p.1, length-map ts number_of) in
      (p.0, within, get_or-map number_of ts p.0 (tid_from t) t p.1 ∙ ap number_of p.2)

  module _ (s : State P S H) (sound : IsSound w.threads) (stands : StandsFor w s) where
    listed_for : IsListed s.control.threads.known s.control.threads.made (map number_of ts)
    listed_for = record {
      rising = are.rising;
      whole = λ t some. contains_number t (seen_only (slot_of w.threads.records) (entry_at w.threads.records) t (subst (λ (known : ℕ → Option Entry). IsSome (known t)) stands.control.threads.known some));
      used = each (λ t. 0 < t) above_zero;
      given = each (λ t. t ≤ s.control.threads.made) at_most;
    }
      where
        above_zero : (t : ℕ) → IsSome (slot_of w.threads.records t) → 0 < t
        above_zero zero some = absurd (not_none _ some sound.tied.zero)
        above_zero (suc t) some = omega arith

        at_most : (t : ℕ) → IsSome (slot_of w.threads.records t) → t ≤ s.control.threads.made
        at_most t some = rw stands.control.threads.made (elim (cases_lt w.threads.records.made t) [
          | inl lt ↦ absurd (not_none _ some (sound.fresh t lt))
          | inr ge ↦ ge
        ])

    module _ {A : Type 0} (f all : ℕ → List A) (g : Gathers s.control.threads.known f all) where
      -- before the first place
      pub gathered-none : all (before (map number_of ts) 0) ≡ []
      unfolding before
      gathered-none = g.first

      -- the thread at place i
      pub gathered-more : (i : ℕ) → i < length ts → all (before (map number_of ts) (i + 1)) ≡ all (before (map number_of ts) i) ++ f (get_or ts i (tid_from 0)).0
      gathered-more i lt =
          let within : i < length (map number_of ts) = omega (arith, lt, length-map ts number_of) in
          one-more s.control.threads.known s.control.threads.made (map number_of ts) listed_for f all g i within
          ∙ ap (λ (t : ℕ). all (before (map number_of ts) i) ++ f t) (get_or-map number_of ts i (tid_from 0) 0 lt)

      -- after the last place
      pub gathered-all : (i : ℕ) → i ≤ length ts → length ts ≤ i → all (before (map number_of ts) i) ≡ all s.control.threads.made
      gathered-all i le ge =
          let end : i ≡ length (map number_of ts) = omega (arith, le, ge, length-map ts number_of) in
          ap (λ (k : ℕ). all (before (map number_of ts) k)) end
          ∙ sym (no-more s.control.threads.known s.control.threads.made (map number_of ts) listed_for f all g)
