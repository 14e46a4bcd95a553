-- At most 4,096 threads are in the system, since each has a slot of its own.
use Rattle.std.proofs.Common.{◌≡◌, ◌≢◌, ◌∙◌, ◌+◌, ◌≤◌, ◌<◌, ◌||◌, ℕ, suc, Bool, true, false, eqb, List, [], ◌∷◌, length, map, get_or, unwrap_or, Option, Some, None, IsSome, sym, ap, refl, subst, arith}
use Rattle.std.specs.List.{list_any}
use Rattle.std.proofs.lemmas.Bool.{eqb-true}
use Rattle.std.proofs.lemmas.List.{get_or-map, length-map}
use Rattle.std.proofs.lemmas.List.Elements.{Contains-get_or}
use Rattle.std.proofs.lemmas.List.Kept.{AllPairs-from_increasing}
use Rattle.std.proofs.lemmas.Map.Keys.{IsDistinct-from_apart}
use Rattle.std.proofs.lemmas.Map.Steps.{length-le_from_distinct_below}
use Rattle.pth_base.proofs.Tables.{not_same}
use Rattle.pth_base.specs.declared.ids.Tid.{Tid}
use Rattle.pth_threads.specs.Threads.{number_of, slot_of, tid_at, tid_from}
use Rattle.pth_world.specs.Sound.{IsSound}
use Rattle.pth_world.specs.World.{WorldOf}
use Rattle.pth_sched.proofs.Known.{AreThreads}

some_is : (o : Option ℕ) → IsSome o → o ≡ Some (unwrap_or o 0)
some_is None some = absurd (cc some)
some_is (Some u) some = refl

below_by : (xs : List ℕ) (n : ℕ) → ((i : ℕ) → i < length xs → get_or xs i 0 < n) → (q : ℕ) → list_any (eqb q) xs ≡ true → q < n
below_by [] n all q there = absurd (cc there)
below_by (x ∷ xs) n all q there = by_test (eqb q x) refl there (λ more. below_by xs n (λ i low. all (suc i) (omega arith)) q more)
  where
    by_test : (b : Bool) → eqb q x ≡ b → (b || list_any (eqb q) xs) ≡ true → (list_any (eqb q) xs ≡ true → q < n) → q < n
    by_test true is there more = subst (λ (k : ℕ). k < n) (sym (eqb-true q x is)) (all 0 (omega arith))
    by_test false is there more = more there

module _ {P S H : Type 0} (w : WorldOf P S H) (ts : List Tid) (are : AreThreads w ts) (sound : IsSound w.threads) where
  slot : Tid → ℕ
  slot t = unwrap_or (slot_of w.threads.records t.0) 0

  thread : ℕ → Tid
  thread i = get_or ts i (tid_from 0)

  slot_is : (i : ℕ) → i < length ts → slot_of w.threads.records (thread i).0 ≡ Some (slot (thread i))
  unfolding slot thread
  slot_is i low = some_is (slot_of w.threads.records (get_or ts i (tid_from 0)).0) ((are.listed (get_or ts i (tid_from 0))).0 (Contains-get_or ts i (tid_from 0) low))

  thread_at : (i : ℕ) → i < length ts → tid_at w.threads.records (slot (thread i)) ≡ (thread i).0
  thread_at i low = sound.tied.tid (thread i).0 (slot (thread i)) (slot_is i low)

  none_some : (o : Option ℕ) (u : ℕ) → o ≡ None → o ≡ Some u → ⊥
  none_some o u none some = cc

  used : (i : ℕ) → i < length ts → tid_at w.threads.records (slot (thread i)) ≢ 0
  used i low none_there =
      let number : (thread i).0 ≡ 0 = sym (thread_at i low) ∙ none_there in
      none_some _ _ sound.tied.zero (ap (slot_of w.threads.records) (sym number) ∙ slot_is i low)

  slots : List ℕ
  slots = map slot ts

  slots_at : (i d : ℕ) → i < length ts → get_or slots i d ≡ slot (thread i)
  unfolding slots thread
  slots_at i d low = get_or-map slot ts i (tid_from 0) d low

  slots_long : length slots ≡ length ts
  unfolding slots
  slots_long = length-map ts slot

  rising : (i j : ℕ) → i < j → j < length ts → (thread i).0 < (thread j).0
  unfolding thread
  rising i j lt low =
      let within : j < length (map number_of ts) = omega (arith, low, length-map ts number_of) in
      let at : get_or (map number_of ts) i 0 ≡ (get_or ts i (tid_from 0)).0 = get_or-map number_of ts i (tid_from 0) 0 (omega arith) in
      let behind : get_or (map number_of ts) j 0 ≡ (get_or ts j (tid_from 0)).0 = get_or-map number_of ts j (tid_from 0) 0 low in
      let less : get_or (map number_of ts) i 0 < get_or (map number_of ts) j 0 = AllPairs-from_increasing (map number_of ts) are.rising i j 0 lt within in
      omega (arith, at, behind, less)

  apart : (i j d : ℕ) → i < j → j < length slots → eqb (get_or slots i d) (get_or slots j d) ≡ false
  apart i j d lt low =
      let within : j < length ts = omega (arith, low, slots_long) in
      let before : i < length ts = omega arith in
      not_same (get_or slots i d) (get_or slots j d) (λ same.
      let one : slot (thread i) ≡ slot (thread j) = sym (slots_at i d before) ∙ same ∙ slots_at j d within in
      let number : (thread i).0 ≡ (thread j).0 = sym (thread_at i before) ∙ ap (tid_at w.threads.records) one ∙ thread_at j within in
      let less = rising i j lt within in
      absurd (omega (arith, number, less)))

  low_slot : (i : ℕ) → i < length slots → get_or slots i 0 < 4096
  low_slot i low =
      let within : i < length ts = omega (arith, low, slots_long) in
      subst (λ (u : ℕ). u < 4096) (sym (slots_at i 0 within)) (sound.tied.low (slot (thread i)) (used i within))

  pub few_threads : length ts ≤ 4096
  few_threads =
      let few = length-le_from_distinct_below slots 4096 (IsDistinct-from_apart eqb slots apart) (below_by slots 4096 low_slot) in
      omega (arith, few, slots_long)
