-- The lanes of tracks, which stand by rising number, are those of all threads below a number.
use Rattle.std.proofs.Common.{◌≡◌, ◌∙◌, ◌⊎◌, inl, inr, IsSome, ℕ, zero, suc, ◌+◌, ◌<◌, ◌≤◌, ◌==◌, Bool, true, false, if◌then◌else◌, List, [], ◌∷◌, ◌++◌, flat_map, Option, Some, None, refl, sym, ap, subst, arith}
use Rattle.std.specs.BTreeMap.{BTreeMap, get, IsOrdered, is_at}
use Rattle.std.specs.List.{range_with_len, AllByRecursion}
use Rattle.std.specs.Map.{lookup, keys_of}
use Rattle.std.specs.List.Sorted.{IsStrictlySortedBy}
use Rattle.std.specs.Ordering.{nat_cmp}
use Rattle.std.specs.declared.cmp.Ordering.TheVariants.{Less}
use Rattle.std.proofs.lemmas.Bool.{cases_eq, false≢true}
use Rattle.std.proofs.lemmas.Bool.Decides.{nat_tests}
use Rattle.std.proofs.lemmas.Map.Keys.{sorted_head, sorted_tail}
use Rattle.pth_base.proofs.Tables.{same_means}
use Rattle.pth_drawing.specs.declared.track.Track.{Track}
use Rattle.pth_drawing.specs.Charts.{LaneSeen}
use Rattle.pth_drawing.specs.Tracks.{TrackSeen, track_seen, new_track, track_or_new, track_in, settle, lane_if, lane_in, lanes_in}
use Rattle.pth_drawing.specs.Follow.{lanes_below, AreBelow}

-- ---- keys in order

-- entries from a number on, by rising number
Rises : ℕ → List (ℕ × Track) → Type 0
Rises a [] = Unit {0}
Rises a (e ∷ es) = (a ≤ e.0) × Rises (e.0 + 1) es

below : (m n : ℕ) → nat_cmp m n ≡ Less → m + 1 ≤ n
below m n less = grind (arith, nat_tests)

rises_after : (a : ℕ) (es : List (ℕ × Track)) → AllByRecursion (λ k. nat_cmp a k ≡ Less) (keys_of es) → IsStrictlySortedBy nat_cmp (keys_of es) → Rises (a + 1) es
unfolding Rises
rises_after a [] all sorted = tt
rises_after a (e ∷ es) all sorted = (below a e.0 all.0, rises_after e.0 es (sorted_head nat_cmp e.0 (keys_of es) sorted) (sorted_tail nat_cmp e.0 (keys_of es) sorted))

rises_all : (es : List (ℕ × Track)) → IsStrictlySortedBy nat_cmp (keys_of es) → Rises 0 es
unfolding Rises
rises_all [] sorted = tt
rises_all (e ∷ es) sorted = (omega arith, rises_after e.0 es (sorted_head nat_cmp e.0 (keys_of es) sorted) (sorted_tail nat_cmp e.0 (keys_of es) sorted))

at : ℕ → List (ℕ × Track) → Option Track
at t es = lookup (is_at (nat_cmp t)) es

at_here : (e : ℕ × Track) (es : List (ℕ × Track)) → at e.0 (e ∷ es) ≡ Some e.1
unfolding at
at_here e es =
    let here : is_at (nat_cmp e.0) e.0 ≡ true = grind (arith, nat_tests) in
    ap (λ b. if b then Some e.1 else lookup (is_at (nat_cmp e.0)) es) here

at_later : (t : ℕ) (e : ℕ × Track) (es : List (ℕ × Track)) → e.0 < t → at t (e ∷ es) ≡ at t es
unfolding at
at_later t e es above =
    let apart : is_at (nat_cmp t) e.0 ≡ false = grind (arith, nat_tests) in
    ap (λ b. if b then Some e.1 else lookup (is_at (nat_cmp t)) es) apart

at_none : (t a : ℕ) (es : List (ℕ × Track)) → t < a → Rises a es → at t es ≡ None
unfolding at Rises
at_none t a [] low rises = refl
at_none t a (e ∷ es) low rises =
    let above : t < e.0 = omega (arith, rises.0) in
    let apart : is_at (nat_cmp t) e.0 ≡ false = grind (arith, nat_tests) in
    ap (λ b. if b then Some e.1 else lookup (is_at (nat_cmp t)) es) apart
    ∙ at_none t (e.0 + 1) es (omega (arith, rises.0)) rises.1

-- ---- lanes

module _ (columns : ℕ) where
  lane_at : ℕ → Option Track → List LaneSeen
  lane_at t None = []
  lane_at t (Some x) = lane_if t (settle columns (track_seen x))

  -- g has the lanes of threads from a on
  Has : (ℕ → List LaneSeen) → ℕ → List (ℕ × Track) → Type 0
  Has g a es = (t : ℕ) → a ≤ t → g t ≡ lane_at t (at t es)

  -- no thread from a on has a lane
  Ends : ℕ → List (ℕ × Track) → Type 0
  Ends a es = (t : ℕ) → a ≤ t → lane_at t (at t es) ≡ []

  none_left : (a : ℕ) (es : List (ℕ × Track)) → Rises a es → Ends a es → lanes_in columns es ≡ []
  unfolding Rises Ends lane_at
  none_left a [] rises ends = refl
  none_left a (e ∷ es) rises ends =
      ap (λ (l : List LaneSeen). l ++ lanes_in columns es) (sym (ap (lane_at e.0) (at_here e es)) ∙ ends e.0 rises.0)
      ∙ none_left (e.0 + 1) es rises.1 (λ t above. sym (ap (lane_at t) (at_later t e es (omega arith))) ∙ ends t (omega (arith, rises.0)))

  by_number : (n a : ℕ) (es : List (ℕ × Track)) (g : ℕ → List LaneSeen) → Rises a es → Has g a es → Ends (a + n) es → lanes_in columns es ≡ flat_map g (range_with_len a n)
  unfolding Rises Has Ends lane_at at
  by_number zero a es g rises has ends = none_left a es rises (λ t above. ends t (omega arith))
  by_number (suc n) a [] g rises has ends =
      by_number n (a + 1) [] g tt (λ t above. has t (omega arith)) (λ t above. refl)
      ∙ ap (λ (l : List LaneSeen). l ++ flat_map g (range_with_len (a + 1) n)) (sym (has a (omega arith)))
  by_number (suc n) a (e ∷ es) g rises has ends = by (λ xs r h k. by_number n (a + 1) xs g r h k) (cases_eq e.0 a)
    where
      here : e.0 ≡ a → lane_in columns e ≡ g a
      here is = sym (ap (lane_at e.0) (at_here e es)) ∙ sym (has e.0 rises.0) ∙ ap g is

      before : (e.0 ≡ a → ⊥) → [] ≡ g a
      before apart = sym (has a (omega arith) ∙ ap (lane_at a) (at_none a (a + 1) (e ∷ es) (omega arith) (omega (arith, rises.0), rises.1)))

      by : ((xs : List (ℕ × Track)) → Rises (a + 1) xs → Has g (a + 1) xs → Ends (a + 1 + n) xs → lanes_in columns xs ≡ flat_map g (range_with_len (a + 1) n))
          → (e.0 ≡ a) ⊎ (e.0 ≡ a → ⊥) → lanes_in columns (e ∷ es) ≡ flat_map g (range_with_len a (suc n))
      by rest (inl is) =
          ap (λ (l : List LaneSeen). l ++ lanes_in columns es) (here is)
          ∙ ap (λ (l : List LaneSeen). g a ++ l) (rest es (subst (λ (k : ℕ). Rises (k + 1) es) is rises.1)
          (λ t above. has t (omega arith) ∙ ap (lane_at t) (at_later t e es (omega arith)))
          (λ t above. sym (ap (lane_at t) (at_later t e es (omega arith))) ∙ ends t (omega arith)))
      by rest (inr apart) =
          rest (e ∷ es) (omega (arith, rises.0), rises.1) (λ t above. has t (omega arith)) (λ t above. ends t (omega arith))
          ∙ ap (λ (l : List LaneSeen). l ++ flat_map g (range_with_len (a + 1) n)) (before apart)

  -- a thread of which no mark tells has no lane, if it is not main
  no_lane : (t : ℕ) → (1 == t) ≡ false → lane_if t (settle columns (new_track t)) ≡ []
  no_lane t other = ap (λ b. lane_if t (settle columns (record (new_track t) { is_there = b }))) other

  pub lanes_all : (m : BTreeMap ℕ Track) (most : ℕ) → IsOrdered nat_cmp m → IsSome (get nat_cmp m 1) → AreBelow most columns (track_in m)
      → lanes_in columns m.entries ≡ lanes_below most columns (track_in m)
  unfolding at lane_at Has Ends
  lanes_all m most ordered main few =
      by_number most 0 m.entries (λ t. lane_if t (settle columns (track_in m t))) (rises_all m.entries ordered)
      (λ t above. has t (get nat_cmp m t) refl)
      (λ t above. sym (has t (get nat_cmp m t) refl) ∙ few t (omega arith))
    where
      none_main : IsSome (get nat_cmp m 1) → get nat_cmp m 1 ≡ None → ⊥
      none_main some none = false≢true (subst IsSome none some)

      other : (t : ℕ) → get nat_cmp m t ≡ None → (b : Bool) → (1 == t) ≡ b → (1 == t) ≡ false
      other t none false is = is
      other t none true is = absurd (none_main main (ap (get nat_cmp m) (same_means 1 t is) ∙ none))

      has : (t : ℕ) (o : Option Track) → get nat_cmp m t ≡ o → lane_if t (settle columns (track_or_new t o)) ≡ lane_at t o
      has t None none = no_lane t (other t none (1 == t) refl)
      has t (Some x) some = refl

-- tracks that are alike have the same lanes
pub lanes_alike : (columns : ℕ) (f g : ℕ → TrackSeen) → ((t : ℕ) → f t ≡ g t) → (ts : List ℕ) → flat_map (λ t. lane_if t (settle columns (f t))) ts ≡ flat_map (λ t. lane_if t (settle columns (g t))) ts
lanes_alike columns f g alike [] = refl
lanes_alike columns f g alike (t ∷ ts) =
    ap (λ (x : TrackSeen). lane_if t (settle columns x) ++ flat_map (λ t. lane_if t (settle columns (f t))) ts) (alike t)
    ∙ ap (λ (l : List LaneSeen). lane_if t (settle columns (g t)) ++ l) (lanes_alike columns f g alike ts)
