-- What a change of the slab and of the index makes of the things, their numbers and the slots.
use Rattle.std.proofs.Common.{◌≡◌, ◌≢◌, ℕ, ◌+◌, ◌<◌, ◌≤◌, inl, inr, false, List, [], length, get_or, set, Option, Some, None, IsSome, IfSome, option_map, is_some, count_by, cond, refl, sym, ◌∙◌, ap, subst, arith}
use Rattle.std.specs.Ordering.{nat_cmp, is_eq}
use Rattle.std.specs.declared.cmp.Ordering.{Ordering}
use Rattle.std.specs.declared.cmp.Ordering.TheVariants.{Less, Equal, Greater}
use Rattle.std.specs.BTreeMap as tree
use Rattle.std.specs.BTreeMap.{is_at, BTreeMap}
use Rattle.std.proofs.lemmas.Map.Lookups.{exact_unsigned}
use Rattle.std.proofs.lemmas.Bool.{cases_lt}
use Rattle.std.proofs.lemmas.List.Sums.{sum_by-set}
use Rattle.slab.specs.Slab.{Slab, Updates, slab_len}
use Rattle.slab.proofs.SlabLemmas.{ContainsKey-within}
use Rattle.pth_base.specs.Limits.{thread_limit}
use Rattle.pth_base.specs.Table.{put}
use Rattle.pth_base.specs.Naming.{IsTied, seen}
use Rattle.pth_base.specs.declared.ids.Slot.{Slot}
use Rattle.pth_base.proofs.Namings.{none_some as not_slotted, seen_at, seen_put, seen_add, seen_drop, IsTied-put, IsTied-remove}
use Rattle.pth_base.proofs.Tables.{put_is, put_by}
use Rattle.pth_base.proofs.Lists.{ap_put, put_none, table_set}
use Rattle.pth_numbered.specs.Numbered.{number_known, NumberedOf, record_at, thing_of, number_in_record, exchanged, thing_at, number_at, slot_of, count, with_thing, IsKept, Adds, Changes, Removes}
use Rattle.pth_numbered.specs.declared.numbered.Record.{Record}
use Rattle.pth_numbered.proofs.Known.{number-new, number-gone, number-other}

none_some : {B : Type 0} (o : Option B) (b : B) → o ≡ None → o ≡ Some b → ⊥
none_some o b none some = cc

above_zero : (n : ℕ) → n ≢ 0 → 0 < n
above_zero n h = omega arith

same_after : {m n : ℕ} → m + 1 ≡ n + 1 → m ≡ n
same_after h = omega arith

not_equal : (o : Ordering) → (o ≡ Equal → ⊥) → is_eq o ≡ false
not_equal Less h = refl
not_equal Equal h = absurd (h refl)
not_equal Greater h = refl

apart_keys : (k q : ℕ) → q ≢ k → is_at (nat_cmp k) q ≡ false
apart_keys k q apart = not_equal (nat_cmp k q) (λ e. apart (sym (exact_unsigned k q e)))

abbrev AreBelow : ℕ → (ℕ → ℕ) → Type 0
AreBelow room f = (u : ℕ) → f u ≢ 0 → u < room

below_put : (room : ℕ) (f : ℕ → ℕ) (u n : ℕ) → AreBelow room f → (n ≢ 0 → u < room) → AreBelow room (put f u n)
below_put room f u n all here i =
    let P : ℕ → Type 0 = λ v. v ≢ 0 → i < room in
    put_by P f u n i (λ same. rw same here) (λ apart. all i)

module _ {A : Type 0} where
  -- ---- what a slot in use has

  some_of : (o : Option (Record A)) → number_in_record o ≢ 0 → IsSome o
  some_of (Some r) used = refl
  some_of None used = absurd (used refl)

  -- a slot in use has a record
  pub holds : (x : NumberedOf A) (u : ℕ) → number_at x u ≢ 0 → IsSome (get_or x.slots u None)
  unfolding number_at
  holds x u used = some_of (record_at x u) used

  -- the thing of the record there, and its number
  pub thing_is : (x : NumberedOf A) (u : ℕ) (r : Record A) → get_or x.slots u None ≡ Some r → thing_at x u ≡ Some r.thing
  unfolding thing_at
  thing_is x u r e = ap thing_of e

  pub number_is : (x : NumberedOf A) (u : ℕ) (r : Record A) → get_or x.slots u None ≡ Some r → number_at x u ≡ r.number
  unfolding number_at
  number_is x u r e = ap number_in_record e

  -- a slot with no record has no number
  pub number_none : (x : NumberedOf A) (u : ℕ) → get_or x.slots u None ≡ None → number_at x u ≡ 0
  unfolding number_at
  number_none x u e = ap number_in_record e

  -- a slot in use is one of the slab's
  pub below_end : (x : NumberedOf A) (u : ℕ) → number_at x u ≢ 0 → u < length x.slots
  below_end x u used = let s : Slab (Record A) = record { slots = x.slots; vacant_key = 0; capacity = 0 } in ContainsKey-within s u (holds x u used)

  -- a slot whose record has a number is that thing's
  pub confirmed : (x : NumberedOf A) (n u : ℕ) (r : Record A) → IsKept x → get_or x.slots u None ≡ Some r → r.number ≡ n → slot_of x n ≡ Some u
  confirmed x n u r kept there same =
      subst (λ (k : ℕ). slot_of x k ≡ Some u) (number_is x u r there ∙ same) (kept.tied.slot u (λ zero. none_some (thing_at x u) r.thing (kept.empty u zero) (thing_is x u r there)))

  -- the slot that a look-up gives has the number
  pub named : (x : NumberedOf A) (n : ℕ) (o : Option Slot) → IsTied (slot_of x) (number_at x) → slot_of x n ≡ option_map (λ (s : Slot). s.0) o → IfSome o (λ s. number_at x s.0 ≡ n)
  named x n (Some s) tied e = tied.tid n s.0 e
  named x n None tied e = tt

  -- and is in use
  pub used : (x : NumberedOf A) (n : ℕ) (o : Option Slot) → IsTied (slot_of x) (number_at x) → slot_of x n ≡ option_map (λ (s : Slot). s.0) o → IfSome o (λ s. number_at x s.0 ≢ 0)
  used x n (Some s) tied e = λ zero. none_some (slot_of x n) s.0 (ap (slot_of x) (sym (tied.tid n s.0 e) ∙ zero) ∙ tied.zero) e
  used x n None tied e = tt

  -- ---- what a write makes of the tables

  abbrev things_of : (ℕ → Option (Record A)) → ℕ → Option A
  things_of f i = thing_of (f i)

  abbrev numbers_of : (ℕ → Option (Record A)) → ℕ → ℕ
  numbers_of f i = number_in_record (f i)

  records_put : (x y : NumberedOf A) (s t : Slab (Record A)) (u : ℕ) (o : Option (Record A)) → Updates s t u o → x.slots ≡ s.slots → y.slots ≡ t.slots → record_at y ≡ put (record_at x) u o
  records_put x y s t u o up e f = rw (e, f) (put_is _ _ u o up.changed up.others)

  things_put : (x y : NumberedOf A) (u : ℕ) (o : Option (Record A)) → record_at y ≡ put (record_at x) u o → thing_at y ≡ put (thing_at x) u (thing_of o)
  unfolding thing_at
  things_put x y u o e = ap things_of e ∙ ap_put thing_of (record_at x) u o

  numbers_put : (x y : NumberedOf A) (u : ℕ) (o : Option (Record A)) → record_at y ≡ put (record_at x) u o → number_at y ≡ put (number_at x) u (number_in_record o)
  unfolding number_at
  numbers_put x y u o e = ap numbers_of e ∙ ap_put number_in_record (record_at x) u o

  slots_kept : (x y : NumberedOf A) → y.index ≡ x.index → slot_of y ≡ slot_of x
  unfolding slot_of
  slots_kept x y e = ap (λ (es : List (ℕ × ℕ)). slot_of (record x { index = es })) e

  slots_put : (x y : NumberedOf A) (m n : BTreeMap ℕ ℕ) (k : ℕ) (w : Option ℕ) → tree.Updates nat_cmp m n k w → x.index ≡ m.entries → y.index ≡ n.entries → slot_of y ≡ put (slot_of x) k w
  unfolding slot_of
  slots_put x y m n k w up e f = rw (e, f) (put_is _ _ k w up.1 (λ q apart. up.2 q (apart_keys k q apart)))

  -- ---- how many there are

  abbrev one_if_some : Option (Record A) → ℕ
  one_if_some o = cond (is_some o) 1 0

  one_of : (o : Option (Record A)) → IsSome o → one_if_some o ≡ 1
  one_of (Some r) h = refl
  one_of None h = cc

  count_set : (xs : List (Option (Record A))) (u : ℕ) (r : Record A) → u < length xs → IsSome (get_or xs u None) → count_by is_some (set xs u (Some r)) ≡ count_by is_some xs
  count_set xs u r low there = omega (arith, sum_by-set one_if_some xs u (Some r) None low, one_of _ there)

  -- the things by number
  abbrev by_number : NumberedOf A → ℕ → Option A
  by_number x = seen None (slot_of x) (thing_at x)

  -- ---- what is kept

  -- a number comes with a thing, and a thing with a number
  abbrev AreBoth : (ℕ → Option (Record A)) → Type 0
  AreBoth f = (u : ℕ) → (number_in_record (f u) ≡ 0 → thing_of (f u) ≡ None) × (number_in_record (f u) ≢ 0 → IsSome (thing_of (f u)))

  both_put : (f : ℕ → Option (Record A)) (u : ℕ) (o : Option (Record A)) → AreBoth f → (number_in_record o ≡ 0 → thing_of o ≡ None) × (number_in_record o ≢ 0 → IsSome (thing_of o)) → AreBoth (put f u o)
  both_put f u o all here i =
      let P : Option (Record A) → Type 0 = λ v. (number_in_record v ≡ 0 → thing_of v ≡ None) × (number_in_record v ≢ 0 → IsSome (thing_of v)) in
      put_by P f u o i (λ same. here) (λ apart. all i)

  are_both : (x : NumberedOf A) → IsKept x → AreBoth (record_at x)
  unfolding thing_at number_at
  are_both x kept u = (kept.empty u, kept.full u)

  fresh_put : (x y : NumberedOf A) (k : ℕ) (w : Option ℕ) → IsKept x → slot_of y ≡ put (slot_of x) k w → x.made ≤ y.made → (y.made < k → w ≡ None) → (n : ℕ) → y.made < n → slot_of y n ≡ None
  fresh_put x y k w kept e more gone n above =
      let P : Option ℕ → Type 0 = λ o. o ≡ None in
      let over : x.made < n = omega arith in
      rw e (put_by P (slot_of x) k w n (λ same. gone (rw (← same) above)) (λ apart. kept.fresh n over))

  module _ (x y : NumberedOf A) (u : ℕ) (o : Option (Record A)) (kept : IsKept x) (e : record_at y ≡ put (record_at x) u o) (limit : y.limit ≡ x.limit) (some : (number_in_record o ≡ 0 → thing_of o ≡ None) × (number_in_record o ≢ 0 → IsSome (thing_of o))) (room : number_in_record o ≢ 0 → u < x.limit) where
    y_both : AreBoth (record_at y)
    y_both = subst AreBoth (sym e) (both_put (record_at x) u o (are_both x kept) some)

    y_low : AreBelow x.limit (number_at y)
    y_low = subst (AreBelow x.limit) (sym (numbers_put x y u o e)) (below_put x.limit (number_at x) u (number_in_record o) kept.low room)

    -- what is kept, after one record was written
    kept_by : IsTied (slot_of y) (number_at y) → ((n : ℕ) → y.made < n → slot_of y n ≡ None) → count y ≤ x.limit → number_known (by_number y) y.made ≡ count y → IsKept y
    unfolding thing_at number_at
    kept_by tied fresh few counted = record {
      tied = tied;
      fresh = fresh;
      few = subst (λ (l : ℕ). count y ≤ l) (sym limit) few;
      low = subst (λ (l : ℕ). AreBelow l (number_at y)) (sym limit) y_low;
      most = subst (λ (l : ℕ). l ≤ thread_limit) (sym limit) kept.most;
      empty = λ v. (y_both v).0;
      full = λ v. (y_both v).1;
      counted = counted;
    }

  -- ---- another thing at a slot in use

  module _ (x : NumberedOf A) (u : ℕ) (r : Record A) (a : A) (kept : IsKept x) (was : get_or x.slots u None ≡ Some r) where
    abbrev x' : NumberedOf A
    x' = record x { slots = set x.slots u (Some (record r { thing = a })) }

    there : IsSome (get_or x.slots u None)
    there = rw was refl

    used_x : number_at x u ≢ 0
    used_x zero = none_some (thing_at x u) r.thing (kept.empty u zero) (thing_is x u r was)

    within : u < length x.slots
    within = below_end x u used_x

    records_x' : record_at x' ≡ put (record_at x) u (Some (record r { thing = a }))
    records_x' = table_set x.slots u (Some (record r { thing = a })) None within

    slots_x' : slot_of x' ≡ slot_of x
    slots_x' = slots_kept x x' refl

    numbers_x' : number_at x' ≡ number_at x
    numbers_x' = numbers_put x x' u _ records_x' ∙ put_none (number_at x) u r.number (number_is x u r was)

    count_x' : count x' ≡ count x
    unfolding count
    count_x' = count_set x.slots u _ within there

    things_x' : thing_at x' ≡ put (thing_at x) u (Some a)
    things_x' = things_put x x' u _ records_x'

    counted_x' : number_known (by_number x') x.made ≡ count x'
    counted_x' =
        let n = number_at x u in
        let at : slot_of x n ≡ Some u = kept.tied.slot u used_x in
        let was_known : by_number x n ≡ Some r.thing = seen_at None (slot_of x) (thing_at x) n u at ∙ thing_is x u r was in
        rw (slots_x', things_x', seen_put None (slot_of x) (number_at x) (thing_at x) n u (Some a) kept.tied at) (number-other (by_number x) x.made n r.thing a was_known ∙ kept.counted ∙ sym count_x')

    pub written : x' ≡ with_thing x u a
    unfolding with_thing
    written = ap (λ (o : Option (Record A)). record x { slots = set x.slots u (exchanged a o) }) (sym was)

    pub changes : Changes x (with_thing x u a) u a
    changes = rw (← written) (record { slots = slots_x'; numbers = numbers_x'; things = things_x'; count = count_x'; made = refl; limit = refl })

    pub kept_changed : IsKept x'
    kept_changed = kept_by x x' u (Some (record r { thing = a })) kept records_x' refl
        (λ zero. absurd (used_x (number_is x u r was ∙ zero)), λ used. refl)
        (λ used. kept.low u used_x)
        (rw (slots_x', numbers_x') kept.tied)
        (rw slots_x' kept.fresh)
        (rw count_x' kept.few)
        counted_x'

  -- ---- one more thing

  module _ (x : NumberedOf A) (s t : Slab (Record A)) (m n : BTreeMap ℕ ℕ) (u : ℕ) (a : A) (kept : IsKept x) (s_is : x.slots ≡ s.slots) (m_is : x.index ≡ m.entries) (free : get_or s.slots u None ≡ None) (up : Updates s t u (Some (record { number = x.made + 1; thing = a }))) (len : slab_len t ≡ slab_len s + 1) (ups : tree.Updates nat_cmp m n (x.made + 1) (Some u)) (low : u < x.limit) (room : slab_len s ≢ x.limit) where
    abbrev y : NumberedOf A
    y = record { slots = t.slots; index = n.entries; made = x.made + 1; limit = x.limit }

    abbrev r : Record A
    r = record { number = x.made + 1; thing = a }

    records_y : record_at y ≡ put (record_at x) u (Some r)
    records_y = records_put x y s t u (Some r) up s_is refl

    slots_y : slot_of y ≡ put (slot_of x) (x.made + 1) (Some u)
    slots_y = slots_put x y m n (x.made + 1) (Some u) ups m_is refl

    numbers_y : number_at y ≡ put (number_at x) u (x.made + 1)
    numbers_y = numbers_put x y u (Some r) records_y

    unused : number_at x u ≡ 0
    unfolding number_at
    unused = ap number_in_record (rw (← s_is) at free)

    unknown : slot_of x (x.made + 1) ≡ None
    unknown = kept.fresh (x.made + 1) (omega arith)

    tied_y : IsTied (slot_of y) (number_at y)
    tied_y = let some : x.made + 1 ≢ 0 = omega arith in rw (slots_y, numbers_y) (IsTied-put (slot_of x) (number_at x) (x.made + 1) u kept.tied some unused unknown (omega (arith, kept.most, low)))

    count_y : count y ≡ count x + 1
    unfolding count
    count_y = rw s_is len

    count_s : slab_len s ≡ count x
    unfolding count
    count_s = rw s_is refl

    things_y : thing_at y ≡ put (thing_at x) u (Some a)
    things_y = things_put x y u (Some r) records_y

    counted_y : number_known (by_number y) y.made ≡ count y
    counted_y = rw (slots_y, things_y, seen_add None (slot_of x) (number_at x) (thing_at x) (x.made + 1) u kept.tied (Some a) unused) (number-new (by_number x) x.made a ∙ ap (λ (n : ℕ). n + 1) kept.counted ∙ sym count_y)

    pub adds : Adds x y u a
    adds = record { unused = unused; unknown = unknown; low = low; slots = slots_y; numbers = numbers_y; things = things_y; count = count_y; made = refl; limit = refl }

    pub kept_added : IsKept y
    kept_added = kept_by x y u (Some r) kept records_y refl
        (λ zero. absurd (omega arith), λ some. refl)
        (λ some. low)
        tied_y
        (fresh_put x y (x.made + 1) (Some u) kept slots_y (omega arith) (λ past. absurd (omega arith)))
        (omega (arith, count_y, count_s, kept.few, room))
        counted_y

  -- ---- a thing is gone

  module _ (x : NumberedOf A) (s t : Slab (Record A)) (m n : BTreeMap ℕ ℕ) (u : ℕ) (r : Record A) (kept : IsKept x) (s_is : x.slots ≡ s.slots) (m_is : x.index ≡ m.entries) (used : number_at x u ≢ 0) (was : get_or x.slots u None ≡ Some r) (up : Updates s t u None) (len : slab_len t + 1 ≡ slab_len s) (ups : tree.Updates nat_cmp m n r.number None) where
    abbrev z : NumberedOf A
    z = record { slots = t.slots; index = n.entries; made = x.made; limit = x.limit }

    records_z : record_at z ≡ put (record_at x) u None
    records_z = records_put x z s t u None up s_is refl

    slots_z : slot_of z ≡ put (slot_of x) (number_at x u) None
    slots_z = rw (number_is x u r was) (slots_put x z m n r.number None ups m_is refl)

    numbers_z : number_at z ≡ put (number_at x) u 0
    numbers_z = numbers_put x z u None records_z

    tied_z : IsTied (slot_of z) (number_at z)
    tied_z = rw (slots_z, numbers_z) (IsTied-remove (slot_of x) (number_at x) u kept.tied used)

    count_z : count z + 1 ≡ count x
    unfolding count
    count_z = rw s_is len

    things_z : thing_at z ≡ put (thing_at x) u None
    things_z = things_put x z u None records_z

    -- its number was given
    given : number_at x u ≤ x.made
    given = elim (cases_lt x.made (number_at x u)) [ inl above ↦ absurd (not_slotted (sym (kept.fresh (number_at x u) above) ∙ kept.tied.slot u used)) | inr low ↦ low ]

    counted_z : number_known (by_number z) z.made ≡ count z
    counted_z =
        let n = number_at x u in
        let at : slot_of x n ≡ Some u = kept.tied.slot u used in
        let was_known : by_number x n ≡ Some r.thing = seen_at None (slot_of x) (thing_at x) n u at ∙ thing_is x u r was in
        let some : 0 < n = above_zero n used in
        let less = number-gone (by_number x) x.made n r.thing was_known some given in
        rw (slots_z, things_z, seen_drop None (slot_of x) (number_at x) (thing_at x) n u kept.tied None at) (same_after (less ∙ kept.counted ∙ sym count_z))

    pub removes : Removes x z u
    removes = record { slots = slots_z; numbers = numbers_z; things = things_z; count = count_z; made = refl; limit = refl }

    pub kept_removed : IsKept z
    kept_removed = kept_by x z u None kept records_z refl
        (λ zero. refl, λ some. absurd (some refl))
        (λ some. absurd (some refl))
        tied_z
        (fresh_put x z (number_at x u) None kept slots_z (omega arith) (λ past. refl))
        (omega (arith, count_z, kept.few))
        counted_z

  -- ---- nothing

  abbrev nothing : ℕ → NumberedOf A
  nothing limit = record { slots = []; index = []; made = 0; limit = limit }

  pub kept_none : (limit : ℕ) → limit ≤ thread_limit → IsKept (nothing limit)
  unfolding slot_of number_at thing_at count number_known
  kept_none limit low = record {
    tied = record { tid = λ n u h. cc; slot = λ u h. absurd (h refl); zero = refl; low = λ u h. absurd (h refl) };
    fresh = λ n h. refl;
    few = omega arith;
    low = λ u h. absurd (h refl);
    most = low;
    empty = λ u h. refl;
    full = λ u h. absurd (h refl);
    counted = refl;
  }
