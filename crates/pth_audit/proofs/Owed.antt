-- The first key of a map that owes a destructor is the least one.
use Rattle.std.proofs.Common.{◌≡◌, ◌&&◌, ◌∙◌, not, ℤ, pos, negsuc, int_le, Bool, true, false, if◌then◌else◌, List, [], ◌∷◌, Option, Some, None, refl, sym, ap, subst, arith, cond}
use Rattle.std.proofs.lemmas.Bool.Decides.{nat_tests}
use Rattle.std.specs.Ordering.{int_cmp}
use Rattle.std.specs.declared.cmp.Ordering.TheVariants.{Less}
use Rattle.std.specs.BTreeMap.{is_at}
use Rattle.std.specs.Map.{lookup, keys_of}
use Rattle.std.specs.List.{AllByRecursion}
use Rattle.std.specs.List.Sorted.{IsStrictlySortedBy}
use Rattle.std.proofs.lemmas.Map.Keys.{sorted_head, sorted_tail}
use Rattle.pth_base.specs.declared.ids.HandlerId.{HandlerId}
use Rattle.pth_numbered.specs.Operands.{is_zero}
use Rattle.pth_laws.specs.Marks.{is_same}
use Rattle.pth_laws.specs.Orderly.{is_later}
use Rattle.pth_audit.specs.Endings.{owed_by, key_with, first_owed}
use Rattle.pth_audit.proofs.Places.{number_at, same_means}

abbrev pub Keys : Type 0
Keys = List (ℤ × Option HandlerId)

-- what these keys have under a number
abbrev pub at_key : Keys → ℤ → Option (Option HandlerId)
at_key es k = lookup (is_at (int_cmp k)) es

pub same_self : (k : ℤ) → is_same k k ≡ true
same_self (pos n) = grind (arith, nat_tests)
same_self (negsuc n) = grind (arith, nat_tests)

pub at_self : (k : ℤ) → is_at (int_cmp k) k ≡ true
at_self k = number_at k k ∙ same_self k

pub le_self : (k : ℤ) → int_le k k ≡ true
le_self (pos n) = grind (arith, nat_tests)
le_self (negsuc n) = grind (arith, nat_tests)

less_le : (j k : ℤ) → int_cmp j k ≡ Less → int_le j k ≡ true
less_le (pos m) (pos n) h = grind (arith, nat_tests)
less_le (pos m) (negsuc n) h = absurd (cc h)
less_le (negsuc m) (pos n) h = refl
less_le (negsuc m) (negsuc n) h = grind (arith, nat_tests)

pub le_both : (j k : ℤ) → int_le j k ≡ true → int_le k j ≡ true → j ≡ k
le_both (pos m) (pos n) h g = ap pos (grind (arith, nat_tests))
le_both (pos m) (negsuc n) h g = absurd (cc h)
le_both (negsuc m) (pos n) h g = absurd (cc g)
le_both (negsuc m) (negsuc n) h g = ap negsuc (grind (arith, nat_tests))

not_less : (k : ℤ) → int_cmp k k ≡ Less → ⊥
not_less (pos n) h = grind (arith, nat_tests)
not_less (negsuc n) h = grind (arith, nat_tests)

at_means : (k j : ℤ) → is_at (int_cmp k) j ≡ true → j ≡ k
at_means k j h = same_means j k (sym (number_at k j) ∙ h)

-- a key that is found among greater ones is greater
above : (j k : ℤ) (x : Option HandlerId) (es : Keys) → AllByRecursion (λ y. int_cmp j y ≡ Less) (keys_of es) → at_key es k ≡ Some x → int_cmp j k ≡ Less
above j k x [] all found = absurd (cc found)
above j k x (e ∷ es) all found = by_test (is_at (int_cmp k) e.0) refl (above j k x es all.1) found
  where
    by_test : (b : Bool) → is_at (int_cmp k) e.0 ≡ b → (at_key es k ≡ Some x → int_cmp j k ≡ Less) → cond b (Some e.1) (at_key es k) ≡ Some x → int_cmp j k ≡ Less
    by_test true at rest same = subst (λ (y : ℤ). int_cmp j y ≡ Less) (at_means k e.0 at) all.0
    by_test false at rest later = rest later

module _ (value : ℤ → ℤ) (last : Option ℤ) where
  -- what makes a key owe: it is later, has a destructor, and the value is not 0
  pub record IsOwed (k : ℤ) (o : Option HandlerId) (v : ℤ) : Type 0 where
    pub later : is_later last k ≡ true
    pub handler : HandlerId
    pub destructor : o ≡ Some handler
    pub value_is : value k ≡ v
    pub set : is_zero v ≡ false

  owed_none : (k : ℤ) (o : Option HandlerId) (v : ℤ) → owed_by last k o (value k) ≡ None → IsOwed k o v → ⊥
  owed_none k None v none is = cc (is.destructor)
  owed_none k (Some h) v none is = by_test (is_later last k) (is_zero (value k)) is.later (ap is_zero is.value_is ∙ is.set) none
    where
      by_test : (a b : Bool) → a ≡ true → b ≡ false → (if a && not b then Some (value k) else None) ≡ None → ⊥
      by_test true false later set none = cc none
      by_test false b later set none = cc later
      by_test true true later set none = cc set

  owed_some : (k : ℤ) (o : Option HandlerId) (v : ℤ) → owed_by last k o (value k) ≡ Some v → IsOwed k o v
  owed_some k None v some = absurd (cc some)
  owed_some k (Some h) v some = by_test (is_later last k) (is_zero (value k)) refl refl some
    where
      by_test : (a b : Bool) → is_later last k ≡ a → is_zero (value k) ≡ b → (if a && not b then Some (value k) else None) ≡ Some v → IsOwed k (Some h) v
      by_test true false later set some = let same : value k ≡ v = cc in record { later = later; handler = h; destructor = refl; value_is = same; set = ap is_zero (sym same) ∙ set }
      by_test false b later set some = absurd (cc some)
      by_test true true later set some = absurd (cc some)

  -- none of these keys owes
  abbrev pub NoneOwed : Keys → Type 0
  NoneOwed es = (k : ℤ) (o : Option HandlerId) (v : ℤ) → at_key es k ≡ Some o → IsOwed k o v → ⊥

  -- the least of these that owes, with its value
  pub record IsLeastOwed (es : Keys) (d : ℤ × ℤ) : Type 0 where
    pub destructor : Option HandlerId
    pub there : at_key es d.0 ≡ Some destructor
    pub owed : IsOwed d.0 destructor d.1
    pub least : (k : ℤ) (o : Option HandlerId) (v : ℤ) → at_key es k ≡ Some o → IsOwed k o v → int_le d.0 k ≡ true

  pub first_none : (es : Keys) → first_owed value last es ≡ None → NoneOwed es
  first_none [] none = λ k o v found is. cc found
  first_none (e ∷ es) none = by_owed (owed_by last e.0 e.1 (value e.0)) refl (first_none es) none
    where
      by_place : (k : ℤ) (o : Option HandlerId) (v : ℤ) → owed_by last e.0 e.1 (value e.0) ≡ None → NoneOwed es → (b : Bool) → is_at (int_cmp k) e.0 ≡ b → cond b (Some e.1) (at_key es k) ≡ Some o → IsOwed k o v → ⊥
      by_place k o v here rest true at found is =
          let key : e.0 ≡ k = at_means k e.0 at in
          let same : e.1 ≡ o = cc found in
          owed_none e.0 e.1 v here (subst (λ (z : ℤ). IsOwed z e.1 v) (sym key) (subst (λ (z : Option HandlerId). IsOwed k z v) (sym same) is))
      by_place k o v here rest false at found is = rest k o v found is

      by_owed : (x : Option ℤ) → owed_by last e.0 e.1 (value e.0) ≡ x → (first_owed value last es ≡ None → NoneOwed es) → key_with e.0 x (first_owed value last es) ≡ None → NoneOwed (e ∷ es)
      by_owed None here rest none k o v found is = by_place k o v here (rest none) (is_at (int_cmp k) e.0) refl found is
      by_owed (Some w) here rest none k o v found is = cc none

  pub first_some : (es : Keys) (d : ℤ × ℤ) → IsStrictlySortedBy int_cmp (keys_of es) → first_owed value last es ≡ Some d → IsLeastOwed es d
  first_some [] d order some = absurd (cc some)
  first_some (e ∷ es) d order some = by_owed (owed_by last e.0 e.1 (value e.0)) refl (first_some es d (sorted_tail int_cmp e.0 (keys_of es) order)) some
    where
      after_first : AllByRecursion (λ y. int_cmp e.0 y ≡ Less) (keys_of es)
      after_first = sorted_head int_cmp e.0 (keys_of es) order

      -- another key is greater than the first
      le_first : (k : ℤ) (o : Option HandlerId) (b : Bool) → is_at (int_cmp k) e.0 ≡ b → cond b (Some e.1) (at_key es k) ≡ Some o → int_le e.0 k ≡ true
      le_first k o true at found = subst (λ (z : ℤ). int_le e.0 z ≡ true) (at_means k e.0 at) (le_self e.0)
      le_first k o false at found = less_le e.0 k (above e.0 k o es after_first found)

      here_least : (v : ℤ) → owed_by last e.0 e.1 (value e.0) ≡ Some v → IsLeastOwed (e ∷ es) (e.0, v)
      here_least v here = record {
        destructor = e.1;
        there = ap (λ (b : Bool). cond b (Some e.1) (at_key es e.0)) (at_self e.0);
        owed = owed_some e.0 e.1 v here;
        least = λ k o w found is. le_first k o (is_at (int_cmp k) e.0) refl found;
      }

      -- a later one is found past the first
      past : (o : Option HandlerId) → at_key es d.0 ≡ Some o → (b : Bool) → is_at (int_cmp d.0) e.0 ≡ b → cond b (Some e.1) (at_key es d.0) ≡ Some o
      past o found false at = found
      past o found true at =
          let less : int_cmp e.0 d.0 ≡ Less = above e.0 d.0 o es after_first found in
          let same : e.0 ≡ d.0 = at_means d.0 e.0 at in
          absurd (not_less d.0 (subst (λ (z : ℤ). int_cmp z d.0 ≡ Less) same less))

      later_least : owed_by last e.0 e.1 (value e.0) ≡ None → IsLeastOwed es d → IsLeastOwed (e ∷ es) d
      later_least here x = record {
        destructor = x.destructor;
        there = past x.destructor x.there (is_at (int_cmp d.0) e.0) refl;
        owed = x.owed;
        least = λ k o v found is. by_place k o v (is_at (int_cmp k) e.0) refl found is;
      }
        where
          by_place : (k : ℤ) (o : Option HandlerId) (v : ℤ) (b : Bool) → is_at (int_cmp k) e.0 ≡ b → cond b (Some e.1) (at_key es k) ≡ Some o → IsOwed k o v → int_le d.0 k ≡ true
          by_place k o v true at found is =
              let key : e.0 ≡ k = at_means k e.0 at in
              let same : e.1 ≡ o = cc found in
              absurd (owed_none e.0 e.1 v here (subst (λ (z : ℤ). IsOwed z e.1 v) (sym key) (subst (λ (z : Option HandlerId). IsOwed k z v) (sym same) is)))
          by_place k o v false at found is = x.least k o v found is

      by_owed : (x : Option ℤ) → owed_by last e.0 e.1 (value e.0) ≡ x → (first_owed value last es ≡ Some d → IsLeastOwed es d) → key_with e.0 x (first_owed value last es) ≡ Some d → IsLeastOwed (e ∷ es) d
      by_owed None here rest some = later_least here (rest some)
      by_owed (Some v) here rest some = let same : (e.0, v) ≡ d = cc some in subst (IsLeastOwed (e ∷ es)) same (here_least v here)
