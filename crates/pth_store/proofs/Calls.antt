-- The tables before and after a call.
use Rattle.std.proofs.Common.{◌≡◌, ℕ, zero, suc, ◌<◌, ◌≤◌, ◌+◌, ◌-◌, inl, inr, ℤ, pos, negsuc, ◌<ℤ◌, ◌≤ℤ◌, Bool, true, false, cond, List, [], ◌∷◌, length, get_or, set, map, replicate, find, filter_map, position, Option, Some, None, is_some, is_none, refl, sym, ◌∙◌, ap, arith, length-set, get_or-set_other, add-zero}
use Rattle.std.specs.List.{range_with_len, position_from, slice_get, cons_option}
use Rattle.std.proofs.lemmas.Int.{ints}
use Rattle.std.proofs.lemmas.List.{get_or_past, get_or-replicate, length-replicate}
use Rattle.std.proofs.lemmas.Iterator.Adapters.{position_from-zero}
use Rattle.std.proofs.lemmas.Bool.{cases_lt}
use mathlib.Core.Path.{fun_ext}
use Rattle.pth_base.specs.Table.{put, table}
use Rattle.pth_base.specs.declared.ids.HandlerId.{HandlerId}
use Rattle.pth_base.proofs.Tables.{put_by}
use Rattle.pth_base.proofs.Lists.{table_set, put_none}
use Rattle.pth_store.specs.Keys.{Tables, KeysAreKept, key_limit, key_named, keys_from, owed, owed_for, first_live, value_at_key, tables_of, no_keys, created, deleted}
use Rattle.pth_store.proofs.Rows.{value-none}

-- the keys in a list
abbrev KeyList : Type 0
KeyList = List (Option (Option HandlerId))

-- ---- operands

pub named-below : (k : ℤ) → k <ℤ pos 0 → key_limit ≤ key_named k
named-below (pos n) low = absurd (omega (arith, ints))
named-below (negsuc n) low = omega arith

pub named-above : (k : ℤ) → pos key_limit ≤ℤ k → key_limit ≤ key_named k
named-above (pos n) high = omega (arith, ints)
named-above (negsuc n) high = absurd (omega (arith, ints))

-- past the limit no key is live
pub unknown : (keys : KeyList) (k : ℕ) → length keys ≡ key_limit → key_limit ≤ k → is_some (table None keys k) ≡ false
unknown keys k many high = ap is_some (get_or_past keys k None (omega arith))

-- ---- the least free key

-- the first of a list that passes a test, and the first number of which a table has such
first-from : {A : Type 0} (test : A → Bool) (f : ℕ → A) (d : A) (i : ℕ) (xs : List A) → ((j : ℕ) → get_or xs j d ≡ f (i + j)) → position_from test i xs ≡ find (λ k. test (f k)) (range_with_len i (length xs))
first-from test f d i [] h = refl
first-from {A = A} test f d i (x ∷ xs) h =
    let here : x ≡ f i = h 0 ∙ ap f (add-zero i) in
    let next : (j : ℕ) → get_or xs j d ≡ f (i + 1 + j) = λ j. h (suc j) ∙ ap f (omega arith) in
    ap (λ (y : A). cond (test y) (Some i) (position_from test (i + 1) xs)) here ∙ ap (λ (o : Option ℕ). cond (test (f i)) (Some i) o) (first-from test f d (i + 1) xs next)

pub free-is : (keys : KeyList) → length keys ≡ key_limit → position (λ key. is_none key) keys ≡ find (λ k. is_none (table None keys k)) (keys_from 0)
free-is keys many =
    position_from-zero (λ (key : Option (Option HandlerId)). is_none key) keys
    ∙ first-from (λ (key : Option (Option HandlerId)). is_none key) (table None keys) None 0 keys (λ j. ap (table None keys) (omega arith))
    ∙ ap (λ (n : ℕ). find (λ k. is_none (table None keys k)) (range_with_len 0 n)) many

-- ---- the first that is owed

keys-more : (k : ℕ) → k < key_limit → keys_from k ≡ k ∷ keys_from (k + 1)
keys-more k low = let e : key_limit - k ≡ suc (key_limit - (k + 1)) = omega arith in ap (range_with_len k) e

module _ (x : Tables) (s k : ℕ) where
  -- the first from k on, where the key k is owed o
  abbrev first_of : Option (ℕ × HandlerId × ℤ) → Option (ℕ × HandlerId × ℤ)
  first_of o = slice_get (cons_option o (filter_map (owed_for x s) (keys_from (k + 1)))) 0

  first-split : k < key_limit → first_live x s k ≡ first_of (owed_for x s k)
  first-split low = ap (λ (ks : List ℕ). slice_get (filter_map (owed_for x s) ks) 0) (keys-more k low)

  pub first-some : k < key_limit → (o : ℕ × HandlerId × ℤ) → Some o ≡ owed_for x s k → first_live x s k ≡ Some o
  first-some low o is = first-split low ∙ ap first_of (sym is)

  pub first-none : k < key_limit → None ≡ owed_for x s k → first_live x s k ≡ first_live x s (k + 1)
  first-none low is = first-split low ∙ ap first_of (sym is)

  pub first-past : key_limit ≤ k → first_live x s k ≡ None
  first-past high = let e : key_limit - k ≡ 0 = omega arith in ap (λ (n : ℕ). slice_get (filter_map (owed_for x s) (range_with_len k n)) 0) e

owed-zero : (k : ℕ) (o : Option (Option HandlerId)) → None ≡ owed k o (pos 0)
owed-zero k (Some (Some h)) = refl
owed-zero k (Some None) = refl
owed-zero k None = refl

-- where all values from k on are 0, nothing is owed
pub first-zero : (x : Tables) (s n k : ℕ) → key_limit - k ≡ n → ((i : ℕ) → k ≤ i → i < key_limit → x.values i s ≡ pos 0) → first_live x s k ≡ None
first-zero x s zero k left zeros = first-past x s k (omega (arith, left))
first-zero x s (suc n) k left zeros =
    let low : k < key_limit = omega (arith, left) in
    let here : k ≤ k = omega arith in
    first-none x s k low (owed-zero k (x.keys k) ∙ ap (owed k (x.keys k)) (sym (zeros k here low))) ∙ first-zero x s n (k + 1) (omega (arith, left)) (λ i high. zeros i (omega (arith, high)))

-- ---- changes

same-tables : (f g : ℕ → Option (Option HandlerId)) (v w : ℕ → ℕ → ℤ) → f ≡ g → v ≡ w → ◌≡◌ {A = Tables} (record { keys = f; values = v }) (record { keys = g; values = w })
same-tables f g v w keys values = λ i. record { keys = keys i; values = values i }

-- what holds at every moment, and the tables that are seen
abbrev kept : KeyList → List (List ℤ) → Type 0
kept keys rows = KeysAreKept (record { keys = keys; rows = rows })

abbrev shown : KeyList → List (List ℤ) → Tables
shown keys rows = tables_of (record { keys = keys; rows = rows })

module _ (keys : KeyList) (rows : List (List ℤ)) (h : kept keys rows) where
  -- a slot has no values
  pub kept-forgotten : (new : List (List ℤ)) (s : ℕ) → value_at_key new ≡ (λ k. put (value_at_key rows k) s (pos 0)) → kept keys new
  kept-forgotten new s is = record {
    many = h.many;
    unset = λ k u none. ap (λ (f : ℕ → ℕ → ℤ). f k u) is ∙ put_by (λ (v : ℤ). v ≡ pos 0) (value_at_key rows k) s (pos 0) u (λ _. refl) (λ _. h.unset k u none);
  }

  pub kept-unset : (new : List (List ℤ)) (k s : ℕ) → value_at_key new ≡ put (value_at_key rows) k (put (value_at_key rows k) s (pos 0)) → kept keys new
  kept-unset new k s is = record {
    many = h.many;
    unset = λ i u none. ap (λ (f : ℕ → ℕ → ℤ). f i u) is ∙ put_by (λ (f : ℕ → ℤ). f u ≡ pos 0) (value_at_key rows) k _ i
        (λ same. put_by (λ (v : ℤ). v ≡ pos 0) (value_at_key rows k) s (pos 0) u (λ _. refl) (λ _. h.unset k u (ap (table None keys) (sym same) ∙ none))) (λ _. h.unset i u none);
  }

  module _ (k : ℕ) (low : k < key_limit) where
    within : k < length keys
    within = let many = h.many in omega arith

    -- a live key has a value for a slot
    pub kept-set : (new : List (List ℤ)) (s name : ℕ) (v : ℤ) → k ≡ name → is_some (table None keys name) ≡ true → value_at_key new ≡ put (value_at_key rows) k (put (value_at_key rows k) s v) → kept keys new
    kept-set new s name v named live is = record {
      many = h.many;
      unset = λ i u none. ap (λ (f : ℕ → ℕ → ℤ). f i u) is ∙ put_by (λ (f : ℕ → ℤ). f u ≡ pos 0) (value_at_key rows) k _ i (λ same. absurd (not_none (table None keys name) live (ap (table None keys) (sym named ∙ sym same) ∙ none))) (λ _. h.unset i u none);
    }
      where
        not_none : (o : Option (Option HandlerId)) → is_some o ≡ true → o ≡ None → ⊥
        not_none (Some d) e none = cc
        not_none None e none = cc

    -- a key is free, and has no values
    pub kept-deleted : (new : List (List ℤ)) → value_at_key new ≡ put (value_at_key rows) k (λ _. pos 0) → kept (set keys k None) new
    kept-deleted new is = record {
      many = length-set keys k None ∙ h.many;
      unset = λ i u none. ap (λ (f : ℕ → ℕ → ℤ). f i u) is ∙ put_by (λ (f : ℕ → ℤ). f u ≡ pos 0) (value_at_key rows) k _ i (λ _. refl) (λ apart. h.unset i u (sym (get_or-set_other keys k i None None apart) ∙ none));
    }

    pub shown-deleted : (new : List (List ℤ)) (name : ℕ) → k ≡ name → value_at_key new ≡ put (value_at_key rows) k (λ _. pos 0) → shown (set keys k None) new ≡ deleted name (shown keys rows)
    shown-deleted new name named is = same-tables _ _ _ _ (table_set keys k None None within) is ∙ ap (λ (n : ℕ). deleted n (shown keys rows)) named

    pub shown-created : (d : Option HandlerId) → table None keys k ≡ None → shown (set keys k (Some d)) rows ≡ created k d (shown keys rows)
    shown-created d free = same-tables _ _ _ _ (table_set keys k (Some d) None within) (sym (put_none (value_at_key rows) k (λ _. pos 0) (fun_ext (λ s. h.unset k s free))))

-- ---- before any call

abbrev all_free : KeyList
all_free = replicate key_limit None

all-free : (k : ℕ) → table None all_free k ≡ None
all-free k = elim (cases_lt k key_limit) [ inl low ↦ get_or-replicate key_limit k None None low | inr high ↦ get_or_past all_free k None (omega (arith, length-replicate {A = Option (Option HandlerId)} key_limit None)) ]

module _ {A : Type 0} (f : A → List ℤ) (xs : List A) (none : xs ≡ []) where
  pub nothing-kept : kept all_free (map f xs)
  nothing-kept = rw none (record { many = length-replicate {A = Option (Option HandlerId)} key_limit None; unset = λ k s _. ap (λ (g : ℕ → ℕ → ℤ). g k s) value-none })

  pub nothing-shown : shown all_free (map f xs) ≡ no_keys
  nothing-shown = rw none (same-tables _ _ _ _ (fun_ext all-free) value-none)
