-- Rows of values, after one was written.
use Rattle.std.proofs.Common.{◌≡◌, ◌≢◌, ℕ, ◌<◌, ◌≤◌, ◌+◌, ◌-◌, ◌⊎◌, inl, inr, ℤ, pos, List, [], ◌∷◌, ◌++◌, length, get_or, set, map, replicate, refl, sym, ◌∙◌, ap, arith}
use Rattle.std.proofs.lemmas.List.{get_or_past, get_or_default, get_or-map, get_or-replicate, get_or_append_left, get_or-append_right, length-replicate, map-set, map-append, length-map, length-set}
use Rattle.std.proofs.lemmas.Bool.{cases_lt}
use mathlib.Core.Path.{fun_ext}
use Rattle.pth_base.specs.Table.{put, table}
use Rattle.pth_base.proofs.Tables.{put_is, put_by, put_here, put_other}
use Rattle.pth_base.proofs.Lists.{table_set, table_grown, ap_put, put_none}
use Rattle.pth_store.specs.Keys.{value_at_key}

-- a row of values as a table
abbrev pub value : List ℤ → ℕ → ℤ
value row k = table (pos 0) row k

-- another row stands for a slot
pub value-set : (rows : List (List ℤ)) (s : ℕ) (row : List ℤ) → s < length rows → value_at_key (set rows s row) ≡ (λ k. put (value_at_key rows k) s (value row k))
unfolding value_at_key
value-set rows s row low = fun_ext (λ k. ap {B = ℕ → ℤ} (λ (f : ℕ → List ℤ) (u : ℕ). value (f u) k) (table_set rows s row [] low) ∙ ap_put (λ (r : List ℤ). value r k) (table [] rows) s row)

-- the value under one key of the row is another
pub value-put : (rows : List (List ℤ)) (s k : ℕ) (v : ℤ) (row : List ℤ) → value row ≡ put (λ i. value_at_key rows i s) k v → (λ i. put (value_at_key rows i) s (value row i)) ≡ put (value_at_key rows) k (put (value_at_key rows k) s v)
value-put rows s k v row is =
    put_is (value_at_key rows) _ k (put (value_at_key rows k) s v)
    (ap (λ (f : ℕ → ℤ). put (value_at_key rows k) s (f k)) is ∙ ap (put (value_at_key rows k) s) (put_here (λ i. value_at_key rows i s) k v))
    (λ i apart. ap (λ (f : ℕ → ℤ). put (value_at_key rows i) s (f i)) is ∙ ap (put (value_at_key rows i) s) (put_other (λ i. value_at_key rows i s) k v i apart) ∙ put_none (value_at_key rows i) s _ refl)

pub value-past : (rows : List (List ℤ)) (k s : ℕ) → length rows ≤ s → value_at_key rows k s ≡ pos 0
unfolding value_at_key
value-past rows k s high = ap (λ (r : List ℤ). value r k) (get_or_past rows s [] high)

pub value-grown : (rows : List (List ℤ)) → value_at_key (rows ++ [] ∷ []) ≡ value_at_key rows
unfolding value_at_key
value-grown rows = ap {B = ℕ → ℕ → ℤ} (λ (f : ℕ → List ℤ) (k s : ℕ). value (f s) k) (table_grown rows [])

pub value-none : value_at_key [] ≡ (λ _ _. pos 0)
unfolding value_at_key
value-none = refl

pub value-at : (rows : List (List ℤ)) (s : ℕ) (d : List ℤ) → s < length rows → (λ k. value_at_key rows k s) ≡ value (get_or rows s d)
unfolding value_at_key
value-at rows s d low = ap value (get_or_default rows s [] d low)

-- a row that grew by values that are 0
widened-at : (row : List ℤ) (n k : ℕ) → (k < length row) ⊎ (length row ≤ k) → value (row ++ replicate n (pos 0)) k ≡ value row k
widened-at row n k h = elim h [
  | inl low ↦ get_or_append_left row (replicate n (pos 0)) (pos 0) k low
  | inr high ↦ get_or-append_right row (replicate n (pos 0)) (length row) k (pos 0) refl high ∙ zeros n (k - length row) (cases_lt (k - length row) n) ∙ sym (get_or_past row k (pos 0) high)
]
  where
    zeros : (n i : ℕ) → (i < n) ⊎ (n ≤ i) → value (replicate n (pos 0)) i ≡ pos 0
    zeros n i h = elim h [ inl low ↦ get_or-replicate n i (pos 0) (pos 0) low | inr high ↦ get_or_past (replicate n (pos 0)) i (pos 0) (omega (arith, length-replicate n (pos 0))) ]

pub value-widened : (row : List ℤ) (n : ℕ) → value (row ++ replicate n (pos 0)) ≡ value row
value-widened row n = fun_ext (λ k. widened-at row n k (cases_lt k (length row)))

-- ---- the same of lists of what has rows

module _ {A : Type 0} (f : A → List ℤ) (xs : List A) where
  pub under-grown : (x : A) → f x ≡ [] → value_at_key (map f (xs ++ x ∷ [])) ≡ value_at_key (map f xs)
  under-grown x none = rw (map-append, none) (value-grown (map f xs))

  pub under-past : (k s : ℕ) → length xs ≤ s → value_at_key (map f xs) k s ≡ pos 0
  under-past k s high = value-past (map f xs) k s (rw length-map high)

  module _ (s : ℕ) (o : A) (low : s < length xs) (was : o ≡ get_or xs s o) where
    low-too : s < length (map f xs)
    low-too = rw length-map low

    pub under-at : (λ k. value_at_key (map f xs) k s) ≡ value (f o)
    under-at = value-at (map f xs) s (f o) low-too ∙ ap value (get_or-map f xs s o (f o) low ∙ ap f (sym was))

    module _ (n : A) where
      pub under-set : value_at_key (map f (set xs s n)) ≡ (λ k. put (value_at_key (map f xs) k) s (value (f n) k))
      under-set = ap value_at_key (map-set f xs s n) ∙ value-set (map f xs) s (f n) low-too

      pub under-put : (k : ℕ) (v : ℤ) → value (f n) ≡ put (value (f o)) k v → value_at_key (map f (set xs s n)) ≡ put (value_at_key (map f xs)) k (put (value_at_key (map f xs) k) s v)
      under-put k v is = under-set ∙ value-put (map f xs) s k v (f n) (is ∙ ap (λ (g : ℕ → ℤ). put g k v) (sym under-at))

      pub under-same : value (f n) ≡ value (f o) → value_at_key (map f (set xs s n)) ≡ value_at_key (map f xs)
      under-same is = under-set ∙ fun_ext (λ k. put_none (value_at_key (map f xs) k) s (value (f n) k) (ap (λ (g : ℕ → ℤ). g k) (under-at ∙ sym is)))

      pub under-cleared : f n ≡ [] → value_at_key (map f (set xs s n)) ≡ (λ k. put (value_at_key (map f xs) k) s (pos 0))
      under-cleared is = under-set ∙ fun_ext (λ k. ap (λ (r : List ℤ). put (value_at_key (map f xs) k) s (value r k)) is)

  -- a slot without a row has no values
  pub under-none : (s : ℕ) → length xs ≤ s → value_at_key (map f xs) ≡ (λ k. put (value_at_key (map f xs) k) s (pos 0))
  under-none s high = fun_ext (λ k. sym (put_none (value_at_key (map f xs) k) s (pos 0) (under-past k s high)))

-- ---- the values under one key

-- the values under a key are 0 for all slots below one, and the others are as they were
pub record IsClearedBelow (old new : List (List ℤ)) (key end : ℕ) : Type 0 where
  pub long : length new ≡ length old
  pub cleared : (s : ℕ) → s < end → value_at_key new key s ≡ pos 0
  pub later : (s : ℕ) → end ≤ s → value_at_key new key s ≡ value_at_key old key s
  pub others : (k : ℕ) → k ≢ key → value_at_key new k ≡ value_at_key old k

module _ (old : List (List ℤ)) {A : Type 0} (f : A → List ℤ) (xs : List A) (key s : ℕ) (o n : A) (low : s < length xs) (was : o ≡ get_or xs s o) (is : value (f n) ≡ put (value (f o)) key (pos 0)) (h : IsClearedBelow old (map f xs) key s) where
  now : value_at_key (map f (set xs s n)) ≡ put (value_at_key (map f xs)) key (put (value_at_key (map f xs) key) s (pos 0))
  now = under-put f xs s o low was n key (pos 0) is

  at-key : (u : ℕ) → value_at_key (map f (set xs s n)) key u ≡ put (value_at_key (map f xs) key) s (pos 0) u
  at-key u = ap (λ (g : ℕ → ℕ → ℤ). g key u) now ∙ ap (λ (g : ℕ → ℤ). g u) (put_here (value_at_key (map f xs)) key (put (value_at_key (map f xs) key) s (pos 0)))

  -- the slot is next
  pub cleared-more : IsClearedBelow old (map f (set xs s n)) key (s + 1)
  cleared-more = record {
    long = length-map (set xs s n) f ∙ length-set xs s n ∙ sym (length-map xs f) ∙ h.long;
    cleared = λ u end. at-key u ∙ put_by (λ (v : ℤ). v ≡ pos 0) (value_at_key (map f xs) key) s (pos 0) u (λ _. refl) (λ apart. h.cleared u (omega arith));
    later = λ u end. let apart : u ≢ s = omega arith in at-key u ∙ put_other (value_at_key (map f xs) key) s (pos 0) u apart ∙ h.later u (omega arith);
    others = λ k apart. ap (λ (g : ℕ → ℕ → ℤ). g k) now ∙ put_other (value_at_key (map f xs)) key _ k apart ∙ h.others k apart;
  }

-- none is left
pub cleared-all : (old new : List (List ℤ)) (key end : ℕ) → IsClearedBelow old new key end → length old ≤ end → value_at_key new ≡ put (value_at_key old) key (λ _. pos 0)
cleared-all old new key end h all =
    put_is (value_at_key old) (value_at_key new) key (λ _. pos 0)
    (fun_ext (λ s. elim (cases_lt s end) [ inl low ↦ h.cleared s low | inr high ↦ h.later s high ∙ value-past old key s (omega arith) ]))
    h.others
