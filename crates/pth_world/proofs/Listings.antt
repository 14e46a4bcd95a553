-- Tables as lists, by slot and by number, and rows of them.
use Rattle.std.proofs.Common.{◌≡◌, ◌<◌, ◌≤◌, ℕ, zero, suc, ◌+◌, ◌⊎◌, inl, inr, List, [], ◌∷◌, map, Option, Some, None, refl, sym, ◌∙◌, ap, ap₂, arith}
use Rattle.std.specs.List.{range_with_len}
use Rattle.std.proofs.lemmas.Bool.{cases_lt}
use Rattle.std.proofs.lemmas.List.{get_or_past}
use Rattle.std.proofs.lemmas.List.FromFn.{get_or-map-range_with_len, length-map-range_with_len}
use mathlib.Core.Path.{fun_ext}
use Rattle.pth_base.specs.Naming.{IsTied, by_slot, seen}
use Rattle.pth_base.specs.Table.{put, table}
use Rattle.pth_base.proofs.Lists.{ap_put, put_none}
use Rattle.pth_base.proofs.Namings.{seen_add, seen_drop}
use Rattle.pth_base.proofs.Tables.{put_here, put_other, put_is}
use Rattle.pth_world.specs.Store.{name_limit, listed_to, listed}

-- ---- a table as a list

module _ {A : Type 0} (d : A) (n : ℕ) where
  pub to_at : (f : ℕ → A) (i : ℕ) → i < n → table d (listed_to n f) i ≡ f i
  unfolding listed_to
  to_at f i low = get_or-map-range_with_len f 0 n i i d low (omega arith)

  pub to_past : (f : ℕ → A) (i : ℕ) → n ≤ i → table d (listed_to n f) i ≡ d
  unfolding listed_to
  to_past f i high = get_or_past (map f (range_with_len 0 n)) i d (omega (arith, length-map-range_with_len f 0 n))

  pub same_at : (f g : ℕ → A) (i : ℕ) → f i ≡ g i → (i < n) ⊎ (n ≤ i) → table d (listed_to n f) i ≡ table d (listed_to n g) i
  same_at f g i same (inl low) = to_at f i low ∙ same ∙ sym (to_at g i low)
  same_at f g i same (inr high) = to_past f i high ∙ sym (to_past g i high)

  pub to_put : (f : ℕ → A) (k : ℕ) (x : A) → k < n → table d (listed_to n (put f k x)) ≡ put (table d (listed_to n f)) k x
  to_put f k x low = put_is _ _ k x (to_at (put f k x) k low ∙ put_here f k x) (λ i apart. same_at (put f k x) f i (put_other f k x i apart) (cases_lt i n))

  none_at : (i : ℕ) → (i < n) ⊎ (n ≤ i) → table d (listed_to n (λ _. d)) i ≡ d
  none_at i (inl low) = to_at (λ _. d) i low
  none_at i (inr high) = to_past (λ _. d) i high

  pub to_none : table d (listed_to n (λ _. d)) ≡ (λ _. d)
  to_none = fun_ext (λ i. none_at i (cases_lt i n))

-- where two tables are the same below n, their lists are
map_same : {A : Type 0} (f g : ℕ → A) (a n : ℕ) → ((i : ℕ) → a ≤ i → i < a + n → f i ≡ g i) → map f (range_with_len a n) ≡ map g (range_with_len a n)
map_same f g a zero h = refl
map_same f g a (suc n) h = ap₂ (λ x xs. x ∷ xs) (h a (omega arith) (omega arith)) (map_same f g (a + 1) n (λ i low high. h i (omega arith) (omega arith)))

pub to_same : {A : Type 0} (n : ℕ) (f g : ℕ → A) → ((i : ℕ) → i < n → f i ≡ g i) → listed_to n f ≡ listed_to n g
unfolding listed_to
to_same n f g h = map_same f g 0 n (λ i low high. h i (omega arith))

-- ---- by slot and by number

pub seen_nothing : {A : Type 0} (d : A) (g : ℕ → Option ℕ) → seen d g (λ _. d) ≡ (λ _. d)
unfolding seen
seen_nothing d g = fun_ext (λ t. by_option (g t))
  where
    by_option : (o : Option ℕ) → by_slot d (λ _. d) o ≡ d
    by_option None = refl
    by_option (Some u) = refl

pub seen_unknown : {A : Type 0} (d : A) (g : ℕ → Option ℕ) (f : ℕ → A) (t : ℕ) → g t ≡ None → seen d g f t ≡ d
unfolding seen
seen_unknown d g f t none = ap (by_slot d f) none

-- a thread is gone
pub seen_gone : {A : Type 0} (d : A) (g : ℕ → Option ℕ) (f : ℕ → ℕ) (F : ℕ → A) (t u : ℕ) → IsTied g f → g t ≡ Some u → seen d (put g t None) F ≡ put (seen d g F) t d
seen_gone d g f F t u tied e = ap (seen d (put g t None)) (sym (put_none F u (F u) refl)) ∙ seen_drop d g f F t u tied (F u) e

-- a thread is new, at a slot where nothing is
pub seen_new : {A : Type 0} (d : A) (g : ℕ → Option ℕ) (f : ℕ → ℕ) (F : ℕ → A) (t u : ℕ) → IsTied g f → g t ≡ None → f u ≡ 0 → seen d (put g t (Some u)) (put F u d) ≡ seen d g F
seen_new d g f F t u tied none free = seen_add d g f F t u tied d free ∙ put_none (seen d g F) t d (seen_unknown d g F t none)

-- ---- a row for each number of a key or a lock, with a value for each thread

module _ {A : Type 0} (d : A) where
  -- what they are read as
  abbrev pub read : (ℕ → ℕ → A) → ℕ → ℕ → A
  read G k = table d (table [] (listed (λ j. listed (G j))) k)

  pub read_at : (G : ℕ → ℕ → A) (k : ℕ) → k < name_limit → read G k ≡ table d (listed (G k))
  read_at G k low = ap (λ (l : List A). table d l) (to_at [] name_limit (λ j. listed (G j)) k low)

  pub read_past : (G : ℕ → ℕ → A) (k : ℕ) → name_limit ≤ k → read G k ≡ table d []
  read_past G k high = ap (λ (l : List A). table d l) (to_past [] name_limit (λ j. listed (G j)) k high)

  pub read_here : (G : ℕ → ℕ → A) (k t : ℕ) → k < name_limit → t < name_limit → read G k t ≡ G k t
  read_here G k t low few = ap (λ (f : ℕ → A). f t) (read_at G k low) ∙ to_at d name_limit (G k) t few

  pub read_put : (G : ℕ → ℕ → A) (k : ℕ) (h : ℕ → A) → k < name_limit → read (put G k h) ≡ put (read G) k (table d (listed h))
  read_put G k h low =
      ap (λ (F : ℕ → List A). λ (j : ℕ). table d (table [] (listed F) j)) (ap_put (λ (f : ℕ → A). listed f) G k h)
      ∙ ap (λ (F : ℕ → List A). λ (j : ℕ). table d (F j)) (to_put [] name_limit (λ j. listed (G j)) k (listed h) low)
      ∙ ap_put (λ (l : List A). table d l) (table [] (listed (λ j. listed (G j)))) k (listed h)

  read_each_at : (G : ℕ → ℕ → A) (t k : ℕ) → t < name_limit → (k < name_limit) ⊎ (name_limit ≤ k) → read (λ j. put (G j) t d) k ≡ put (read G k) t d
  read_each_at G t k few (inl low) = read_at (λ j. put (G j) t d) k low ∙ to_put d name_limit (G k) t d few ∙ ap (λ (f : ℕ → A). put f t d) (sym (read_at G k low))
  read_each_at G t k few (inr high) = read_past (λ j. put (G j) t d) k high ∙ sym (put_none (table d []) t d (get_or_past [] t d (omega arith))) ∙ ap (λ (f : ℕ → A). put f t d) (sym (read_past G k high))

  pub read_each : (G : ℕ → ℕ → A) (t : ℕ) → t < name_limit → read (λ j. put (G j) t d) ≡ (λ k. put (read G k) t d)
  read_each G t few = fun_ext (λ k. read_each_at G t k few (cases_lt k name_limit))

  -- a value for a thread in one row
  pub read_one : (G : ℕ → ℕ → A) (k t : ℕ) (x : A) → k < name_limit → t < name_limit → read (put G k (put (G k) t x)) ≡ put (read G) k (put (read G k) t x)
  read_one G k t x low few = read_put G k (put (G k) t x) low ∙ ap (put (read G) k) (to_put d name_limit (G k) t x few ∙ ap (λ (f : ℕ → A). put f t x) (sym (read_at G k low)))

  pub none_read : (k : ℕ) → (k < name_limit) ⊎ (name_limit ≤ k) → read (λ _ _. d) k ≡ (λ _. d)
  none_read k (inl low) = read_at (λ _ _. d) k low ∙ to_none d name_limit
  none_read k (inr high) = read_past (λ _ _. d) k high ∙ fun_ext (λ t. get_or_past [] t d (omega arith))
