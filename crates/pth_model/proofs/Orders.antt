-- The order of standings, as rows: an entry is an insertion, a leave a deletion, a raise an increase.
use Rattle.std.proofs.Common.{◌≡◌, ℕ, ◌+◌, ◌==◌, Bool, true, false, not, cond, if◌then◌else◌, ℤ, pos, ◌+ℤ◌, ◌≤ℤ◌, int_lt, List, [], ◌∷◌, map, refl, sym, ◌∙◌, ap, ap₂, arith}
use Rattle.std.proofs.lemmas.Int.{ints}
use Rattle.std.proofs.lemmas.Bool.{cases_Bool}
use Rattle.std.proofs.Common.{inl, inr}
use Rattle.pth_queue.specs.declared.ranked.Ranked.{Ranked}
use Rattle.pth_queue.specs.Ranking.{insert, delete, increase, raised as raised_row}
use Rattle.pth_model.specs.Standing.{Standing, height, rank_now, put_behind, order, row_at, shown, left_by}

-- ranks after so many raises are in the order of heights
pub ranks_in_order : (raises : ℕ) (x y : Standing) → int_lt (rank_now raises x) (rank_now raises y) ≡ int_lt (height x) (height y)
ranks_in_order raises x y = grind (arith, ints)

insert_by : (raises : ℕ) (s x : Standing) (xs : List Standing) (b : Bool) → map (row_at raises) (put_behind s xs) ≡ insert (row_at raises s) (map (row_at raises) xs) → map (row_at raises) (if b then s ∷ x ∷ xs else x ∷ put_behind s xs) ≡ (if b then row_at raises s ∷ row_at raises x ∷ map (row_at raises) xs else row_at raises x ∷ insert (row_at raises s) (map (row_at raises) xs))
insert_by raises s x xs true h = refl
insert_by raises s x xs false h = ap (λ (l : List Ranked). row_at raises x ∷ l) h

pub rows-put_behind : (raises : ℕ) (s : Standing) (xs : List Standing) → map (row_at raises) (put_behind s xs) ≡ insert (row_at raises s) (map (row_at raises) xs)
unfolding put_behind
rows-put_behind raises s [] = refl
rows-put_behind raises s (x ∷ xs) = rw (ranks_in_order raises x s) (insert_by raises s x xs (int_lt (height x) (height s)) (rows-put_behind raises s xs))

-- an entry
pub shown-enter : (raises : ℕ) (s : Standing) (earlier : List Standing) → shown raises (s ∷ earlier) ≡ insert (row_at raises s) (shown raises earlier)
unfolding shown order
shown-enter raises s earlier = rows-put_behind raises s (order earlier)

raise_row : (raises : ℕ) (s : Standing) → row_at (raises + 1) s ≡ raised_row (row_at raises s)
raise_row raises s = let e : rank_now (raises + 1) s ≡ rank_now raises s +ℤ pos 1 = grind (arith, ints) in ap (λ (r : ℤ). record { rank = r; holder = s.tid }) e

rows-raise : (raises : ℕ) (xs : List Standing) → map (row_at (raises + 1)) xs ≡ increase (map (row_at raises) xs)
rows-raise raises [] = refl
rows-raise raises (x ∷ xs) = ap₂ (λ (r : Ranked) (l : List Ranked). r ∷ l) (raise_row raises x) (rows-raise raises xs)

-- a raise
pub shown-raise : (raises : ℕ) (all : List Standing) → shown (raises + 1) all ≡ increase (shown raises all)
unfolding shown
shown-raise raises all = rows-raise raises (order all)

-- none of these has a greater height than h
abbrev AtMost : ℤ → List Standing → Type 0
AtMost h [] = Unit {0}
AtMost h (x ∷ xs) = (height x ≤ℤ h) × AtMost h xs

abbrev IsFalling : List Standing → Type 0
IsFalling [] = Unit {0}
IsFalling (x ∷ xs) = AtMost (height x) xs × IsFalling xs

at_most_more : (h k : ℤ) (xs : List Standing) → h ≤ℤ k → AtMost h xs → AtMost k xs
at_most_more h k [] le a = tt
at_most_more h k (x ∷ xs) le a = (let first : height x ≤ℤ h = a.0 in grind (arith, ints), at_most_more h k xs le a.1)

not_less : (h k : ℤ) → int_lt h k ≡ false → k ≤ℤ h
not_less h k e = grind (arith, ints)

is_less : (h k : ℤ) → int_lt h k ≡ true → h ≤ℤ k
is_less h k e = grind (arith, ints)

less_too : (h k m : ℤ) → h ≤ℤ k → int_lt k m ≡ true → int_lt h m ≡ true
less_too h k m le e = grind (arith, ints)

at_most_put : (h : ℤ) (s : Standing) (xs : List Standing) → height s ≤ℤ h → AtMost h xs → AtMost h (put_behind s xs)
unfolding put_behind
at_most_put h s [] le a = (le, tt)
at_most_put h s (x ∷ xs) le a = elim (cases_Bool (int_lt (height x) (height s))) [ inl t ↦ rw t (le, (a.0, a.1)) | inr f ↦ rw f (a.0, at_most_put h s xs le a.1) ]

falling_put : (s : Standing) (xs : List Standing) → IsFalling xs → IsFalling (put_behind s xs)
unfolding put_behind
falling_put s [] f = (tt, tt)
falling_put s (x ∷ xs) f = elim (cases_Bool (int_lt (height x) (height s))) [
  | inl t ↦ rw t ((is_less (height x) (height s) t, at_most_more (height x) (height s) xs (is_less (height x) (height s) t) f.0), (f.0, f.1))
  | inr e ↦ rw e (at_most_put (height x) s xs (not_less (height x) (height s) e) f.0, falling_put s xs f.1)
]

falling_order : (all : List Standing) → IsFalling (order all)
unfolding order
falling_order [] = tt
falling_order (s ∷ all) = falling_put s (order all) (falling_order all)

-- s goes first where the first is lower
put_first : (s : Standing) (k : ℤ) (xs : List Standing) → AtMost k xs → int_lt k (height s) ≡ true → (t : ℕ) → put_behind s (left_by t xs) ≡ s ∷ left_by t xs
unfolding put_behind
put_first s k [] a e t = refl
put_first s k (x ∷ xs) a e t = elim (cases_Bool (x.tid == t)) [
  | inl g ↦ rw g (put_first s k xs a.1 e t)
  | inr n ↦ rw (n, less_too (height x) k (height s) a.0 e) refl
]

-- another's standing is put in before or after t's are left out
left_put : (t : ℕ) (s : Standing) (xs : List Standing) → IsFalling xs → (s.tid == t) ≡ false → left_by t (put_behind s xs) ≡ put_behind s (left_by t xs)
unfolding put_behind
left_put t s [] f other = rw other refl
left_put t s (x ∷ xs) f other = elim (cases_Bool (int_lt (height x) (height s))) [
  | inl e ↦ rw (e, other) (elim (cases_Bool (x.tid == t)) [
    | inl g ↦ rw g (sym (put_first s (height x) xs f.0 e t))
    | inr n ↦ rw (n, e) refl
  ])
  | inr e ↦ rw e (elim (cases_Bool (x.tid == t)) [
    | inl g ↦ rw g (left_put t s xs f.1 other)
    | inr n ↦ rw (n, e) (ap (λ (l : List Standing). x ∷ l) (left_put t s xs f.1 other))
  ])
]

-- t's own is left out wherever it was put
left_own : (t : ℕ) (s : Standing) (xs : List Standing) → (s.tid == t) ≡ true → left_by t (put_behind s xs) ≡ left_by t xs
unfolding put_behind
left_own t s [] own = rw own refl
left_own t s (x ∷ xs) own = elim (cases_Bool (int_lt (height x) (height s))) [
  | inl e ↦ rw (e, own) refl
  | inr e ↦ rw e (elim (cases_Bool (x.tid == t)) [ inl g ↦ rw g (left_own t s xs own) | inr n ↦ rw n (ap (λ (l : List Standing). x ∷ l) (left_own t s xs own)) ])
]

order_left_by : (t : ℕ) (s : Standing) (all : List Standing) (b : Bool) → (s.tid == t) ≡ b → order (left_by t all) ≡ left_by t (order all) → order (cond (not b) (s ∷ left_by t all) (left_by t all)) ≡ left_by t (put_behind s (order all))
unfolding order
order_left_by t s all true own h = h ∙ sym (left_own t s (order all) own)
order_left_by t s all false other h = ap (put_behind s) h ∙ sym (left_put t s (order all) (falling_order all) other)

pub order-left : (t : ℕ) (all : List Standing) → order (left_by t all) ≡ left_by t (order all)
unfolding order
order-left t [] = refl
order-left t (s ∷ all) = order_left_by t s all (s.tid == t) refl (order-left t all)

rows_left : (raises t : ℕ) (xs : List Standing) → map (row_at raises) (left_by t xs) ≡ delete t (map (row_at raises) xs)
rows_left raises t [] = refl
rows_left raises t (x ∷ xs) = elim (cases_Bool (x.tid == t)) [ inl g ↦ rw g (rows_left raises t xs) | inr n ↦ rw n (ap (λ (l : List Ranked). row_at raises x ∷ l) (rows_left raises t xs)) ]

-- a leave
pub shown-left : (raises t : ℕ) (all : List Standing) → shown raises (left_by t all) ≡ delete t (shown raises all)
unfolding shown
shown-left raises t all = ap (map (row_at raises)) (order-left t all) ∙ rows_left raises t (order all)

pub shown-none : (raises : ℕ) → shown raises [] ≡ []
unfolding shown order
shown-none raises = refl
