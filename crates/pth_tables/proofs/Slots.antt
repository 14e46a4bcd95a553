-- The slots of rows, where a row comes or goes, and tables that grow.
use Rattle.std.proofs.Common.{◌≡◌, ℕ, ◌+◌, ◌-◌, ◌<◌, ◌≤◌, ◌==◌, ◌⊎◌, inl, inr, Bool, true, false, cond, not, int_lt, List, [], ◌∷◌, ◌++◌, length, get_or, replicate, count_by, refl, sym, ap, ◌∙◌, arith, eq-eqb, if◌then◌else◌}
use Rattle.std.proofs.lemmas.Bool.{cases_lt}
use Rattle.std.proofs.lemmas.List.{get_or_past, get_or-append_right, get_or-replicate, length-replicate}
use Rattle.std.proofs.lemmas.List.Sums.{sum_by-cons}
use Rattle.std.proofs.Math.ListN.{get_or-append}
use mathlib.Core.Path.{fun_ext}
use Rattle.pth_base.specs.Chain.{StandsIn}
use Rattle.pth_base.specs.Table.{table}
use Rattle.pth_base.proofs.Tables.{same_means}
use Rattle.pth_queue.specs.declared.ranked.Ranked.{Ranked}
use Rattle.pth_queue.specs.Ranking.{is_of, insert, delete, increase}
use Rattle.pth_queue.specs.Arena.{slots_of}
use Rattle.pth_queue.proofs.Counts.{count-cons, delete-none}
use Rattle.pth_tables.specs.DueTable.{one_if}

-- a list with more of the default is the same table
pub table_longer : {A : Type 0} (xs : List A) (n : ℕ) (d : A) → table d (xs ++ replicate n d) ≡ table d xs
table_longer xs n d = fun_ext (λ i. by_place i (cases_lt i (length xs)))
  where
    past : (j : ℕ) → (j < n) ⊎ (n ≤ j) → get_or (replicate n d) j d ≡ d
    past j h = elim h [ inl low ↦ get_or-replicate n j d d low | inr high ↦ get_or_past (replicate n d) j d (omega (arith, length-replicate n d)) ]

    by_place : (i : ℕ) → (i < length xs) ⊎ (length xs ≤ i) → get_or (xs ++ replicate n d) i d ≡ get_or xs i d
    by_place i h = elim h [
      | inl low ↦ get_or-append xs (replicate n d) d i low
      | inr high ↦ get_or-append_right xs (replicate n d) (length xs) i d refl high ∙ past (i - length xs) (cases_lt (i - length xs) n) ∙ sym (get_or_past xs i d high)
    ]

-- ---- how many slots pass a test

pub counted-cons : (f : ℕ → Bool) (x : ℕ) (xs : List ℕ) → count_by f (x ∷ xs) ≡ one_if (f x) + count_by f xs
counted-cons f x xs = sum_by-cons (λ s. cond (f s) 1 0) x xs

pub counted-alike : (f g : ℕ → Bool) (xs : List ℕ) → ((s : ℕ) → StandsIn s xs → f s ≡ g s) → count_by f xs ≡ count_by g xs
counted-alike f g [] same = refl
counted-alike f g (x ∷ xs) same =
    counted-cons f x xs
    ∙ ap (λ b. one_if b + count_by f xs) (same x (inl refl))
    ∙ ap (λ n. one_if (g x) + n) (counted-alike f g xs (λ s h. same s (inr h)))
    ∙ sym (counted-cons g x xs)

pub counted-none : (f : ℕ → Bool) (xs : List ℕ) → ((s : ℕ) → StandsIn s xs → f s ≡ false) → count_by f xs ≡ 0
counted-none f [] none = refl
counted-none f (x ∷ xs) none = let here : one_if (f x) ≡ 0 = ap one_if (none x (inl refl)) in omega (arith, counted-cons f x xs, counted-none f xs (λ s h. none s (inr h)))

-- ---- a row comes

more_if : (f : ℕ → Bool) (e x : Ranked) (xs : List Ranked) (b : Bool) → count_by f (slots_of (insert e xs)) ≡ one_if (f e.holder) + count_by f (slots_of xs) → count_by f (slots_of (if b then e ∷ x ∷ xs else x ∷ insert e xs)) ≡ one_if (f e.holder) + count_by f (slots_of (x ∷ xs))
more_if f e x xs true h = counted-cons f e.holder (slots_of (x ∷ xs))
more_if f e x xs false h = omega (arith, h, counted-cons f x.holder (slots_of (insert e xs)), counted-cons f x.holder (slots_of xs))

pub counted-insert : (f : ℕ → Bool) (e : Ranked) (rows : List Ranked) → count_by f (slots_of (insert e rows)) ≡ one_if (f e.holder) + count_by f (slots_of rows)
counted-insert f e [] = counted-cons f e.holder []
counted-insert f e (x ∷ xs) = more_if f e x xs (int_lt x.rank e.rank) (counted-insert f e xs)

stands_if : (z : ℕ) (e x : Ranked) (xs : List Ranked) (b : Bool) → (StandsIn z (slots_of (insert e xs)) → (z ≡ e.holder) ⊎ StandsIn z (slots_of xs)) → StandsIn z (slots_of (if b then e ∷ x ∷ xs else x ∷ insert e xs)) → (z ≡ e.holder) ⊎ StandsIn z (slots_of (x ∷ xs))
stands_if z e x xs true more h = h
stands_if z e x xs false more (inl same) = inr (inl same)
stands_if z e x xs false more (inr h) = elim (more h) [ inl same ↦ inl same | inr old ↦ inr (inr old) ]

pub stands-insert : (z : ℕ) (e : Ranked) (rows : List Ranked) → StandsIn z (slots_of (insert e rows)) → (z ≡ e.holder) ⊎ StandsIn z (slots_of rows)
stands-insert z e [] h = h
stands-insert z e (x ∷ xs) h = stands_if z e x xs (int_lt x.rank e.rank) (stands-insert z e xs) h

-- ---- a slot stands in rows where it is counted there

pub stands-count : (s : ℕ) (rows : List Ranked) → StandsIn s (slots_of rows) → 1 ≤ count_by (is_of s) rows
stands-count s [] h = absurd h
stands-count s (x ∷ xs) (inl e) = let own : cond (is_of s x) 1 0 ≡ one_if true = ap one_if (eq-eqb x.holder s (sym e)) in omega (arith, count-cons s x xs)
stands-count s (x ∷ xs) (inr h) = omega (arith, count-cons s x xs, stands-count s xs h)

there_by : (s : ℕ) (x : Ranked) (xs : List Ranked) (b : Bool) → (x.holder == s) ≡ b → 1 ≤ one_if b + count_by (is_of s) xs → (1 ≤ count_by (is_of s) xs → StandsIn s (slots_of xs)) → StandsIn s (slots_of (x ∷ xs))
there_by s x xs true test h more = inl (sym (same_means x.holder s test))
there_by s x xs false test h more = inr (more (omega arith))

pub count-stands : (s : ℕ) (rows : List Ranked) → 1 ≤ count_by (is_of s) rows → StandsIn s (slots_of rows)
count-stands s [] h = absurd (omega arith)
count-stands s (x ∷ xs) h = there_by s x xs (is_of s x) refl (omega (arith, count-cons s x xs)) (count-stands s xs)

-- ---- a row goes

less_if : (f : ℕ → Bool) (s : ℕ) (x : Ranked) (xs : List Ranked) (b : Bool) → (x.holder == s) ≡ b → one_if b + count_by (is_of s) xs ≡ 1 → (count_by (is_of s) xs ≡ 1 → one_if (f s) + count_by f (slots_of (delete s xs)) ≡ count_by f (slots_of xs)) → one_if (f s) + count_by f (slots_of (cond (not b) (x ∷ delete s xs) (delete s xs))) ≡ count_by f (slots_of (x ∷ xs))
less_if f s x xs true test once more =
    ap (λ l. one_if (f s) + count_by f (slots_of l)) (delete-none s xs (omega arith))
    ∙ ap (λ z. one_if (f z) + count_by f (slots_of xs)) (sym (same_means x.holder s test))
    ∙ sym (counted-cons f x.holder (slots_of xs))
less_if f s x xs false test once more = omega (arith, more (omega arith), counted-cons f x.holder (slots_of (delete s xs)), counted-cons f x.holder (slots_of xs))

pub counted-delete : (f : ℕ → Bool) (s : ℕ) (rows : List Ranked) → count_by (is_of s) rows ≡ 1 → one_if (f s) + count_by f (slots_of (delete s rows)) ≡ count_by f (slots_of rows)
counted-delete f s [] h = absurd (omega arith)
counted-delete f s (x ∷ xs) h = less_if f s x xs (is_of s x) refl (omega (arith, count-cons s x xs)) (counted-delete f s xs)

stayed_if : (z s : ℕ) (x : Ranked) (xs : List Ranked) (b : Bool) → (StandsIn z (slots_of (delete s xs)) → StandsIn z (slots_of xs)) → StandsIn z (slots_of (cond (not b) (x ∷ delete s xs) (delete s xs))) → StandsIn z (slots_of (x ∷ xs))
stayed_if z s x xs true more h = inr (more h)
stayed_if z s x xs false more (inl e) = inl e
stayed_if z s x xs false more (inr h) = inr (more h)

pub stands-delete : (z s : ℕ) (rows : List Ranked) → StandsIn z (slots_of (delete s rows)) → StandsIn z (slots_of rows)
stands-delete z s [] h = absurd h
stands-delete z s (x ∷ xs) h = stayed_if z s x xs (is_of s x) (stands-delete z s xs) h

-- ---- a raise

pub slots-increase : (rows : List Ranked) → slots_of (increase rows) ≡ slots_of rows
slots-increase [] = refl
slots-increase (x ∷ xs) = ap (λ l. x.holder ∷ l) (slots-increase xs)
