-- Changes of tables and of sets, at one object or at all of a set.
use Rattle.std.proofs.Common.{◌≡◌, ◌≢◌, ℕ, ◌<◌, ◌≤◌, ◌==◌, Bool, true, false, List, length, get_or, set, replicate, refl, sym, ◌∙◌, ap, subst, arith, inl, inr}
use Rattle.std.proofs.lemmas.List.{get_or_past, get_or_default, get_or-replicate, length-replicate}
use Rattle.std.proofs.lemmas.Bool.{cases_lt}
use mathlib.Core.Path.{fun_ext}
use Rattle.pth_base.specs.Table.{put, table}
use Rattle.pth_base.proofs.Tables.{put_here, put_other, same_means, same_fails}
use Rattle.pth_base.proofs.Lists.{table_set, ap_put}
use Rattle.pth_lock.specs.Sets.{contains, is_in_set, changed_in}
use Rattle.pth_lock.proofs.Bits.{contains-zero}

by_test : (P : ℕ → Type 0) (k i : ℕ) (b : Bool) → (i == k) ≡ b → P k → (i ≢ k → P i) → P i
by_test P k i true e here other = subst P (sym (same_means i k e)) here
by_test P k i false e here other = other (same_fails i k e)

-- what holds at one place, and at all others
pub by_place : (P : ℕ → Type 0) (k : ℕ) → P k → ((i : ℕ) → i ≢ k → P i) → (i : ℕ) → P i
by_place P k here other i = by_test P k i (i == k) refl here (other i)

-- a list that has the same everywhere
pub table_replicate : {A : Type 0} (n : ℕ) (d : A) → table d (replicate n d) ≡ (λ _. d)
table_replicate {A = A} n d = fun_ext (λ i. elim (cases_lt i n) [ inl low ↦ get_or-replicate n i d d low | inr high ↦ get_or_past (replicate n d) i d (omega (arith, length-replicate {A = A} n d)) ])

-- ---- all objects of a set, one after another

module _ {A : Type 0} (change : A → A) where
  -- none is left
  pub changed_none : (f : ℕ → A) (set : ℕ) → set ≡ 0 → changed_in change (contains set) f ≡ f
  changed_none f set none = rw none (fun_ext (λ k. rw (contains-zero k) refl))

  module _ (f : ℕ → A) (set : ℕ → Bool) (k : ℕ) (member : set k ≡ true) where
    abbrev next : ℕ → A
    next = changed_in change (put set k false) (put f k (change (f k)))

    at_place : next k ≡ changed_in change set f k
    at_place = rw (put_here set k false, put_here f k (change (f k)), member) refl

    elsewhere : (i : ℕ) → i ≢ k → next i ≡ changed_in change set f i
    elsewhere i apart = rw (put_other set k false i apart, put_other f k (change (f k)) i apart) refl

    -- one of them first, and then the rest
    pub changed_first : next ≡ changed_in change set f
    changed_first = fun_ext (by_place (λ (i : ℕ). next i ≡ changed_in change set f i) k at_place elsewhere)

  -- the same in a list
  pub changed_more : (xs : List A) (d : A) (from rest : ℕ → Bool) (k : ℕ) (x : A) → k < length xs → from k ≡ true → rest ≡ put from k false → x ≡ change (table d xs k) → changed_in change rest (table d (set xs k x)) ≡ changed_in change from (table d xs)
  changed_more xs d from rest k x low member less is =
      ap (λ (w : ℕ → Bool). changed_in change w (table d (set xs k x))) less
      ∙ ap (changed_in change (put from k false)) (table_set xs k x d low ∙ ap (put (table d xs) k) is)
      ∙ changed_first (table d xs) from k member

-- ---- one object of the set of one slot

module _ (h : ℕ → ℕ → Bool) (s k : ℕ) (b : Bool) where
  abbrev flipped : ℕ → ℕ → Bool
  flipped = put h s (put (h s) k b)

  pub flipped_here : (u : ℕ) → flipped u k ≡ put (λ v. h v k) s b u
  flipped_here = by_place (λ (u : ℕ). flipped u k ≡ put (λ v. h v k) s b u) s
      (ap (λ (f : ℕ → Bool). f k) (put_here h s (put (h s) k b)) ∙ put_here (h s) k b ∙ sym (put_here (λ v. h v k) s b))
      (λ u apart. ap (λ (f : ℕ → Bool). f k) (put_other h s (put (h s) k b) u apart) ∙ sym (put_other (λ v. h v k) s b u apart))

  pub flipped_other : (u m : ℕ) → m ≢ k → flipped u m ≡ h u m
  flipped_other u m apart = by_place (λ (u : ℕ). flipped u m ≡ h u m) s
      (ap (λ (f : ℕ → Bool). f m) (put_here h s (put (h s) k b)) ∙ put_other (h s) k b m apart)
      (λ u far. ap (λ (f : ℕ → Bool). f m) (put_other h s (put (h s) k b) u far)) u

-- ---- sets in a list

-- another set stands for a slot
pub sets_set : (sets : List ℕ) (s w : ℕ) → s < length sets → is_in_set (set sets s w) ≡ put (is_in_set sets) s (contains w)
sets_set sets s w low = ap {B = ℕ → ℕ → Bool} (λ (f : ℕ → ℕ) (u : ℕ). contains (f u)) (table_set sets s w 0 low) ∙ ap_put contains (table 0 sets) s w

-- an object is put into it, or taken out
pub sets_flipped : (sets : List ℕ) (s v w k : ℕ) (b : Bool) → s < length sets → v ≡ get_or sets s v → contains w ≡ put (contains v) k b → is_in_set (set sets s w) ≡ put (is_in_set sets) s (put (is_in_set sets s) k b)
sets_flipped sets s v w k b low was is = sets_set sets s w low ∙ ap (put (is_in_set sets) s) (is ∙ ap (λ (n : ℕ). put (contains n) k b) (was ∙ get_or_default sets s v 0 low))

-- past the end they are empty
pub sets_past : (sets : List ℕ) (s k : ℕ) → length sets ≤ s → is_in_set sets s k ≡ false
sets_past sets s k high = ap (λ (w : ℕ). contains w k) (get_or_past sets s 0 high) ∙ contains-zero k

-- all are empty
pub sets_none : (sets : List ℕ) (n : ℕ) → sets ≡ replicate n 0 → (s k : ℕ) → is_in_set sets s k ≡ false
sets_none sets n is s k = ap (λ (ws : List ℕ). is_in_set ws s k) is ∙ ap (λ (f : ℕ → ℕ). contains (f s) k) (table_replicate n 0) ∙ contains-zero k
