-- Stacks in a list by slot, after one of them was changed.
use Rattle.std.proofs.Common.{◌≡◌, ℕ, ◌-◌, ◌<◌, ◌≤◌, ◌==◌, ◌↔◌, List, [], ◌∷◌, ◌++◌, length, get_or, set, map, reverse, refl, sym, ◌∙◌, ap, Option, Some, None, option_to_list, IsSome, IfNone, append-nil, arith}
use Rattle.std.proofs.lemmas.List.{get_or_past, get_or-map, map-set, map-append, length-map, reverse-append, length-reverse, get_or-reverse}
use Rattle.std.proofs.lemmas.Option.{slice_get-get_or, slice_get_past}
use Rattle.std.proofs.Math.Seq.{map-set_same}
use Rattle.std.specs.List.{slice_get}
use Rattle.pth_base.specs.Table.{put}
use Rattle.pth_base.proofs.Lists.{table_set, table_grown, put_none}
use Rattle.pth_store.specs.Cleanups.{PushedHandler, stacks_of, cleanup_limit, is_full_stack, no_cleanups, without_top, with_top, top_taken, emptied}

-- ---- a list that stands for stacks

module _ {A : Type 0} (f : A → List PushedHandler) (xs : List A) where
  -- of an empty list they are empty
  pub none_of : xs ≡ [] → stacks_of (map f xs) ≡ no_cleanups
  unfolding stacks_of
  none_of none = rw none refl

  -- past the end there is none
  pub stack_past : (u : ℕ) → length xs ≤ u → stacks_of (map f xs) u ≡ []
  unfolding stacks_of
  stack_past u high = get_or_past (map f xs) u [] (rw length-map high)

  -- one that is empty, more
  pub stack_grown : (o : A) → f o ≡ [] → stacks_of (map f (xs ++ o ∷ [])) ≡ stacks_of (map f xs)
  unfolding stacks_of
  stack_grown o none = rw (map-append, none) (table_grown (map f xs) [])

  -- there was none to take, or to forget
  pub popped_past : (u : ℕ) → length xs ≤ u → stacks_of (map f xs) ≡ top_taken u (stacks_of (map f xs))
  popped_past u high = let none = stack_past u high in sym (put_none (stacks_of (map f xs)) u _ (none ∙ ap without_top (sym none)))

  pub emptied_past : (u : ℕ) → length xs ≤ u → stacks_of (map f xs) ≡ emptied u (stacks_of (map f xs))
  emptied_past u high = sym (put_none (stacks_of (map f xs)) u [] (stack_past u high))

module _ {A : Type 0} (f : A → List PushedHandler) (xs : List A) (u : ℕ) (o : A) (low : u < length xs) (is : o ≡ get_or xs u o) where
  -- what stands at u
  pub stack_read : stacks_of (map f xs) u ≡ f o
  unfolding stacks_of
  stack_read = get_or-map f xs u o [] low ∙ ap f (sym is)

  -- n stands there instead
  module _ (n : A) where
    stack_set : stacks_of (map f (set xs u n)) ≡ put (stacks_of (map f xs)) u (f n)
    unfolding stacks_of
    stack_set = rw map-set (table_set (map f xs) u (f n) [] (rw length-map low))

    pub stack_pushed : (c : PushedHandler) → f n ≡ c ∷ f o → stacks_of (map f (set xs u n)) ≡ with_top u c (stacks_of (map f xs))
    stack_pushed c more = stack_set ∙ ap (put (stacks_of (map f xs)) u) (more ∙ ap (λ (cs : List PushedHandler). c ∷ cs) (sym stack_read))

    pub stack_popped : f n ≡ without_top (f o) → stacks_of (map f (set xs u n)) ≡ top_taken u (stacks_of (map f xs))
    stack_popped less = stack_set ∙ ap (put (stacks_of (map f xs)) u) (less ∙ ap without_top (sym stack_read))

    pub stack_emptied : f n ≡ [] → stacks_of (map f (set xs u n)) ≡ emptied u (stacks_of (map f xs))
    stack_emptied none = stack_set ∙ ap (put (stacks_of (map f xs)) u) none

    -- it stays the same
    pub stack_kept : f n ≡ f o → map f (set xs u n) ≡ map f xs
    stack_kept same = map-set_same f xs u n o (same ∙ ap f is)

    pub kept_where_none : (r : Option PushedHandler) → IfNone r (f n ≡ f o) → IfNone r (map f (set xs u n) ≡ map f xs)
    kept_where_none (Some c) same = tt
    kept_where_none None same = stack_kept same

-- ---- a stack with its top last

pub reverse_pushed : (cs : List PushedHandler) (c : PushedHandler) → reverse (cs ++ c ∷ []) ≡ c ∷ reverse cs
reverse_pushed cs c = reverse-append cs (c ∷ [])

-- what a vector's pop leaves, and what it gives
pub record Takes (old new : List PushedHandler) (r : Option PushedHandler) : Type 0 where
  pub left : reverse new ≡ without_top (reverse old)
  pub given : r ≡ slice_get (reverse old) 0

none_taken : (old new : List PushedHandler) → old ≡ new → (0 < length old → ⊥) → Takes old new None
none_taken [] new same none = record { left = ap reverse (sym same); given = refl }
none_taken (x ∷ xs) new same none = absurd (none (omega arith))

none_is : IsSome {T = PushedHandler} None → ⊥
none_is h = cc

pub takes : (old new : List PushedHandler) (r : Option PushedHandler) → old ≡ new ++ option_to_list r → IsSome r ↔ (0 < length old) → Takes old new r
takes old new (Some c) is some = let top : reverse old ≡ c ∷ reverse new = ap reverse is ∙ reverse_pushed new c in record { left = sym (ap without_top top); given = sym (ap (λ (cs : List PushedHandler). slice_get cs 0) top) }
takes old new None is some = none_taken old new (is ∙ append-nil new) (λ more. none_is (some.1 more))

-- where it gives none, nothing changes
pub not_taken : (old new : List PushedHandler) (r : Option PushedHandler) → old ≡ new ++ option_to_list r → IfNone r (reverse new ≡ reverse old)
not_taken old new (Some c) is = tt
not_taken old new None is = ap reverse (sym (is ∙ append-nil new))

-- whether it has as many as it may have
pub full_read : (cs : List PushedHandler) (n : ℕ) → n ≡ length cs → (n == cleanup_limit) ≡ is_full_stack (reverse cs)
full_read cs n long = ap (λ (k : ℕ). k == cleanup_limit) (long ∙ sym (length-reverse cs))

-- the one n below the top
pub below_top_read : (cs : List PushedHandler) (n : ℕ) (c : PushedHandler) → n < length cs → c ≡ get_or cs (length cs - 1 - n) c → Some c ≡ slice_get (reverse cs) n
below_top_read cs n c low is =
    let low_too : n < length (reverse cs) = rw length-reverse low in
    sym (slice_get-get_or (reverse cs) n c low_too ∙ ap Some (get_or-reverse cs n c low ∙ sym is))

pub below_top_none : (cs : List PushedHandler) (n : ℕ) → length cs ≤ n → None ≡ slice_get (reverse cs) n
below_top_none cs n high = sym (slice_get_past (reverse cs) n (rw length-reverse high))
