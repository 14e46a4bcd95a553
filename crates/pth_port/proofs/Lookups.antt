-- What a change of a map makes of its entries by number.
use Rattle.std.proofs.Common.{◌≡◌, ◌≢◌, ℕ, nat_eq, false, Option, Some, None, IsSome, is_some, option_map, refl, sym, ◌∙◌, ap}
use Rattle.std.specs.Ordering.{nat_cmp, is_eq}
use Rattle.std.specs.declared.cmp.Ordering.{Ordering}
use Rattle.std.specs.declared.cmp.Ordering.TheVariants.{Less, Equal, Greater}
use Rattle.std.specs.BTreeMap as tree
use Rattle.std.specs.HashMap as hash
use Rattle.std.specs.HashMap.{HashMap}
use Rattle.std.specs.BTreeMap.{is_at, BTreeMap}
use Rattle.std.proofs.lemmas.Map.Lookups.{exact_unsigned}
use Rattle.pth_base.specs.Table.{put}
use Rattle.pth_base.proofs.Tables.{not_same, put_is}
use Rattle.pth_base.proofs.Lists.{put_none}
use Rattle.pth_port.specs.Ports.{entry_at, stored_in, with_entry}

not_equal : (o : Ordering) → (o ≡ Equal → ⊥) → is_eq o ≡ false
not_equal Less h = refl
not_equal Equal h = absurd (h refl)
not_equal Greater h = refl

apart_keys : (k q : ℕ) → q ≢ k → is_at (nat_cmp k) q ≡ false
apart_keys k q apart = not_equal (nat_cmp k q) (λ e. apart (sym (exact_unsigned k q e)))

module _ {A : Type 0} where
  pub entry_put : (m n : BTreeMap ℕ A) (k : ℕ) (w : Option A) → tree.Updates nat_cmp m n k w → entry_at n.entries ≡ put (entry_at m.entries) k w
  unfolding entry_at
  entry_put m n k w up = put_is _ _ k w up.1 (λ q apart. up.2 q (apart_keys k q apart))

  -- one was written, where there was one
  pub entry_written : (m n : BTreeMap ℕ A) (k : ℕ) (v : A) (change : A → A) → tree.WritesThrough nat_cmp (nat_cmp k) m (change v) n → Some v ≡ tree.get nat_cmp m k → entry_at n.entries ≡ with_entry k change (entry_at m.entries)
  unfolding entry_at
  entry_written m n k v change writes was =
      let found : IsSome (tree.get nat_cmp m k) = ap is_some (sym was) in
      entry_put m n k (Some (change v)) (writes.3 found) ∙ ap (put (entry_at m.entries) k) (ap (option_map change) was)

  -- there was none
  pub entry_none : (m n : BTreeMap ℕ A) (k : ℕ) (change : A → A) → n ≡ m → None ≡ tree.get nat_cmp m k → entry_at n.entries ≡ with_entry k change (entry_at m.entries)
  unfolding entry_at
  entry_none m n k change same was =
      ap (λ (x : BTreeMap ℕ A). entry_at x.entries) same ∙ sym (put_none (entry_at m.entries) k (option_map change (entry_at m.entries k)) (sym was ∙ ap (option_map change) was))

-- ---- and of a map in no order

module _ {A S : Type 0} where
  pub stored_put : (m n : HashMap ℕ A S) (k : ℕ) (w : Option A) → hash.Updates nat_eq m n k w → stored_in n.entries ≡ put (stored_in m.entries) k w
  unfolding stored_in
  stored_put m n k w up = put_is _ _ k w up.1 (λ q apart. up.2 q (not_same k q (λ e. apart (sym e))))

  -- one was written, where there was one
  pub stored_written : (m n : HashMap ℕ A S) (k : ℕ) (v : A) (change : A → A) → hash.WritesThrough nat_eq (nat_eq k) m (change v) n → Some v ≡ hash.get nat_eq m k → stored_in n.entries ≡ with_entry k change (stored_in m.entries)
  unfolding stored_in
  stored_written m n k v change writes was =
      let found : IsSome (hash.get nat_eq m k) = ap is_some (sym was) in
      stored_put m n k (Some (change v)) (writes.3 found) ∙ ap (put (stored_in m.entries) k) (ap (option_map change) was)

  -- there was none
  pub stored_none : (m n : HashMap ℕ A S) (k : ℕ) (change : A → A) → n ≡ m → None ≡ hash.get nat_eq m k → stored_in n.entries ≡ with_entry k change (stored_in m.entries)
  unfolding stored_in
  stored_none m n k change same was =
      ap (λ (x : HashMap ℕ A S). stored_in x.entries) same ∙ sym (put_none (stored_in m.entries) k (option_map change (stored_in m.entries k)) (sym was ∙ ap (option_map change) was))
