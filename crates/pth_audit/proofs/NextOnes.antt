-- The destructor that the judge names is the next one by the marks, and there is no other.
use Rattle.std.proofs.Common.{◌≡◌, ◌⊎◌, ◌≤◌, ◌+◌, ◌∙◌, ℕ, ℤ, nat_lt, Bool, true, false, if◌then◌else◌, List, Option, Some, None, refl, sym, ap, arith, inl, inr}
use Rattle.std.proofs.lemmas.Bool.Decides.{nat_tests}
use Rattle.std.specs.Ordering.{int_cmp}
use Rattle.std.specs.Map.{keys_of}
use Rattle.std.specs.List.Sorted.{IsStrictlySortedBy}
use Rattle.pth_base.specs.declared.ids.HandlerId.{HandlerId}
use Rattle.pth_base.specs.declared.mark.Mark.{Mark}
use Rattle.pth_model.specs.Ending.{round_limit}
use Rattle.pth_laws.specs.Orderly.{is_later, key_at, value_of, Stage, Owes, NoneOwes, IsLeast, IsNext, IsNoneNext}
use Rattle.pth_audit.specs.declared.values.Due.{Due}
use Rattle.pth_audit.specs.Endings.{first_owed, due_in, due_or, next_of}
use Rattle.pth_audit.proofs.Owed.{Keys, at_key, IsOwed, NoneOwed, IsLeastOwed, first_none, first_some, le_both}

module _ (t : ℕ) (marks : List Mark) where
  -- ---- there is no other

  least_once : (last : Option ℤ) (k v j w : ℤ) → IsLeast t marks last k v → IsLeast t marks last j w → (k ≡ j) × (v ≡ w)
  least_once last k v j w x y =
      let same = le_both k j (x.least j y.destructor w y.later y.owes) (y.least k x.destructor v x.later x.owes) in
      (same, sym x.owes.value ∙ ap (λ (z : ℤ). value_of t z marks) same ∙ y.owes.value)

  pub next_once : (s : Stage) (k v j w : ℤ) (m n : ℕ) → IsNext t marks s k v m → IsNext t marks s j w n → (k ≡ j) × (v ≡ w) × (m ≡ n)
  next_once s k v j w m n (inl x) (inl y) = let (key, value) = least_once s.last k v j w x.0 y.0 in (key, value, x.1 ∙ sym y.1)
  next_once s k v j w m n (inl x) (inr y) = absurd (y.over k x.0.destructor v x.0.later x.0.owes)
  next_once s k v j w m n (inr x) (inl y) = absurd (x.over j y.0.destructor w y.0.later y.0.owes)
  next_once s k v j w m n (inr x) (inr y) = let (key, value) = least_once None k v j w x.first y.first in (key, value, x.more ∙ sym y.more)

  pub next_or_none : (s : Stage) (k v : ℤ) (n : ℕ) → IsNoneNext t marks s → IsNext t marks s k v n → ⊥
  next_or_none s k v n none (inl x) = none.0 k x.0.destructor v x.0.later x.0.owes
  next_or_none s k v n none (inr x) = by_rounds none.1
    where
      by_rounds : (round_limit ≤ s.rounds) ⊎ NoneOwes t marks None → ⊥
      by_rounds (inl many) = let fewer = x.fewer in omega (arith, many, fewer)
      by_rounds (inr nothing) = nothing k x.first.destructor v x.first.later x.first.owes

  -- what is said of the next one
  abbrev pub SaysNext : Stage → Option Due → Type 0
  SaysNext s None = IsNoneNext t marks s
  SaysNext s (Some d) = IsNext t marks s d.key d.value d.rounds

  -- ---- by the keys and the values that are kept

  module _ (value : ℤ → ℤ) (es : Keys) (values_fit : (k : ℤ) → value k ≡ value_of t k marks) (keys_fit : (k : ℤ) → at_key es k ≡ key_at k marks) where
    owed_said : (last : Option ℤ) (k : ℤ) (o : Option HandlerId) (v : ℤ) → at_key es k ≡ Some o → (is : IsOwed value last k o v) → Owes t marks k is.handler v
    owed_said last k o v there is = record {
      live = sym (keys_fit k) ∙ there ∙ ap (λ (x : Option HandlerId). Some x) is.destructor;
      value = sym (values_fit k) ∙ is.value_is;
      set = is.set;
    }

    said_owed : (last : Option ℤ) (k : ℤ) (h : HandlerId) (v : ℤ) → is_later last k ≡ true → Owes t marks k h v → IsOwed value last k (Some h) v
    said_owed last k h v later owes = record { later = later; handler = h; destructor = refl; value_is = values_fit k ∙ owes.value; set = owes.set }

    none_said : (last : Option ℤ) → NoneOwed value last es → NoneOwes t marks last
    none_said last none k h v later owes = none k (Some h) v (keys_fit k ∙ owes.live) (said_owed last k h v later owes)

    least_said : (last : Option ℤ) (d : ℤ × ℤ) → IsLeastOwed value last es d → IsLeast t marks last d.0 d.1
    least_said last d x = record {
      later = x.owed.later;
      destructor = x.owed.handler;
      owes = owed_said last d.0 x.destructor d.1 x.there x.owed;
      least = λ k h v later owes. x.least k (Some h) v (keys_fit k ∙ owes.live) (said_owed last k h v later owes);
    }

    module _ (order : IsStrictlySortedBy int_cmp (keys_of es)) where
      first : Option ℤ → Option (ℤ × ℤ)
      first last = first_owed value last es

      -- another round
      round_said : (s : Stage) → NoneOwes t marks s.last → (o : Option (ℤ × ℤ)) → first_owed value None es ≡ o → (b : Bool) → nat_lt s.rounds 4 ≡ b → SaysNext s (if b then due_in (s.rounds + 1) o else None)
      round_said s over (Some d) is true fewer = inr (record { over = over; fewer = grind (arith, nat_tests); first = least_said None d (first_some value None es d order is); more = refl })
      round_said s over None is true fewer = (over, inr (none_said None (first_none value None es is)))
      round_said s over o is false many = (over, inl (grind (arith, nat_tests)))

      this_said : (s : Stage) → (o : Option (ℤ × ℤ)) → first_owed value s.last es ≡ o → (other : Option Due) → (NoneOwes t marks s.last → SaysNext s other) → SaysNext s (due_or (due_in s.rounds o) other)
      this_said s (Some d) is other rest = inl (least_said s.last d (first_some value s.last es d order is), refl)
      this_said s None is other rest = rest (none_said s.last (first_none value s.last es is))

      pub next_said : (s : Stage) → SaysNext s (next_of (λ last. first_owed value last es) s.rounds s.last)
      next_said s = this_said s (first_owed value s.last es) refl _ (λ over. round_said s over (first_owed value None es) refl (nat_lt s.rounds 4) refl)
