-- What is due next of a thread's destructors.
use Rattle.std.proofs.Common.{◌≡◌, ℕ, zero, suc, ◌+◌, ◌-◌, ◌<◌, ◌≤◌, nat_lt, if◌then◌else◌, Bool, true, false, ℤ, inl, inr, filter_map, Option, Some, None, refl, sym, ◌∙◌, ap, subst, arith}
use Rattle.std.specs.List.{range_with_len, slice_get, cons_option}
use Rattle.std.proofs.lemmas.Bool.{cases_lt}
use Rattle.std.proofs.lemmas.Bool.Decides.{nat_tests}
use Rattle.std.proofs.lemmas.Option.{none-some, same_Some}
use Rattle.pth_base.specs.declared.ids.HandlerId.{HandlerId}
use Rattle.pth_store.specs.Keys.{Tables, key_limit, is_unset, owed, owed_for, first_live}
use Rattle.pth_model.specs.declared.destructors.Due.{Due}
use Rattle.pth_model.specs.declared.destructors.DestructorRound.{DestructorRound}
use Rattle.pth_model.specs.Ending.{round_limit, due, due_by, next_destructor}
use Rattle.pth_laws.specs.Destructors.{Owes, NoneOwes, IsFirst, IsNextDue, IsNoneDue}

-- what a key owes: itself, its destructor and the value
abbrev Owed : Type 0
Owed = ℕ × HandlerId × ℤ

module _ (x : Tables) (t : ℕ) where
  abbrev At : ℕ → Owed → Type 0
  At k o = (k ≡ o.0) × Owes x t k o.1 o.2

  owes_by : (k : ℕ) (d : Option (Option HandlerId)) (o : Owed) → x.keys k ≡ d → owed k d (x.values k t) ≡ Some o → At k o
  owes_by k (Some (Some h)) o live found = by_value (is_unset (x.values k t)) refl found
    where
      by_value : (b : Bool) → is_unset (x.values k t) ≡ b → (if b then None else Some (k, h, x.values k t)) ≡ Some o → At k o
      by_value true unset found = absurd (none-some o found)
      by_value false set found = subst (At k) (same_Some (k, h, x.values k t) o found) (refl, record { live = live; value = refl; set = set })
  owes_by k (Some None) o live found = absurd (none-some o found)
  owes_by k None o live found = absurd (none-some o found)

  owes_at : (k : ℕ) (o : Owed) → owed_for x t k ≡ Some o → At k o
  owes_at k o found = owes_by k (x.keys k) o refl found

  none_at : (k : ℕ) (h : HandlerId) (v : ℤ) → owed_for x t k ≡ None → Owes x t k h v → ⊥
  none_at k h v none owes = none-some (k, h, v) (sym none ∙ owed_now)
    where
      owed_now : owed_for x t k ≡ Some (k, h, v)
      owed_now = ap (λ (d : Option (Option HandlerId)). owed k d (x.values k t)) owes.live ∙ ap (owed k (Some (Some h))) owes.value ∙ ap (λ (b : Bool). if b then None else Some (k, h, v)) owes.set

  -- ---- the first key of some that owes

  pub record IsFirstOwed (k n : ℕ) (o : Owed) : Type 0 where
    low : k ≤ o.0
    high : o.0 < k + n
    owes : Owes x t o.0 o.1 o.2
    least : NoneOwes x t k o.0

  first_of : (n k : ℕ) (o : Owed) → slice_get (filter_map (owed_for x t) (range_with_len k n)) 0 ≡ Some o → IsFirstOwed k n o
  first_of zero k o found = absurd (none-some o found)
  first_of (suc n) k o found = by_owed (owed_for x t k) refl found (first_of n (k + 1) o)
    where
      by_owed : (p : Option Owed) → owed_for x t k ≡ p → slice_get (cons_option p (filter_map (owed_for x t) (range_with_len (k + 1) n))) 0 ≡ Some o → (slice_get (filter_map (owed_for x t) (range_with_len (k + 1) n)) 0 ≡ Some o → IsFirstOwed (k + 1) n o) → IsFirstOwed k (suc n) o
      by_owed (Some p) here found later =
          let at : At k o = subst (At k) (same_Some p o found) (owes_at k p here) in
          let same : k ≡ o.0 = at.0 in
          record { low = omega (arith, same); high = omega (arith, same); owes = subst (λ (i : ℕ). Owes x t i o.1 o.2) same at.1; least = λ i h v from below owes. absurd (omega (arith, same, from, below)) }
      by_owed None here found later =
          let r = later found in
          let low = r.low in
          let high = r.high in
          record {
            low = omega (arith, low);
            high = omega (arith, high);
            owes = r.owes;
            least = λ i h v from below owes. elim (cases_lt k i) [
              | inl above ↦ r.least i h v (omega (arith, above)) below owes
              | inr not_above ↦ (let same : k ≡ i = omega (arith, from, not_above) in none_at k h v here (subst (λ (j : ℕ). Owes x t j h v) (sym same) owes))
            ];
          }

  none_of : (n k : ℕ) → slice_get (filter_map (owed_for x t) (range_with_len k n)) 0 ≡ None → NoneOwes x t k (k + n)
  none_of zero k none = λ i h v from below owes. absurd (omega (arith, from, below))
  none_of (suc n) k none = by_owed (owed_for x t k) refl none (none_of n (k + 1))
    where
      some_none : (o : Owed) → Some o ≡ None → ⊥
      some_none o h = cc

      by_owed : (p : Option Owed) → owed_for x t k ≡ p → slice_get (cons_option p (filter_map (owed_for x t) (range_with_len (k + 1) n))) 0 ≡ None → (slice_get (filter_map (owed_for x t) (range_with_len (k + 1) n)) 0 ≡ None → NoneOwes x t (k + 1) (k + 1 + n)) → NoneOwes x t k (k + suc n)
      by_owed (Some p) here none later = absurd (some_none p none)
      by_owed None here none later = λ i h v from below owes. elim (cases_lt k i) [
        | inl above ↦ later none i h v (omega (arith, above)) (omega (arith, below)) owes
        | inr not_above ↦ (let same : k ≡ i = omega (arith, from, not_above) in none_at k h v here (subst (λ (j : ℕ). Owes x t j h v) (sym same) owes))
      ]

  first_live_is : (from number : ℕ) (o : Owed) → first_live x t from ≡ Some o → IsFirst x t from (due number o)
  first_live_is from number o found =
      let r = first_of (key_limit - from) from o found in
      let low = r.low in
      let high = r.high in
      record { low = low; high = omega (arith, low, high); owes = r.owes; least = r.least; behind = refl }

  none_live : (from : ℕ) → first_live x t from ≡ None → NoneOwes x t from key_limit
  none_live from none i h v low high owes = none_of (key_limit - from) from none i h v low (omega (arith, low, high)) owes

  -- ---- the next one

  due_none : (d : Due) → Some d ≡ None → ⊥
  due_none d h = cc

  pub next_is : (r : DestructorRound) (d : Due) → next_destructor x t r ≡ Some d → IsNextDue x t r d
  unfolding next_destructor
  next_is r d found = by_first (first_live x t r.from) (first_live x t 0) refl refl found
    where
      by_round : (o : Owed) (b : Bool) → nat_lt r.number round_limit ≡ b → first_live x t r.from ≡ None → first_live x t 0 ≡ Some o → (if b then Some (due (r.number + 1) o) else None) ≡ Some d → IsNextDue x t r d
      by_round o true fewer none first found =
          let below : r.number < round_limit = grind (arith, nat_tests) in
          subst (IsNextDue x t r) (same_Some (due (r.number + 1) o) d found) (inr (record { over = none_live r.from none; fewer = below; first = first_live_is 0 (r.number + 1) o first; more = refl }))
      by_round o false fewer none first found = absurd (none-some d found)

      by_first : (o p : Option Owed) → first_live x t r.from ≡ o → first_live x t 0 ≡ p → due_by r o p ≡ Some d → IsNextDue x t r d
      by_first (Some o) p here first found = subst (IsNextDue x t r) (same_Some (due r.number o) d found) (inl (first_live_is r.from r.number o here, refl))
      by_first None (Some o) here first found = by_round o (nat_lt r.number round_limit) refl here first found
      by_first None None here first found = absurd (none-some d found)

  pub none_is : (r : DestructorRound) → next_destructor x t r ≡ None → IsNoneDue x t r
  unfolding next_destructor
  none_is r none = by_first (first_live x t r.from) (first_live x t 0) refl refl none
    where
      by_round : (o : Owed) (b : Bool) → nat_lt r.number round_limit ≡ b → first_live x t r.from ≡ None → (if b then Some (due (r.number + 1) o) else None) ≡ None → IsNoneDue x t r
      by_round o true fewer here none = absurd (due_none (due (r.number + 1) o) none)
      by_round o false fewer here none = (none_live r.from here, inl (grind (arith, nat_tests)))

      by_first : (o p : Option Owed) → first_live x t r.from ≡ o → first_live x t 0 ≡ p → due_by r o p ≡ None → IsNoneDue x t r
      by_first (Some o) p here first none = absurd (due_none (due r.number o) none)
      by_first None (Some o) here first none = by_round o (nat_lt r.number round_limit) refl here none
      by_first None None here first none = (none_live r.from here, inr (none_live 0 first))
