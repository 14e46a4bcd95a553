-- The members of a set for which a test holds, found one after the other.
use Rattle.std.proofs.Common.{◌≡◌, ◌+◌, ◌≤◌, ◌<◌, ◌^◌, ℕ, Bool, true, false, List, [], ◌∷◌, ◌++◌, filter, refl, sym, ◌∙◌, ap, arith, add-one, append-nil, length-append}
use Rattle.std.proofs.Math.Nat.{two-pow-succ}
use Rattle.std.proofs.lemmas.List.Elements.{filter-append}
use Rattle.pth_base.specs.Descriptors.{contains, members_below}
use Rattle.pth_base.proofs.Members.{members_below-zero, members_below-with, members_below-without, set_with-nil, set_with-snoc}
use Rattle.pth_io.specs.declared.readiness.Found.{Found}
use Rattle.pth_io.specs.Readiness.{IsFound}

-- all members of a list, each of them below a number
pub record IsFoundBelow (found : Found) (f : ℕ) (fs : List ℕ) : Type 0 where
  pub all : IsFound found fs
  pub below : found.set.0 < 2 ^ f
  pub few : found.count ≤ f

module _ (is : ℕ → Bool) (set : ℕ) where
  abbrev pub those_below : ℕ → List ℕ
  those_below f = filter is (members_below set f)

  pub found-none : (found : Found) → found.set.0 ≡ 0 → found.count ≡ 0 → IsFoundBelow found 0 (those_below 0)
  found-none found no_set no_count = rw (members_below-zero set) (record {
    all = record { set = no_set ∙ sym set_with-nil; count = no_count };
    below = omega arith;
    few = omega arith;
  })

  module _ (f : ℕ) where
    single : (b : Bool) → is f ≡ b → b ≡ true → filter is (f ∷ []) ≡ f ∷ []
    single true e h = rw e refl
    single false e h = cc

    dropped : is f ≡ false → filter is (f ∷ []) ≡ []
    dropped e = rw e refl

    pub those-with : contains set f ≡ true → is f ≡ true → those_below (f + 1) ≡ those_below f ++ f ∷ []
    those-with member e = ap (filter is) (members_below-with set f member) ∙ filter-append is (members_below set f) (f ∷ []) ∙ ap (λ l. those_below f ++ l) (single true e refl)

    pub those-apart : contains set f ≡ true → is f ≡ false → those_below (f + 1) ≡ those_below f
    those-apart member e = ap (filter is) (members_below-with set f member) ∙ filter-append is (members_below set f) (f ∷ []) ∙ ap (λ l. those_below f ++ l) (dropped e) ∙ append-nil (those_below f)

    pub those-without : contains set f ≡ false → those_below (f + 1) ≡ those_below f
    those-without no_member = ap (filter is) (members_below-without set f no_member)

-- what is found below a number, and below the next one
module _ (found : Found) (f : ℕ) (fs : List ℕ) (h : IsFoundBelow found f fs) where
  doubled : 2 ^ (f + 1) ≡ 2 ^ f + 2 ^ f
  doubled = rw (add-one, two-pow-succ) refl

  pub found-same : (gs : List ℕ) → gs ≡ fs → IsFoundBelow found (f + 1) gs
  found-same gs e = rw e (record {
    all = h.all;
    below = omega (arith, doubled, h.below);
    few = omega (arith, h.few);
  })

  pub found-more : (new : Found) (gs : List ℕ) → new.set.0 ≡ found.set.0 + 2 ^ f → new.count ≡ found.count + 1 → gs ≡ fs ++ f ∷ [] → IsFoundBelow new (f + 1) gs
  found-more new gs set_is count_is e = rw e (record {
    all = record {
      set = set_is ∙ ap (λ n. n + 2 ^ f) h.all.set ∙ sym (set_with-snoc fs f);
      count = count_is ∙ ap (λ n. n + 1) h.all.count ∙ sym (length-append fs (f ∷ []));
    };
    below = rw set_is (omega (arith, doubled, h.below));
    few = rw count_is (omega (arith, h.few));
  })
