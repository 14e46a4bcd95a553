-- Whether all members of a set pass a test, one after the other.
use Rattle.std.proofs.Common.{◌≡◌, ◌+◌, ◌-◌, ◌<◌, ℕ, zero, suc, Bool, true, false, ◌&&◌, [], ◌∷◌, refl, ◌∙◌, ap, subst, arith}
use Rattle.std.specs.List.{list_all}
use Rattle.std.proofs.lemmas.List.Folds.{list_all-append}
use Rattle.pth_base.specs.Descriptors.{contains, members_below}
use Rattle.pth_base.proofs.Members.{members_below-zero, members_below-with, members_below-without}

module _ (is : ℕ → Bool) (set : ℕ) where
  pub all-none : list_all is (members_below set 0) ≡ true
  all-none = rw (members_below-zero set) refl

  module _ (f : ℕ) where
    all-with : contains set f ≡ true → list_all is (members_below set (f + 1)) ≡ (list_all is (members_below set f) && (is f && true))
    all-with member = ap (list_all is) (members_below-with set f member) ∙ list_all-append is (members_below set f) (f ∷ [])

    pub all-without : contains set f ≡ false → list_all is (members_below set (f + 1)) ≡ list_all is (members_below set f)
    all-without no_member = ap (list_all is) (members_below-without set f no_member)

    pub all-more : contains set f ≡ true → is f ≡ true → list_all is (members_below set f) ≡ true → list_all is (members_below set (f + 1)) ≡ true
    all-more member e h = all-with member ∙ rw (h, e) refl

    none_of : (all : Bool) → is f ≡ false → (all && (is f && true)) ≡ false
    none_of true e = rw e refl
    none_of false e = refl

    all-fails : contains set f ≡ true → is f ≡ false → list_all is (members_below set (f + 1)) ≡ false
    all-fails member e = all-with member ∙ none_of _ e

    all-stays : (member : Bool) → contains set f ≡ member → list_all is (members_below set f) ≡ false → list_all is (members_below set (f + 1)) ≡ false
    all-stays true e h = all-with e ∙ rw h refl
    all-stays false e h = all-without e ∙ h

  all-later : (f d : ℕ) → list_all is (members_below set f) ≡ false → list_all is (members_below set (f + d)) ≡ false
  all-later f zero h = subst (λ (n : ℕ). list_all is (members_below set n) ≡ false) (omega arith) h
  all-later f (suc d) h = subst (λ (n : ℕ). list_all is (members_below set n) ≡ false) (omega arith) (all-stays (f + d) _ refl (all-later f d h))

  -- one that fails the test
  pub all-not : (f n : ℕ) → f < n → contains set f ≡ true → is f ≡ false → list_all is (members_below set n) ≡ false
  all-not f n low member e = subst (λ (m : ℕ). list_all is (members_below set m) ≡ false) (omega arith) (all-later (f + 1) (n - (f + 1)) (all-fails f member e))
