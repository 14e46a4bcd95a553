-- Members of sets.
use Rattle.std.proofs.Common.{◌≡◌, ◌∙◌, ℕ, ◌+◌, ◌/◌, ◌%◌, ◌^◌, ◌<◌, ◌==◌, List, [], ◌∷◌, ◌++◌, length, take, refl, cond, true, false, ap, sym, arith, add-one, bit_and, eq-eqb}
use Rattle.std.proofs.Math.ListN.{length-set}
use Rattle.std.proofs.Math.ListN.{set as list_set}
use Rattle.std.proofs.lemmas.Bool.Decides.{nat_tests}
use Rattle.std.proofs.lemmas.Grind.{and_numeral, take-set_at}
use Rattle.pth_base.specs.Descriptors.{contains, members_below}

not_equal : (a b : ℕ) → ¬ (a ≡ b) → (a == b) ≡ false
not_equal a b h = grind (arith, nat_tests)

pub none_below_zero : (set : ℕ) → [] ≡ members_below set 0
unfolding members_below
none_below_zero set = refl

pub with_member : (set f : ℕ) → contains set f ≡ true → members_below set f ++ f ∷ [] ≡ members_below set (f + 1)
unfolding members_below
with_member set f h = rw (add-one) (sym (ap (λ b. cond b (members_below set f ++ f ∷ []) (members_below set f)) h))

pub without_member : (set f : ℕ) → contains set f ≡ false → members_below set f ≡ members_below set (f + 1)
unfolding members_below
without_member set f h = rw (add-one) (sym (ap (λ b. cond b (members_below set f ++ f ∷ []) (members_below set f)) h))

-- one more member in the list
pub listed_more : (set f count : ℕ) (members more : List ℕ) → more ≡ list_set members count f → length more ≡ 64 → count < 64 → take count members ≡ members_below set f → bit_and (set / 2 ^ f) 1 ≡ 1 → take (count + 1) more ≡ members_below set (f + 1)
listed_more set f count members more e long low before bit =
    let room : count < length members = omega (arith, ap length e, length-set members count f) in
    let there : contains set f ≡ true = eq-eqb (set / 2 ^ f % 2) 1 (sym (and_numeral (set / 2 ^ f) 0 refl) ∙ bit) in
    ap (take (count + 1)) e ∙ take-set_at members count (count + 1) f refl room ∙ ap (λ xs. xs ++ f ∷ []) before ∙ with_member set f there

-- no member more
pub listed_same : (set f : ℕ) (members : List ℕ) → members ≡ members_below set f → ¬ (bit_and (set / 2 ^ f) 1 ≡ 1) → members ≡ members_below set (f + 1)
listed_same set f members before bit =
    let absent : contains set f ≡ false = not_equal (set / 2 ^ f % 2) 1 (λ h. bit (and_numeral (set / 2 ^ f) 0 refl ∙ h)) in
    before ∙ without_member set f absent
