use Rattle.std.proofs.Common.{◌≡◌, ◌↔◌, ℕ, List, Contains, IsSome, refl}
use Rattle.std.specs.BTreeMap.{BTreeMap, keys}
use Rattle.std.proofs.lemmas.Cmp.{nat_cmp_total}
use Rattle.std.proofs.lemmas.Map.Keys.{IsStrictlyIncreasing-from_sorted}
use Rattle.std.proofs.lemmas.Map.Lookups.{exact_unsigned}
use Rattle.std.proofs.lemmas.Map.Views.{btree_map_contains_key_iff}
use Rattle.pth_numbered.specs.Numbered.{NumberedOf, slot_of}
use Rattle.pth_numbered.proofs.numbered.Numbered.numbers.Goals as goal

-- a number is listed exactly where its thing has a slot
listed : {A : Type 0} (x : NumberedOf A) (m : BTreeMap ℕ ℕ) (ns : List ℕ) → x.index ≡ m.entries → ns ≡ keys m → (n : ℕ) → Contains ns n ↔ IsSome (slot_of x n)
unfolding slot_of
listed x m ns m_is is n =
    let known = btree_map_contains_key_iff nat_cmp_total exact_unsigned m n in
    rw (is, m_is) (λ p. known.1 p, λ p. known.0 p)

pub returns-clause-listed : goal.returns-clause-listed
returns-clause-listed g c = rw (← c.self.view_is) (listed _ c.self.inside.index _ refl c.in_ok-keys_of.ensures.keys)

pub returns-clause-rising : goal.returns-clause-rising
returns-clause-rising g c = rw c.in_ok-keys_of.ensures.keys (IsStrictlyIncreasing-from_sorted (keys c.self.inside.index) c.in_ok-keys_of.ensures.ordered)
