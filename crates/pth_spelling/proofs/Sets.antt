-- A set of descriptors is read member by member.
use Rattle.std.proofs.Common.{◌≡◌, ℕ, suc, ◌+◌, ◌*◌, ◌^◌, ◌%◌, ◌<◌, ◌≤◌, Bool, true, false, cond, nat_le, bit_or, List, [], ◌∷◌, Option, Some, None, ℤ, pos, negsuc, refl, sym, ap, ◌∙◌, subst, arith}
use Rattle.std.specs.Prelude.{option_and_then, option_map}
use Rattle.std.specs.Iterator.{AlwaysYields}
use denote.Ref.{Bor}
use Rattle.std.proofs.Math.Nat.{two-pow-succ}
use Rattle.std.proofs.Math.Pow.{pow_mono}
use Rattle.std.proofs.lemmas.Bool.Decides.{nat_tests}
use Rattle.std.proofs.lemmas.Nat.{one_shl, or_disjoint}
use Rattle.std.proofs.lemmas.Nat.Bits.{and_pow, bit_at_above}
use Rattle.pth_text.specs.Number.{numeral_value}
use Rattle.pth_spelling.specs.WordMeanings.{below, members_of}

-- a number of a descriptor
abbrev pub member : List ℕ → Option ℕ
member w = option_and_then (below 64) (numeral_value w)

low_number : (z : ℤ) (k : ℕ) → below 64 z ≡ Some k → k < 64
low_number (pos n) k e = grind (arith, nat_tests)
low_number (negsuc n) k e = absurd (cc)

low_member : (o : Option ℤ) (k : ℕ) → option_and_then (below 64) o ≡ Some k → k < 64
low_member (Some z) k e = low_number z k e
low_member None k e = absurd (cc)

-- the word adds a member, which is not below the least
abbrev pub added : ℕ → List (List ℕ) → ℕ → Option ℕ
added least ps k = cond (nat_le least k) (option_map (λ set. 2 ^ k + set) (members_of (k + 1) ps)) None

none_added : (set least : ℕ) (ps : List (List ℕ)) (whole o : Option ℕ) → option_map (λ more. set + more) (option_and_then (added least ps) o) ≡ whole → o ≡ None → None ≡ whole
none_added set least ps whole None lead e = lead
none_added set least ps whole (Some k) lead e = absurd (cc)

low_by : (set k : ℕ) (ps : List (List ℕ)) (whole : Option ℕ) (b : Bool) → option_map (λ more. set + more) (cond b (option_map (λ set. 2 ^ k + set) (members_of (k + 1) ps)) None) ≡ whole → b ≡ false → None ≡ whole
low_by set k ps whole true lead e = absurd (cc)
low_by set k ps whole false lead e = lead

low_added : (set least k : ℕ) (ps : List (List ℕ)) (whole o : Option ℕ) → option_map (λ more. set + more) (option_and_then (added least ps) o) ≡ whole → o ≡ Some k → k < least → None ≡ whole
low_added set least k ps whole o lead e low =
    let test : nat_le least k ≡ false = grind (arith, nat_tests) in
    low_by set k ps whole (nat_le least k) (ap (λ p. option_map (λ more. set + more) (option_and_then (added least ps) p)) (sym e) ∙ lead) test

map_twice : (set n : ℕ) (o : Option ℕ) → option_map (λ more. set + more) (option_map (λ more. n + more) o) ≡ option_map (λ more. (set + n) + more) o
map_twice set n None = refl
map_twice set n (Some m) = ap (λ k. Some k) (omega arith)

next_by : (set k : ℕ) (ps : List (List ℕ)) (whole : Option ℕ) (b : Bool) → option_map (λ more. set + more) (cond b (option_map (λ set. 2 ^ k + set) (members_of (k + 1) ps)) None) ≡ whole → b ≡ true → option_map (λ more. (set + 2 ^ k) + more) (members_of (k + 1) ps) ≡ whole
next_by set k ps whole true lead e = sym (map_twice set (2 ^ k) (members_of (k + 1) ps)) ∙ lead
next_by set k ps whole false lead e = absurd (cc)

next_added : (set least k : ℕ) (ps : List (List ℕ)) (whole o : Option ℕ) → option_map (λ more. set + more) (option_and_then (added least ps) o) ≡ whole → o ≡ Some k → least ≤ k → option_map (λ more. (set + 2 ^ k) + more) (members_of (k + 1) ps) ≡ whole
next_added set least k ps whole o lead e high =
    let test : nat_le least k ≡ true = grind (arith, nat_tests) in
    next_by set k ps whole (nat_le least k) (ap (λ p. option_map (λ more. set + more) (option_and_then (added least ps) p)) (sym e) ∙ lead) test

bit_added : (set k : ℕ) → set < 2 ^ k → bit_or set (2 ^ k) ≡ set + 2 ^ k
bit_added set k small = or_disjoint set (2 ^ k) (and_pow set k ∙ ap (λ b. b * 2 ^ k) (bit_at_above set k k small (omega arith)) ∙ omega arith)

put_member : (set least k : ℕ) → set < 2 ^ least → least ≤ k → k < 64 → bit_or set (1 * 2 ^ k % 2 ^ 64) ≡ set + 2 ^ k
put_member set least k small high low = ap (λ b. bit_or set b) (one_shl k 64 low) ∙ bit_added set k (omega (arith, pow_mono high))

room_after : (set least k : ℕ) → set < 2 ^ least → least ≤ k → set + 2 ^ k < 2 ^ (k + 1)
room_after set least k small high =
    let e : k + 1 ≡ suc k = omega arith in
    let wide : 2 ^ least ≤ 2 ^ k = pow_mono high in
    rw e (rw two-pow-succ (omega arith))

-- what is read so far, and the words that are still to come, lead to the whole
pub record Leads {S : Type 0} (steps : S → Option (Bor (List ℕ)) → S → Type 0) (s : S) (set least : ℕ) (whole : Option ℕ) : Type 0 where
  pub parts : List (List ℕ)
  pub come : AlwaysYields steps (λ x. x.now) s parts
  pub lead : option_map (λ more. set + more) (members_of least parts) ≡ whole
  pub small : set < 2 ^ least

module _ {S : Type 0} (steps : S → Option (Bor (List ℕ)) → S → Type 0) (s t : S) (set least : ℕ) (whole : Option ℕ) where
  all_read_by : (parts : List (List ℕ)) → AlwaysYields steps (λ x. x.now) s parts → option_map (λ more. set + more) (members_of least parts) ≡ whole → steps s None t → Some set ≡ whole
  all_read_by [] come lead step = ap (λ n. Some n) (omega arith) ∙ lead
  all_read_by (p ∷ ps) come lead step = absurd (come.0 t step)

  pub all_read : Leads steps s set least whole → steps s None t → Some set ≡ whole
  all_read h step = all_read_by h.parts h.come h.lead step

  refused_by : (parts : List (List ℕ)) → AlwaysYields steps (λ x. x.now) s parts → option_map (λ more. set + more) (members_of least parts) ≡ whole → (x : Bor (List ℕ)) → steps s (Some x) t → member x.now ≡ None → None ≡ whole
  refused_by [] come lead x step e = absurd (come x t step)
  refused_by (p ∷ ps) come lead x step e = none_added set least ps whole (member p) lead (ap member (sym (come.1 x t step).0) ∙ e)

  pub refused : Leads steps s set least whole → (x : Bor (List ℕ)) → steps s (Some x) t → member x.now ≡ None → None ≡ whole
  refused h x step e = refused_by h.parts h.come h.lead x step e

  low_refused_by : (parts : List (List ℕ)) → AlwaysYields steps (λ x. x.now) s parts → option_map (λ more. set + more) (members_of least parts) ≡ whole → (x : Bor (List ℕ)) (k : ℕ) → steps s (Some x) t → member x.now ≡ Some k → k < least → None ≡ whole
  low_refused_by [] come lead x k step e low = absurd (come x t step)
  low_refused_by (p ∷ ps) come lead x k step e low = low_added set least k ps whole (member p) lead (ap member (sym (come.1 x t step).0) ∙ e) low

  pub low_refused : Leads steps s set least whole → (x : Bor (List ℕ)) (k : ℕ) → steps s (Some x) t → member x.now ≡ Some k → k < least → None ≡ whole
  low_refused h x k step e low = low_refused_by h.parts h.come h.lead x k step e low

  taken_by : (parts : List (List ℕ)) → AlwaysYields steps (λ x. x.now) s parts → option_map (λ more. set + more) (members_of least parts) ≡ whole → set < 2 ^ least → (x : Bor (List ℕ)) (k : ℕ) → steps s (Some x) t → member x.now ≡ Some k → least ≤ k → Leads steps t (set + 2 ^ k) (k + 1) whole
  taken_by [] come lead small x k step e high = absurd (come x t step)
  taken_by (p ∷ ps) come lead small x k step e high =
      let on = come.1 x t step in
      record {
        parts = ps;
        come = on.1;
        lead = next_added set least k ps whole (member p) lead (ap member (sym on.0) ∙ e) high;
        small = room_after set least k small high;
      }

  pub taken : Leads steps s set least whole → (x : Bor (List ℕ)) (k : ℕ) → steps s (Some x) t → member x.now ≡ Some k → least ≤ k → Leads steps t (bit_or set (1 * 2 ^ k % 2 ^ 64)) (k + 1) whole
  taken h x k step e high =
      subst (λ n. Leads steps t n (k + 1) whole) (sym (put_member set least k h.small high (low_member (numeral_value x.now) k e))) (taken_by h.parts h.come h.lead h.small x k step e high)

pub none_before : (o : Option ℕ) → option_map (λ more. 0 + more) o ≡ o
none_before (Some n) = ap (λ k. Some k) (omega arith)
none_before None = refl
