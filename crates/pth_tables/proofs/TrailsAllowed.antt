-- What a thread is allowed: its grace at first, and never more than a word holds.
use Rattle.std.proofs.Common.{ℕ, suc, ◌≡◌, ◌+◌, ◌*◌, ◌^◌, ◌≤◌, ◌<◌, ap, refl, List, [], ◌∷◌, ◌++◌, length, drop, not, ◌&&◌, All, arith, length-drop}
use Rattle.std.proofs.Math.Nat.{mul-le-mul_left}
use Rattle.std.proofs.lemmas.List.{drop_all}
use Rattle.std.proofs.lemmas.List.Elements.{All-head, All-tail, All-drop}
use Rattle.std.proofs.lemmas.List.Sums.{count_by-le-length}
use Rattle.pth_base.specs.Limits.{thread_limit}
use Rattle.pth_model.specs.Standing.{Standing}
use Rattle.pth_model.specs.Allowance.{Point, has_entry, points, names_another, is_before, grace, newcomers, beyond, allowed}
use Rattle.pth_tables.specs.Waits.{words}
use Rattle.pth_tables.proofs.TrailsBeyond.{length-points, All-points}

module _ (m : ℕ) where
  abbrev IsFew : Point → Type 0
  IsFew p = length p.ready ≤ m

  few-newcomers : (seen : List Standing) (ps : List Point) → All IsFew ps → newcomers seen ps ≤ m * length ps
  unfolding newcomers
  few-newcomers seen [] few = omega arith
  few-newcomers seen (p ∷ ps) few =
      let d : m * suc (length ps) ≡ m + m * length ps = grind arith in
      omega (
        arith,
        d,
        All-head IsFew p ps few,
        count_by-le-length (λ x. x.top && not (has_entry x.entry seen)) p.ready,
        few-newcomers (seen ++ p.ready) ps (All-tail IsFew p ps few),
      )

  few-beyond : (s : Standing) (ps : List Point) → All IsFew ps → beyond s ps ≤ (m + 1) * length ps
  unfolding beyond
  few-beyond s [] few = omega arith
  few-beyond s (p ∷ ps) few =
      let d : (m + 1) * suc (length ps) ≡ m + 1 + m * length ps + length ps = grind arith in
      omega (
        arith,
        d,
        All-head IsFew p ps few,
        count_by-le-length (λ x. is_before x s) p.ready,
        count_by-le-length (names_another s) (p ∷ ps),
        few-newcomers p.ready ps (All-tail IsFew p ps few),
      )

  -- the bound: by how many stood ready, and how many dispatches there were
  few-allowed : (top : ℕ) (s : Standing) (trail : List Point) → All (λ p. length p.ready ≤ m) trail → allowed top trail s ≤ grace top s.rank + (m + 1) * length trail
  unfolding allowed
  few-allowed top s trail few =
      let short : (m + 1) * length (drop (grace top s.rank) (points s.entry trail)) ≤ (m + 1) * length trail =
      mul-le-mul_left (m + 1) (omega (arith, length-drop (grace top s.rank) (points s.entry trail), length-points s.entry trail, count_by-le-length (λ p. has_entry s.entry p.ready) trail)) in
      omega (arith, short, few-beyond s (drop (grace top s.rank) (points s.entry trail)) (All-drop IsFew (grace top s.rank) (points s.entry trail) (All-points IsFew s.entry trail few)))

pub allowed-fits : (top : ℕ) (s : Standing) (trail : List Point) → All (λ p. length p.ready ≤ thread_limit) trail → grace top s.rank ≤ 64 → length trail ≤ 2 ^ 40 → allowed top trail s < words
allowed-fits top s trail few small short = omega (arith, few-allowed thread_limit top s trail few)

-- while its points are no more than its grace
pub allowed-near : (top : ℕ) (s : Standing) (trail : List Point) → length (points s.entry trail) ≤ grace top s.rank → allowed top trail s ≡ grace top s.rank
unfolding allowed beyond
allowed-near top s trail near =
    let none : beyond s (drop (grace top s.rank) (points s.entry trail)) ≡ 0 = ap (beyond s) (drop_all (grace top s.rank) (points s.entry trail) near) in
    omega (arith, none)

pub allowed-is : (top : ℕ) (s : Standing) (trail : List Point) → allowed top trail s ≡ grace top s.rank + beyond s (drop (grace top s.rank) (points s.entry trail))
unfolding allowed
allowed-is top s trail = refl
