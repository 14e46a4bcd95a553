-- The numbers of the threads, as they are listed.
use Rattle.std.proofs.Common.{◌≡◌, ◌↔◌, ℕ, List, [], ◌∷◌, length, map, get_or, Contains, IsSome, refl, ap, zero, suc}
use Rattle.std.specs.List.Sorted.{IsStrictlyIncreasing}
use Rattle.pth_base.specs.declared.ids.Tid.{Tid}
use Rattle.pth_threads.specs.Threads.{ThreadsOf, slot_of, number_of, tid_from}

numbers_from : (ks : List ℕ) → map number_of (map tid_from ks) ≡ ks
numbers_from [] = refl
numbers_from (k ∷ ks) = ap (λ xs. k ∷ xs) (numbers_from ks)

length_from : (ks : List ℕ) → length (map tid_from ks) ≡ length ks
length_from [] = refl
length_from (k ∷ ks) = ap suc (length_from ks)

at_from : (ks : List ℕ) (i : ℕ) (t : Tid) → get_or (map tid_from ks) i t ≡ tid_from (get_or ks i t.0)
at_from [] i t = refl
at_from (k ∷ ks) zero t = refl
at_from (k ∷ ks) (suc i) t = at_from ks i t

contains_from : (ks : List ℕ) (t : Tid) → Contains (map tid_from ks) t ↔ Contains ks t.0
contains_from ks t = (
  λ p. (p.0, rw length_from at p.1, ap number_of (rw at_from at p.2)),
  λ p. (p.0, rw length_from p.1, rw at_from (ap tid_from p.2)),
)

-- a thread is listed exactly where its number is
pub listed : (x : ThreadsOf) (ns : List ℕ) (ts : List Tid) → ((n : ℕ) → Contains ns n ↔ IsSome (slot_of x n)) → ts ≡ map tid_from ns → (t : Tid) → Contains ts t ↔ IsSome (slot_of x t.0)
listed x ns ts known is t =
    let from = contains_from ns t in
    rw is (λ p. (known t.0).0 (from.0 p), λ p. from.1 ((known t.0).1 p))

pub rising : (ns : List ℕ) (ts : List Tid) → ts ≡ map tid_from ns → IsStrictlyIncreasing ns → IsStrictlyIncreasing (map number_of ts)
rising ns ts is sorted = rw (is, numbers_from) sorted
