-- Who is alive after one mark more, and which threads stall.
use Rattle.std.proofs.Common.{◌≡◌, ◌≢◌, ◌∙◌, ◌↔◌, ◌&&◌, ◌||◌, ◌==◌, ◌<◌, ℕ, suc, length, get_or, arith, Bool, true, false, not, List, [], ◌∷◌, ◌++◌, Some, Contains, IsTrue, sym, ap, ap₂, refl, subst}
use Rattle.std.specs.BTreeSet.{IsOrdered}
use Rattle.std.specs.List.{list_any}
use Rattle.std.specs.Ordering.{nat_cmp}
use Rattle.std.specs.Cmp.{nat_cmp_total}
use Rattle.std.proofs.Math.Bool.{or-false}
use Rattle.std.proofs.lemmas.Bool.{false≢true}
use Rattle.std.proofs.lemmas.List.Folds.{list_any-append}
use Rattle.std.proofs.lemmas.List.{length-map}
use Rattle.std.proofs.lemmas.Map.Keys.{IsStrictlyIncreasing-from_sorted, sorted_from_strictly_increasing}
use Rattle.std.proofs.lemmas.Map.Lookups.{exact_unsigned}
use Rattle.std.proofs.lemmas.Map.Views.{btree_set_contains_iff}
use Rattle.pth_base.specs.declared.ids.Tid.{Tid}
use Rattle.pth_base.specs.declared.mark.Mark.{Mark}
use Rattle.pth_laws.specs.Marks.{is_end_of}
use Rattle.pth_checker.specs.Fitting.{AreTheLiving, has_ended, is_alive, last_mark, numbers}
use Rattle.pth_transcript.specs.Threads.{is_spawn_of}
use Rattle.pth_checker.specs.Following.{FollowsLiving, has}
use Rattle.pth_checker.specs.declared.living.Living.{Living}
use Rattle.pth_checker.proofs.Rising.{same_members}

-- ---- one mark more

any_more : (test : Mark → Bool) (marks : List Mark) (m : Mark) → list_any test (marks ++ m ∷ []) ≡ (list_any test marks || test m)
any_more test marks m = list_any-append test marks (m ∷ []) ∙ ap (λ (b : Bool). list_any test marks || b) (or-false (test m))

last_more : (marks : List Mark) (m : Mark) → last_mark (marks ++ m ∷ []) ≡ Some m
last_more [] m = refl
last_more (x ∷ []) m = refl
last_more (x ∷ y ∷ ms) m = last_more (y ∷ ms) m

-- made is made before or now, ended is ended before or now
regroup : (first made ended makes ends : Bool)
    → ((((first || made) && not ended) || (makes && not ended)) && not ends) ≡ ((first || (made || makes)) && not (ended || ends))
regroup true made false makes ends = refl
regroup true made true true ends = refl
regroup true made true false ends = refl
regroup false true false makes ends = refl
regroup false true true true ends = refl
regroup false true true false ends = refl
regroup false false ended false ends = refl
regroup false false true true ends = refl
regroup false false false true ends = refl

alive_more : (marks : List Mark) (m : Mark) (t : ℕ)
    → ((is_alive marks t || (is_spawn_of t m && not (has_ended marks t))) && not (is_end_of t m)) ≡ is_alive (marks ++ m ∷ []) t
alive_more marks m t =
    regroup (1 == t) (list_any (is_spawn_of t) marks) (list_any (is_end_of t) marks) (is_spawn_of t m) (is_end_of t m)
    ∙ ap₂ (λ (made : Bool) (ended : Bool). ((1 == t) || made) && not ended) (sym (any_more (is_spawn_of t) marks m)) (sym (any_more (is_end_of t) marks m))

module _ (l after : Living) (marks : List Mark) (m : Mark) (f : FollowsLiving l marks) where
  pub follows_more : ((t : ℕ) → has after.alive t ≡ ((has l.alive t || (is_spawn_of t m && not (has l.ended t))) && not (is_end_of t m)))
      → ((t : ℕ) → has after.ended t ≡ (has l.ended t || is_end_of t m))
      → after.last ≡ Some m
      → FollowsLiving after (marks ++ m ∷ [])
  follows_more alive ended last = record {
    alive = λ t. alive t
        ∙ ap₂ (λ (a : Bool) (e : Bool). ((a || (is_spawn_of t m && not e)) && not (is_end_of t m))) (f.alive t) (f.ended t)
        ∙ alive_more marks m t;
    ended = λ t. ended t ∙ ap (λ (b : Bool). b || is_end_of t m) (f.ended t) ∙ sym (any_more (is_end_of t) marks m);
    last = last ∙ sym (last_more marks m);
  }

-- ---- the threads that are alive

module _ (l : Living) (marks : List Mark) (f : FollowsLiving l marks) (ordered : IsOrdered nat_cmp l.alive) where
  kept : (t : ℕ) → Contains l.alive.keys t ↔ (is_alive marks t ≡ true)
  kept t =
      let iff = btree_set_contains_iff nat_cmp_total exact_unsigned l.alive t in
      (λ h. sym (f.alive t) ∙ iff.1 h, λ h. iff.0 (f.alive t ∙ h))

  are_the_living : (threads : List ℕ) → l.alive.keys ≡ threads → AreTheLiving marks threads
  are_the_living threads same = subst (AreTheLiving marks) same (record { rising = IsStrictlyIncreasing-from_sorted l.alive.keys ordered; alive = kept })

  are_all_the_living : (threads : List ℕ) → AreTheLiving marks threads → l.alive.keys ≡ threads
  are_all_the_living threads are = same_members l.alive.keys threads ordered (sorted_from_strictly_increasing threads are.rising)
      (λ t h. (are.alive t).1 ((kept t).0 h)) (λ t h. (kept t).1 ((are.alive t).0 h))

-- the numbers of threads, one by one
same_numbers : (xs : List ℕ) (ts : List Tid) → length xs ≡ length ts → ((k : ℕ) → k < length xs → (d : Tid) → get_or xs k 0 ≡ (get_or ts k d).0) → xs ≡ numbers ts
same_numbers [] [] long h = refl
same_numbers [] (t ∷ ts) long h = absurd (omega (arith, long))
same_numbers (x ∷ xs) [] long h = absurd (omega (arith, long))
same_numbers (x ∷ xs) (t ∷ ts) long h =
    ap₂ (λ (z : ℕ) (zs : List ℕ). z ∷ zs) (h 0 (omega arith) t)
    (same_numbers xs ts (omega (arith, long)) (λ k low d. h (suc k) (omega (arith, low)) d))

other_length : (xs : List ℕ) (ts : List Tid) → length xs ≢ length ts → xs ≡ numbers ts → ⊥
other_length xs ts differ same = differ (ap length same ∙ length-map ts (λ (t : Tid). t.0))

unless_false : (b : Bool) → (b ≡ false → ⊥) → IsTrue b
unless_false true h = refl
unless_false false h = absurd (h refl)

module _ (l : Living) (threads : List Tid) (ordered : IsOrdered nat_cmp l.alive) where
  -- other threads than those that are alive
  pub some_others : length l.alive.keys ≢ length threads → (marks : List Mark) → FollowsLiving l marks → IsTrue false ↔ AreTheLiving marks (numbers threads)
  some_others differ marks f = (
    λ never. absurd (false≢true never),
    λ are. absurd (other_length l.alive.keys threads differ (are_all_the_living l marks f ordered (numbers threads) are)),
  )

  -- whether they are those, by the numbers one by one
  pub told_apart : (b : Bool) → length l.alive.keys ≡ length threads
      → (b ≡ true → (k : ℕ) → k < length l.alive.keys → (d : Tid) → get_or l.alive.keys k 0 ≡ (get_or threads k d).0) → (b ≡ false → l.alive.keys ≡ numbers threads → ⊥)
      → (marks : List Mark) → FollowsLiving l marks → IsTrue b ↔ AreTheLiving marks (numbers threads)
  told_apart b long same apart marks f = (
    λ holds. are_the_living l marks f ordered (numbers threads) (same_numbers l.alive.keys threads long (same holds)),
    λ are. unless_false b (λ fails. apart fails (are_all_the_living l marks f ordered (numbers threads) are)),
  )
