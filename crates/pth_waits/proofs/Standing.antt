-- Who is left to join, told by the records of threads.
use Rattle.std.proofs.Common.{◌≡◌, ℕ, ◌&&◌, is_some, Bool, true, false, cond, List, [], ◌∷◌, filter, All, Option, Some, refl, subst}
use Rattle.std.proofs.lemmas.List.Elements.{All-cons, All-head, All-nil, All-tail}
use Rattle.pth_queue.specs.declared.queue.Queue.TheVariants as queues
use Rattle.pth_threads.specs.declared.entry.Entry.{Entry}
use Rattle.pth_model.specs.State.{Control, queue}
use Rattle.pth_model.specs.Changes.{entry_of, holders, or_nobody}
use Rattle.pth_model.specs.Coming.{has_any_died}
use Rattle.pth_model.specs.ThreadControl.{first_of, is_dead_in, joinable_dead}
use Rattle.pth_world.specs.Shows.{Shows}
use Rattle.pth_world.specs.WellFormed.{WellFormed}
use Rattle.pth_world.specs.World.{WorldOf}
use Rattle.pth_world.proofs.Standing.{all_stand, dead_in_place, dead_stands, of_standing, place_in}
use Rattle.pth_waits.specs.Dormant.{is_left_to_join}

module _ {P S H : Type 0} (w : WorldOf P S H) (whole : WellFormed w) (k : Control P S H) (sh : Shows w k) where
  abbrev CanBeJoined : ℕ → Bool
  CanBeJoined u = (or_nobody (entry_of k u)).joinable

  none_first : (xs : List ℕ) → is_some (first_of (filter CanBeJoined xs)) ≡ false → All (λ u. CanBeJoined u ≡ false) xs
  none_first [] none = All-nil (λ u. CanBeJoined u ≡ false)
  none_first (x ∷ xs) none = by_test (CanBeJoined x) refl (none_first xs)
    where
      by_test : (b : Bool) → CanBeJoined x ≡ b → (is_some (first_of (filter CanBeJoined xs)) ≡ false → All (λ u. CanBeJoined u ≡ false) xs) → All (λ u. CanBeJoined u ≡ false) (x ∷ xs)
      by_test true is rest = absurd (cc (subst (λ (b : Bool). is_some (first_of (cond b (x ∷ filter CanBeJoined xs) (filter CanBeJoined xs))) ≡ false) is none))
      by_test false is rest = All-cons (λ u. CanBeJoined u ≡ false) x xs is (rest (subst (λ (b : Bool). is_some (first_of (cond b (x ∷ filter CanBeJoined xs) (filter CanBeJoined xs))) ≡ false) is none))

  and_false : (a b : Bool) → (a ≡ true → b ≡ false) → (a && b) ≡ false
  and_false true b h = h refl
  and_false false b h = refl

  -- where no thread is left to join, no record is that of one
  pub none_left : has_any_died k ≡ false → (u : ℕ) → is_left_to_join (entry_of k u) ≡ false
  unfolding joinable_dead
  none_left none u = and_false (is_dead_in (entry_of k u)) (CanBeJoined u) (λ dead. of_standing w whole k sh queues.Dead (λ v. CanBeJoined v ≡ false) (none_first (holders (queue k queues.Dead)) none) u (dead_stands w whole k sh u dead))

  abbrev StandsDead : ℕ → Type 0
  StandsDead u = place_in (entry_of k u) ≡ Some queues.Dead

  left_by : (o : Option Entry) → place_in o ≡ Some queues.Dead → is_left_to_join o ≡ false → (or_nobody o).joinable ≡ false
  left_by o is none = subst (λ (b : Bool). (b && (or_nobody o).joinable) ≡ false) (dead_in_place o is) none

  none_listed : (xs : List ℕ) → All StandsDead xs → ((u : ℕ) → is_left_to_join (entry_of k u) ≡ false) → is_some (first_of (filter CanBeJoined xs)) ≡ false
  none_listed [] all none = refl
  none_listed (x ∷ xs) all none =
      rw (left_by (entry_of k x) (All-head StandsDead x xs all) (none x)) (none_listed xs (All-tail StandsDead x xs all) none)

  pub none_died : ((u : ℕ) → is_left_to_join (entry_of k u) ≡ false) → has_any_died k ≡ false
  unfolding joinable_dead
  none_died none = none_listed (holders (queue k queues.Dead)) (all_stand w whole k sh queues.Dead) none
