-- The destructors that a thread is owed.
use Rattle.std.proofs.Common.{◌≡◌, ◌+◌, nat_lt, ℕ, ℤ, Bool, true, false, Option, Some, None, refl, ap}
use Rattle.pth_base.specs.declared.ids.HandlerId.{HandlerId}
use Rattle.pth_model.specs.declared.destructors.Due.{Due}
use Rattle.pth_model.specs.declared.destructors.DestructorRound.{DestructorRound}
use Rattle.pth_model.specs.Ending.{due, due_by, next_destructor, round_limit}
use Rattle.pth_store.specs.Keys.{Tables, first_live}

module _ (x : Tables) (t : ℕ) (r : DestructorRound) where
  -- one is owed in this round
  pub due_now : (o : ℕ × HandlerId × ℤ) (d : Due) → d ≡ due r.number o → first_live x t r.from ≡ Some o → Some d ≡ next_destructor x t r
  unfolding next_destructor
  due_now o d is owes = rw owes (ap (λ (e : Due). Some e) is)

  over_by : (b : Bool) (o : Option (ℕ × HandlerId × ℤ)) → nat_lt r.number round_limit ≡ b → b ≡ false → None ≡ due_by r None o
  over_by b None last over = refl
  over_by b (Some o) last over = rw (last, over) refl

  -- none is owed in this round, which is the last one
  pub none_due : first_live x t r.from ≡ None → nat_lt r.number round_limit ≡ false → None ≡ next_destructor x t r
  unfolding next_destructor
  none_due none last = rw none (over_by false (first_live x t 0) last refl)

  -- nor in one more round
  pub none_owed : first_live x t r.from ≡ None → first_live x t 0 ≡ None → None ≡ next_destructor x t r
  unfolding next_destructor
  none_owed none never = rw (none, never) refl

  -- one is owed in one more round
  pub due_next : (o : ℕ × HandlerId × ℤ) (d : Due) → d ≡ due (r.number + 1) o → first_live x t r.from ≡ None → nat_lt r.number round_limit ≡ true → first_live x t 0 ≡ Some o → Some d ≡ next_destructor x t r
  unfolding next_destructor
  due_next o d is none more owes = rw (none, owes, more) (ap (λ (e : Due). Some e) is)
