-- The threads that are not dead, one by one in the order of a rising list of all threads in the system.
use Rattle.std.proofs.Common.{◌≡◌, ℕ, ◌+◌, ◌<◌, ◌≤◌, List, [], ◌++◌, length, map, get_or, Option, None, refl, ap, ◌∙◌}
use Rattle.std.proofs.lemmas.List.{map-append}
use Rattle.pth_base.specs.declared.ids.Tid.{Tid}
use Rattle.pth_threads.specs.declared.entry.Entry.{Entry}
use Rattle.pth_threads.specs.Threads.{number_of, tid_from}
use Rattle.pth_model.specs.State.{State}
use Rattle.pth_model.specs.Living.{if_live, live_of, live}
use Rattle.pth_world.specs.World.{WorldOf}
use Rattle.pth_world.specs.Shows.{StandsFor}
use Rattle.pth_world.specs.Sound.{IsSound}
use Rattle.pth_sched.proofs.Known.{before, AreThreads, Gathers, gathered-none, gathered-more, gathered-all}

unknown_lives_not : (t : ℕ) (o : Option Entry) → o ≡ None → if_live t o ≡ []
unknown_lives_not t o none = rw none refl

living : (known : ℕ → Option Entry) → Gathers known (λ t. if_live t (known t)) (live_of known)
unfolding live_of
living known = record { first = refl; more = λ n. refl; nothing = λ t. unknown_lives_not t (known t) }

module _ {P S H : Type 0} (w : WorldOf P S H) (ts : List Tid) (are : AreThreads w ts) (s : State P S H) (sound : IsSound w.threads) (stands : StandsFor w s) where
  -- before the first place
  pub living-none : live_of s.control.threads.known (before (map number_of ts) 0) ≡ []
  living-none = gathered-none w ts are s sound stands _ _ (living s.control.threads.known)

  -- the thread at place i is appended where it is not dead
  pub living-more : (i : ℕ) (xs more ys : List Tid) → i < length ts → map number_of xs ≡ live_of s.control.threads.known (before (map number_of ts) i)
      → if_live (get_or ts i (tid_from 0)).0 (s.control.threads.known (get_or ts i (tid_from 0)).0) ≡ map number_of more → ys ≡ xs ++ more
      → map number_of ys ≡ live_of s.control.threads.known (before (map number_of ts) (i + 1))
  living-more i xs more ys lt so_far one is =
      rw (is, map-append number_of xs more, gathered-more w ts are s sound stands _ _ (living s.control.threads.known) i lt, one)
      (ap (λ (zs : List ℕ). zs ++ map number_of more) so_far)

  -- after the last place
  pub living-all : (i : ℕ) (xs : List Tid) → i ≤ length ts → length ts ≤ i → map number_of xs ≡ live_of s.control.threads.known (before (map number_of ts) i) → map number_of xs ≡ live s
  living-all i xs le ge so_far = so_far ∙ gathered-all w ts are s sound stands _ _ (living s.control.threads.known) i le ge
