-- The lines of threads, one by one in the order of a rising list of all threads in the system.
use Rattle.std.proofs.Common.{◌≡◌, ℕ, ◌+◌, ◌<◌, ◌≤◌, List, [], ◌++◌, length, map, get_or, ℤ, Option, None, refl, sym, ap, ◌∙◌, add-one, append-nil}
use Rattle.std.proofs.lemmas.List.{append_assoc}
use Rattle.pth_base.specs.declared.ids.Tid.{Tid}
use Rattle.pth_queue.specs.declared.queue.Queue.{Queue}
use Rattle.pth_threads.specs.declared.entry.Entry.{Entry}
use Rattle.pth_threads.specs.Threads.{number_of, tid_from}
use Rattle.pth_model.specs.State.{Control, State}
use Rattle.pth_world.specs.Placed.{place}
use Rattle.pth_world.specs.World.{WorldOf}
use Rattle.pth_world.specs.Shows.{StandsFor}
use Rattle.pth_world.specs.Sound.{IsSound}
use Rattle.pth_sched.proofs.Known.{before, AreThreads, Gathers, gathered-none, gathered-more, gathered-all}
use Rattle.pth_snapshot.specs.Dump.{lines, thread_row, thread_rows}

unknown_row : (t : ℕ) (o : Option Entry) (p : Option (Queue × ℤ × ℕ)) → o ≡ None → thread_row t o p ≡ []
unknown_row t o p none = rw none refl

module _ {P S H : Type 0} (k : Control P S H) where
  abbrev pub row_of : ℕ → List ℕ
  row_of t = thread_row t (k.threads.known t) (place k t)

  abbrev pub rows_to : ℕ → List ℕ
  rows_to n = lines (λ i. row_of (i + 1)) n

  gathers : Gathers k.threads.known row_of rows_to
  unfolding lines
  gathers = record {
    first = refl;
    more = λ n. ap (λ t. rows_to n ++ row_of t) (add-one n);
    nothing = λ t none. unknown_row t (k.threads.known t) (place k t) none;
  }

module _ {P S H : Type 0} (w : WorldOf P S H) (ts : List Tid) (are : AreThreads w ts) (s : State P S H) (sound : IsSound w.threads) (stands : StandsFor w s) (old : List ℕ) where
  pub no_threads : old ≡ old ++ rows_to s.control (before (map number_of ts) 0)
  no_threads = sym (ap (λ rows. old ++ rows) (gathered-none w ts are s sound stands _ _ (gathers s.control)) ∙ append-nil old)

  pub one_more_thread : (i : ℕ) (so_far now : List ℕ) → i < length ts → so_far ≡ old ++ rows_to s.control (before (map number_of ts) i) → now ≡ so_far ++ row_of s.control (get_or ts i (tid_from 0)).0
      → now ≡ old ++ rows_to s.control (before (map number_of ts) (i + 1))
  one_more_thread i so_far now lt earlier here =
      here
      ∙ ap (λ rows. rows ++ row_of s.control (get_or ts i (tid_from 0)).0) earlier
      ∙ append_assoc old (rows_to s.control (before (map number_of ts) i)) (row_of s.control (get_or ts i (tid_from 0)).0)
      ∙ ap (λ rows. old ++ rows) (sym (gathered-more w ts are s sound stands _ _ (gathers s.control) i lt))

  pub all_threads : (i : ℕ) (now : List ℕ) → i ≤ length ts → length ts ≤ i → now ≡ old ++ rows_to s.control (before (map number_of ts) i) → now ≡ old ++ thread_rows s.control
  all_threads i now le ge so_far = so_far ∙ ap (λ rows. old ++ rows) (gathered-all w ts are s sound stands _ _ (gathers s.control) i le ge)
