-- How time goes on.
use Rattle.std.proofs.Common.{◌≡◌, ℕ, ◌+◌, ◌-◌, ◌<◌, ◌≤◌, ◌&&◌, min, nat_lt, nat_le, ℤ, Bool, true, false, if◌then◌else◌, List, [], ◌∷◌, ◌++◌, Option, Some, None, IfSome, ◌∙◌, refl, sym, arith, subst}
use Rattle.std.proofs.lemmas.Option.{IfSome_then}
use Rattle.std.proofs.lemmas.Bool.{ltb-true, leb-true, and_parts}
use Rattle.pth_base.specs.Limits.{last_moment}
use Rattle.pth_base.specs.Program.{Functions}
use Rattle.pth_queue.specs.declared.queue.Queue.{Queue}
use Rattle.pth_model.specs.declared.blocked.Blocked.{Blocked}
use Rattle.pth_model.specs.State.{State, Control, Turn, now_of, clock_of}
use Rattle.pth_model.specs.Transition.{◌and◌}
use Rattle.pth_model.specs.Changes.{blocked_of, entry_of, enters, forgets, goes_on, leaves_queue, makes, or_nobody, queue_for, raises_ready, removes, sets}
use Rattle.pth_kernel.specs.Kernel.{Kernel, arrival_times}
use Rattle.pth_kernel.specs.Moments.{least_by, least_after}
use Rattle.pth_model.specs.Pass.{moment, moments, is_ready_at}
use Rattle.pth_model.specs.Part.{steps, placed_by, is_placed, is_put_back, is_put_waiting, turn_ends, readies, readies_all}
use Rattle.pth_model.specs.ThreadControl.{suspends, resumes, returns_to}
use Rattle.pth_model.specs.LibraryControl.{vanish_all_but}
use Rattle.pth_model.specs.Ending.{leaves, is_dead_with, stops_running}
use Rattle.pth_model.proofs.Walks.{KeptBy, step_keeps}
use Rattle.pth_world.specs.Shows.{StandsFor}
use Rattle.pth_world.specs.Sound.{IsSound}
use Rattle.pth_world.specs.StateOf.{state_of}
use Rattle.pth_world.specs.World.{WorldOf}
use Rattle.pth_world.proofs.StateOf.{stands_for_state}
use Rattle.pth_sched.proofs.Left.{time_left}

if_some : {A : Type 0} {Q : A → Type 0} (o : Option A) → ((a : A) → o ≡ Some a → Q a) → IfSome o Q
if_some None q = tt
if_some (Some a) q = q a refl

-- ---- the moment to which idle time moves

-- later than now, and no later than the last moment
pub record IsLater (now m : ℕ) : Type 0 where
  pub after : now < m
  pub within : m ≤ last_moment

tested_later : (now m : ℕ) → (nat_lt now m && nat_le m last_moment) ≡ true → IsLater now m
tested_later now m h = (let b = and_parts (nat_lt now m) (nat_le m last_moment) h in record { after = ltb-true now m b.0; within = leb-true m last_moment b.1 })

min_later : (now m n last : ℕ) → now < m → m ≤ last → now < n → n ≤ last → (now < min m n) × (min m n ≤ last)
min_later now m n last a b c d = (omega arith, omega arith)

least_later : (now m n : ℕ) → IsLater now m → IsLater now n → IsLater now (min m n)
least_later now m n a b = (let both = min_later now m n last_moment a.after a.within b.after b.within in record { after = both.0; within = both.1 })

-- the least of these moments, where one is taken or not
of_least : (now x m : ℕ) (o : Option ℕ) → IsLater now x → ((n : ℕ) → o ≡ Some n → IsLater now n) → least_by x o ≡ Some m → IsLater now m
of_least now x m None own rest is = (let same : x ≡ m = cc in subst (IsLater now) same own)
of_least now x m (Some n) own rest is = (let same : min x n ≡ m = cc in subst (IsLater now) same (least_later now x n own (rest n refl)))

of_tested : (now x m : ℕ) (b : Bool) (o : Option ℕ) → (b ≡ true → IsLater now x) → ((n : ℕ) → o ≡ Some n → IsLater now n) → (if b then least_by x o else o) ≡ Some m → IsLater now m
of_tested now x m true o own rest is = of_least now x m o (own refl) rest is
of_tested now x m false o own rest is = rest m is

after_later : (now m : ℕ) (ms : List ℕ) → least_after now ms ≡ Some m → IsLater now m
after_later now m [] is = absurd (cc is)
after_later now m (x ∷ xs) is = of_tested now x m (nat_lt now x && nat_le x last_moment) (least_after now xs) (tested_later now x) (λ n rest. after_later now n xs rest) is

pub moment_later : {P S H : Type 0} (f : P → Functions S H) (s : State P S H) (m : ℕ) → moment f s ≡ Some m → IsLater (now_of s.control) m
moment_later f s m is = after_later (now_of s.control) m (arrival_times s.control.kernel ++ moments f s) is

-- a world knows its next moment: it is later than now, and no later than the last moment
module _ {P S H : Type 0} (f : P → Functions S H) (w : WorldOf P S H) (o : Option ℕ) (sound : IsSound w.threads) (is : (s : State P S H) → StandsFor w s → o ≡ moment f s) where
  known_later : IfSome o (λ m. IsLater w.kernel.now m)
  unfolding state_of
  known_later = if_some o (λ m here. moment_later f (state_of w) m (sym (is (state_of w) (stands_for_state w sound)) ∙ here))

  pub next_later : IfSome o (λ m. w.kernel.now < m)
  next_later = IfSome_then o known_later (λ m later. later.after)

  pub next_within : IfSome o (λ m. m ≤ last_moment)
  next_within = IfSome_then o known_later (λ m later. later.within)

-- ---- what is left of time

less_left : (now m last : ℕ) → now < m → m ≤ last → last - m < last - now
less_left now m last after within = omega arith

no_more_left : (now clock last : ℕ) → last - min (now + clock) last ≤ last - now
no_more_left now clock last = omega arith

pub time_less : (now m : ℕ) → IsLater now m → time_left m < time_left now
unfolding time_left
time_less now m later = less_left now m last_moment later.after later.within

time_still : (now clock : ℕ) → time_left (min (now + clock) last_moment) ≤ time_left now
unfolding time_left
time_still now clock = no_more_left now clock last_moment

-- ---- the parts of a run

module _ {P S H : Type 0} where
  pub readied_kernel : (ts : List ℕ) (k : Control P S H) → (readies_all ts k).kernel ≡ k.kernel
  unfolding readies_all readies is_ready_at enters sets leaves_queue
  readied_kernel [] k = refl
  readied_kernel (t ∷ ts) k = readied_kernel ts (readies t k)

  placed_kernel : (k : Control P S H) (t : ℕ) (r : Option ℕ) (b : Option Blocked) → (placed_by t r b k).kernel ≡ k.kernel
  unfolding is_put_back is_put_waiting enters sets
  placed_kernel k t None b = refl
  placed_kernel k t (Some r) (Some b) = refl
  placed_kernel k t (Some r) None = refl

  -- the end of a turn leaves no more time
  pub ended_time : (k : Control P S H) (t : ℕ) → time_left (now_of (turn_ends t k)) ≤ time_left (now_of k)
  unfolding is_placed raises_ready
  ended_time k t =
      let raised = raises_ready k in
      let placed = is_placed t raised in
      let same : placed.kernel ≡ k.kernel = placed_kernel raised t raised.scheduler.running (blocked_of raised t) in
      let least = time_still (now_of placed) (clock_of placed) in
      subst (λ (x : Kernel). time_left (now_of (turn_ends t k)) ≤ time_left x.now) same least

module _ {P S H : Type 0} (f : P → Functions S H) (t n : ℕ) where
  abbrev IsAt : Control P S H → Type 0
  IsAt k = now_of k ≡ n

  returned_at : (u : ℕ) (k : Control P S H) (o : Option Queue) → IsAt k → IsAt (returns_to u o k)
  unfolding enters sets leaves_queue
  returned_at u k None is = is
  returned_at u k (Some q) is = is

  resumed_at : (u : ℕ) (k : Control P S H) → IsAt k → IsAt (resumes u k)
  unfolding resumes
  resumed_at u k is = returned_at u k (queue_for (or_nobody (entry_of k u)).state) is

  left_at : (u : ℕ) (v : ℤ) (k : Control P S H) → IsAt k → IsAt (leaves u v k)
  unfolding leaves is_dead_with enters sets leaves_queue forgets
  left_at u v k is = by_joinable (or_nobody (entry_of k u)).joinable
    where
      by_joinable : (b : Bool) → IsAt (((if b then is_dead_with u v else removes u) and stops_running u) k)
      by_joinable true = is
      by_joinable false = is

  calls_stay : KeptBy f t IsAt
  unfolding goes_on makes enters sets leaves_queue forgets suspends vanish_all_but
  calls_stay = record {
    calls = record {
      handlers = record { shares = λ h k is. is; seated = λ x k is. is };
      spawned = λ b v of k is. is;
      suspended = λ u k other lives is. is;
      resumed = λ u k other is. resumed_at u k is;
      removed = λ n u k taken is. is;
      favoured = λ b k is. is;
      changed = λ v u c k set is. is;
      added = λ x k is. is;
      exchanged = λ u o k is. is;
      evented = λ x k none is. is;
      described = λ ds k is. is;
      barred = λ x k is. is;
      used = λ o k is. is;
      requested = λ u b k apart is. is;
    };
    goes = λ u g k odd is. is;
    blocked = λ b j k odd was is. is;
    claimed = λ x k is. is;
    preferred = λ u k runs is. is;
    left = left_at t;
    ended = λ u v k other up is. left_at u v k is;
    dropped = λ u k other dead is. is;
    vanished = λ k is. is;
  }

  -- a step takes no time
  pub step_at : (x : Turn) (s : State P S H) → IsAt s.control → IsAt (steps f x t s).state.control
  step_at x s is = step_keeps f t IsAt calls_stay x s is
