-- Which thread blocks on which, and circles of threads that block on each other.
use Rattle.std.specs.Prelude.{◌≡◌, ◌≢◌, ◌+◌, ◌-◌, ◌<◌, ◌≤◌, ◌==◌, ℕ, zero, suc, ℤ, List, length, get_or, map, Option, Some, None, option_and_then, if◌then◌else◌}
use Rattle.pth_base.specs.declared.ids.Tid.{Tid}
use Rattle.pth_lock.specs.Mutexes.{MutexTable, owner_of}
use Rattle.pth_lock.specs.Objects.{object_named}
use Rattle.pth_model.specs.declared.awaits.Awaited.{Awaited}
use Rattle.pth_model.specs.declared.awaits.Awaits.{Awaits}
use Rattle.pth_model.specs.declared.awaits.Awaits.TheVariants.{Mutex, Retaking}
use Rattle.pth_model.specs.Changes.{blocked_of}
use Rattle.pth_model.specs.RingWaits.{awaited_in}
use Rattle.pth_model.specs.State.{State}
use Rattle.pth_threads.specs.Threads.{number_of}

abbrev pub wanted_by : Awaits → Option ℤ → Option ℤ
wanted_by (Mutex m) None = Some m
wanted_by (Retaking m outcome) ring = Some m
wanted_by a ring = None

-- the mutex without which a thread can't go on: that of its mutex_acquire, if no event may end the wait, or that which its cond_await
-- takes back
abbrev pub wanted : Awaited → Option ℤ
wanted x = wanted_by x.what x.ring

-- who has the mutex that an operand names
abbrev pub has_it : MutexTable → ℤ → Option ℕ
has_it x m = owner_of (x (object_named m))

abbrev pub another : ℕ → Option ℕ → Option ℕ
another t None = None
another t (Some u) = if u == t then None else Some u

-- the other thread on which t blocks: it has the mutex that t wants
abbrev pub blocks_on : {P S H : Type 0} → State P S H → ℕ → Option ℕ
blocks_on s t = another t (option_and_then (has_it s.resources.store.mutexes) (wanted (awaited_in (blocked_of s.control t))))

module _ (b : ℕ → Option ℕ) where
  -- distinct threads, each of which blocks on the next, and the last on the first
  pub record IsCircle (ts : List ℕ) : Type 0 where
    pub some : 1 ≤ length ts
    pub distinct : (i j : ℕ) → i < j → j < length ts → get_or ts i 0 ≢ get_or ts j 0
    pub next : (i : ℕ) → i + 1 < length ts → b (get_or ts i 0) ≡ Some (get_or ts (i + 1) 0)
    pub last : b (get_or ts (length ts - 1) 0) ≡ Some (get_or ts 0 0)

  -- t is no later than each thread of each circle
  abbrev pub IsLeast : ℕ → Type 0
  IsLeast t = (us : List ℕ) → IsCircle us → (i : ℕ) → i < length us → t ≤ get_or us i 0

  -- none, if there is no circle; else a circle that begins with the least thread of all circles
  abbrev pub IsFirstCircle : Option (List Tid) → Type 0
  IsFirstCircle None = (us : List ℕ) → IsCircle us → ⊥
  IsFirstCircle (Some ts) = IsCircle (map number_of ts) × IsLeast (get_or (map number_of ts) 0 0)

  -- ---- along the threads on which one blocks

  -- where so many steps lead from t
  unfoldable pub along : ℕ → ℕ → Option ℕ
  along zero t = Some t
  along (suc n) t = option_and_then b (along n t)

  -- after how many steps, at least one and at most this many, t is reached again for the first time
  abbrev pub IsBack : (most t : ℕ) → Option ℕ → Type 0
  IsBack most t None = (k : ℕ) → 1 ≤ k → k ≤ most → along k t ≢ Some t
  IsBack most t (Some n) = (1 ≤ n) × (n ≤ most) × (along n t ≡ Some t) × ((k : ℕ) → 1 ≤ k → k < n → along k t ≢ Some t)
