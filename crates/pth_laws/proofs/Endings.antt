-- An ending, walked: its handlers from the last pushed to the first, its destructors to the last that is due, and its mark.
use Rattle.std.proofs.Common.{◌≡◌, ◌≢◌, ℕ, zero, suc, ◌+◌, ◌-◌, ◌*◌, ◌<◌, ◌≤◌, ◌||◌, if◌then◌else◌, cond, Bool, true, false, ℤ, negsuc, List, [], ◌∷◌, ◌++◌, map, filter, inl, inr, Option, Some, None, refl, sym, ◌∙◌, ap, ap₂, subst, arith, append_assoc, append-nil}
use Rattle.std.specs.List.{range_with_len}
use Rattle.std.proofs.lemmas.Bool.{cases_lt, true≢false}
use Rattle.pth_base.specs.Program.{Functions}
use Rattle.pth_base.specs.Table.{put}
use Rattle.pth_base.specs.declared.mark.Mark.{Mark}
use Rattle.pth_base.specs.declared.mark.Mark.TheVariants as mark
use Rattle.pth_base.proofs.Tables.{same_self, put_by, put_here, put_other}
use Rattle.pth_cond.specs.Conditions.{ConditionTable}
use Rattle.pth_cond.specs.Barriers.{BarrierTable, waits_at, withdrawn}
use Rattle.pth_lock.specs.Objects.{object_limit, object_named}
use Rattle.pth_lock.specs.Mutexes.{free_mutex, has}
use Rattle.pth_lock.specs.RwLocks.{holds, is_one, without_slot}
use Rattle.pth_store.specs.Cleanups.{PushedHandler}
use Rattle.pth_store.specs.Keys.{Tables, key_limit}
use Rattle.pth_threads.specs.declared.entry.Entry.{Entry}
use Rattle.pth_model.specs.declared.awaits.Awaits.{Awaits}
use Rattle.pth_model.specs.declared.awaits.Awaits.TheVariants as awaited
use Rattle.pth_model.specs.declared.blocked.Blocked.{Blocked}
use Rattle.pth_model.specs.declared.destructors.Due.{Due}
use Rattle.pth_model.specs.declared.destructors.DestructorRound.{DestructorRound}
use Rattle.pth_model.specs.Resources.{told}
use Rattle.pth_model.specs.Store.{Resources}
use Rattle.pth_model.specs.State.{State, Control}
use Rattle.pth_model.specs.Transition.{Piece, changes, tells, tells_each, tid, where_so, ◌and◌, ◌and_then◌}
use Rattle.pth_model.specs.Ending.{round_limit, first_round, next_destructor, other_than, stops_running, is_dead_with, undoes_wait, runs_each, runs_cleanups, runs_destructor, destructs_by, destructs, runs_destructors, mutexes_had, locks_held, gives_mutexes, gives_locks, gives_all, leaves, dies, ending}
use Rattle.pth_model.specs.Awaits.{awaits_in}
use Rattle.pth_model.specs.Barriers.{withdraws, withdraws_from}
use Rattle.pth_model.specs.Conditions.{hands_on_seat, hands_on_seats}
use Rattle.pth_model.specs.Changes.{sets, enters, leaves_queue, forgets, removes, goes_on, with_barriers, is_blocked_by, blocked_of, or_nobody, entry_of}
use Rattle.pth_model.specs.RingWaits.{awaited_in, claimant, gives_back, stops_waiting, ring_held}
use Rattle.pth_model.specs.Acts.{handled, runs_handler}
use Rattle.pth_model.specs.Living.{lives, is_made}
use Rattle.pth_model.proofs.Placed.{Seats, seats}
use Rattle.pth_laws.proofs.Book.{Book, Closed, BlockRun, after, ran_by, ran_nothing, with_handler, with_destructor}
use Rattle.pth_laws.proofs.Laws.{HasMutex, HoldsLock}
use Rattle.pth_laws.specs.Destructors.{IsNextDue}
use Rattle.pth_laws.proofs.NextDue.{next_is}
use Rattle.pth_laws.proofs.Living.{IsLiving, Living, living-up, living_left}
use Rattle.pth_laws.proofs.Claims.{HasClaims, stopped_apart, claims_stop, claims_left, left_other, stopped_known}
use Rattle.pth_laws.proofs.Awaits.{Flags, Tells, HasAwaits, flags_past, others_await, awaits_stop, awaits_left}
use Rattle.pth_laws.proofs.Locked.{no_mutex, no_lock}
use Rattle.pth_laws.proofs.Held.{out_released, out_given}
use Rattle.pth_laws.proofs.OrderlyMarks.{value_self}
use Rattle.pth_laws.proofs.Walk.{Walk, IsMarkedWithin, walk_tells, walk_then, walk_to}
use Rattle.pth_laws.proofs.Handlers.{IsRunning, run_up, block_open, handled_walk, handler_walk}

-- ---- no destructor is left after the rounds that there may be

-- what is left of the rounds and their keys
abbrev pub keys_left : DestructorRound → ℕ
keys_left r = (round_limit - r.number) * key_limit + (key_limit - r.from)

due_left : (x : Tables) (t : ℕ) (r : DestructorRound) (d : Due) → next_destructor x t r ≡ Some d → keys_left d.round < keys_left r
due_left x t r d h = by_round (next_is x t r d h)
  where
    by_round : IsNextDue x t r d → keys_left d.round < keys_left r
    by_round (inl here) =
        let low = here.0.low in
        let high = here.0.high in
        let behind = here.0.behind in
        let same = here.1 in
        omega (arith, low, high, behind, same)
    by_round (inr next) =
        let high = next.first.high in
        let behind = next.first.behind in
        let fewer = next.fewer in
        let more = next.more in
        omega (arith, high, behind, fewer, more)

none_left : (x : Tables) (t : ℕ) (r : DestructorRound) → keys_left r ≤ 0 → next_destructor x t r ≡ None
none_left x t r none = by_due (next_destructor x t r) refl
  where
    by_due : (o : Option Due) → next_destructor x t r ≡ o → next_destructor x t r ≡ None
    by_due None h = h
    by_due (Some d) h = let less = due_left x t r d h in absurd (omega (arith, less, none))

-- ---- handlers and destructors

-- what ran so far in an ending: these handlers, and the destructors up to here in the rounds
abbrev pub so_far : List PushedHandler → DestructorRound → BlockRun
so_far hs r = record { handlers = hs; round = r; is_fine = true }

pub one_more_ran : (hs : List PushedHandler) (c : PushedHandler) → with_handler c (so_far hs first_round) ≡ so_far (hs ++ c ∷ []) first_round
unfolding with_handler
one_more_ran hs c = refl

next_ran : (hs : List PushedHandler) (r : DestructorRound) (d : Due) → with_destructor (Some d) d.key d.value (so_far hs r) ≡ so_far hs d.round
unfolding with_destructor
next_ran hs r d = rw (same_self d.key, value_self d.value) refl

module _ {P S H : Type 0} (f : P → Functions S H) (n t : ℕ) (over dropped : ℕ → Bool) (up : over t ≡ false) (made : is_made n t ≡ true) (had : Resources) (y : Control P S H) where
  abbrev RunsSo : List PushedHandler → DestructorRound → Book → State P S H → Type 0
  RunsSo hs r = IsRunning t over dropped had y (so_far hs r)

  each_walk : (cs hs : List PushedHandler) (b : Book) (s : State P S H) → RunsSo hs first_round b s → Walk n b (RunsSo (hs ++ cs) first_round) (runs_each f t cs s)
  unfolding runs_each
  each_walk [] hs b s w = record { law = tt; post = subst (λ (l : List PushedHandler). RunsSo l first_round b s) (sym (append-nil hs)) w }
  each_walk (c ∷ cs) hs b s w =
      walk_then n (RunsSo (hs ++ c ∷ []) first_round) (RunsSo (hs ++ c ∷ cs) first_round) b (runs_handler f t c.0 c.1) (runs_each f t cs) s
      (subst (λ (x : BlockRun). Walk n b (IsRunning t over dropped had y x) (runs_handler f t c.0 c.1 s)) (one_more_ran hs c) (handler_walk f n t over dropped up made had y (so_far hs first_round) c.0 c.1 b s w))
      (λ d v. walk_to n (RunsSo ((hs ++ c ∷ []) ++ cs) first_round) (RunsSo (hs ++ c ∷ cs) first_round) d (runs_each f t cs (runs_handler f t c.0 c.1 s).state)
      (λ e u. subst (λ (l : List PushedHandler). RunsSo l first_round e u) (append_assoc hs (c ∷ []) cs))
      (each_walk cs (hs ++ c ∷ []) d (runs_handler f t c.0 c.1 s).state v))

  -- all destructors ran
  pub record IsDone (hs : List PushedHandler) (b : Book) (s : State P S H) : Type 0 where
    pub round : DestructorRound
    pub runs : RunsSo hs round b s
    pub all : next_destructor s.resources.store.keys t round ≡ None

  due_walk : (hs : List PushedHandler) (r : DestructorRound) (o : Option Due) (next : DestructorRound → Piece P S H) (b : Book) (s : State P S H) → next_destructor s.resources.store.keys t r ≡ o → RunsSo hs r b s → ((d : Due) → o ≡ Some d → (c : Book) (u : State P S H) → RunsSo hs d.round c u → Walk n c (IsDone hs) (next d.round u)) → Walk n b (IsDone hs) (destructs_by f t o next s)
  unfolding told
  due_walk hs r None next b s found w goes = record { law = tt; post = record { round = r; runs = w; all = found } }
  due_walk hs r (Some d) next b s found w goes =
      let m = mark.Destructor (tid t) d.key d.value in
      let x = ran_by b.block t in
      let seen : next_destructor b.resources.store.keys t x.round ≡ Some d = ap (λ (k : Resources). next_destructor k.store.keys t x.round) w.resources ∙ ap (λ (z : BlockRun). next_destructor s.resources.store.keys t z.round) w.ran ∙ found in
      walk_then n (RunsSo hs d.round) (IsDone hs) b (runs_destructor f t d) (next d.round) s
      (walk_then n (RunsSo hs d.round) (RunsSo hs d.round) b (tells m) (handled f t d.handler d.value) s
      (walk_tells n (RunsSo hs d.round) b m s (λ locked. (((run_up f n t over dropped up made had y (so_far hs r) b s w, tt), tt), made)) (record {
        resources = ap (λ (k : Resources). told k m) w.resources;
        ended = w.ended;
        canceled = w.canceled;
        ran = block_open t (with_destructor (next_destructor b.resources.store.keys t x.round) d.key d.value x) ∙ ap (λ (o : Option Due). with_destructor o d.key d.value x) seen ∙ ap (with_destructor (Some d) d.key d.value) w.ran ∙ next_ran hs r d;
        cleanups = w.cleanups;
        awaits = w.awaits;
        control = w.control;
      }))
      (λ c v. handled_walk f n t over dropped up made had y (so_far hs d.round) d.handler d.value c (tells m s).state v))
      (λ c v. goes d refl c (runs_destructor f t d s).state v)

  destructs_walk : (hs : List PushedHandler) (many : ℕ) (r : DestructorRound) (b : Book) (s : State P S H) → keys_left r ≤ many → RunsSo hs r b s → Walk n b (IsDone hs) (destructs f t many r s)
  unfolding destructs
  destructs_walk hs zero r b s low w = record { law = tt; post = record { round = r; runs = w; all = none_left s.resources.store.keys t r low } }
  destructs_walk hs (suc many) r b s low w =
      due_walk hs r (next_destructor s.resources.store.keys t r) (destructs f t many) b s refl w
      (λ d found c u v. destructs_walk hs many d.round c u (let less = due_left s.resources.store.keys t r d found in omega (arith, less, low)) v)

  -- what t has is given up: it has none of these mutexes, and holds none of these locks
  pub record IsGiven (hs : List PushedHandler) (mutexes locks : ℕ) (b : Book) (s : State P S H) : Type 0 where
    pub done : IsDone hs b s
    pub none : (m : ℕ) → m < mutexes → has t (s.resources.store.mutexes m) ≡ false
    pub out : (l : ℕ) → l < locks → holds s.resources.store.rw_locks t l ≡ false

  -- one mark more of those that an end gives back
  given_so : (hs : List PushedHandler) (m : Mark) (b : Book) (s : State P S H) → (told s.resources m).store.cleanups ≡ s.resources.store.cleanups → (told s.resources m).store.keys ≡ s.resources.store.keys → (told s.resources m).awaits ≡ s.resources.awaits → (after b m).ended ≡ b.ended → (after b m).canceled ≡ b.canceled → ran_by (after b m).block t ≡ ran_by b.block t → IsDone hs b s → IsDone hs (after b m) (tells m s).state
  given_so hs m b s cleanups keys awaits ended canceled ran d =
      let w = d.runs in
      record {
        round = d.round;
        runs = record {
          resources = ap (λ (k : Resources). told k m) w.resources;
          ended = ended ∙ w.ended;
          canceled = canceled ∙ w.canceled;
          ran = ran ∙ w.ran;
          cleanups = ap (λ (c : ℕ → List PushedHandler). c t) cleanups ∙ w.cleanups;
          awaits = awaits ∙ w.awaits;
          control = w.control;
        };
        all = ap (λ (k : Tables). next_destructor k t d.round) keys ∙ d.all;
      }

  -- it has not this one, or gives it up
  has_not : (hs : List PushedHandler) (m : ℕ) (b : Book) (s : State P S H) → has t (s.resources.store.mutexes m) ≡ false → IsGiven hs m 0 b s → IsGiven hs (m + 1) 0 b s
  has_not hs m b s had_not d = record { done = d.done; none = λ i low. elim (cases_lt i m) [ inl below ↦ d.none i below | inr above ↦ (let same : i ≡ m = omega (arith, low, above) in ap (λ (j : ℕ). has t (s.resources.store.mutexes j)) same ∙ had_not) ]; out = d.out }

  gives_one : (hs : List PushedHandler) (m : ℕ) (b : Book) (s : State P S H) → has t (s.resources.store.mutexes m) ≡ true → IsGiven hs m 0 b s → Walk n b (IsGiven hs (m + 1) 0) (tells (mark.GaveMutex (tid t) m) s)
  unfolding told
  gives_one hs m b s had_it d =
      let w = d.done.runs in
      let law : HasMutex b.resources t m = ap (λ (k : Resources). has t (k.store.mutexes m)) w.resources ∙ had_it in
      walk_tells n (IsGiven hs (m + 1) 0) b (mark.GaveMutex (tid t) m) s (λ locked. (((run_up f n t over dropped up made had y (so_far hs d.done.round) b s w, tt), law), made)) (record {
        done = given_so hs (mark.GaveMutex (tid t) m) b s refl refl refl refl refl (block_open t (ran_by b.block t)) d.done;
        none = λ i low. put_by (λ z. has t z ≡ false) s.resources.store.mutexes m free_mutex i (λ here. refl) (λ other. d.none i (omega (arith, low, other)));
        out = d.out;
      })

  -- it has the others still
  others_had : (s : State P S H) (m i : ℕ) → i ≢ m → has t ((tells (mark.GaveMutex (tid t) m) s).state.resources.store.mutexes i) ≡ has t (s.resources.store.mutexes i)
  unfolding told
  others_had s m i apart = ap (has t) (put_other s.resources.store.mutexes m free_mutex i apart)

  -- p: what it has of them as it begins
  mutexes_walk : (p : ℕ → Bool) (hs : List PushedHandler) (many m top : ℕ) (b : Book) (s : State P S H) → m + many ≡ top → ((i : ℕ) → m ≤ i → has t (s.resources.store.mutexes i) ≡ p i) → IsGiven hs m 0 b s → Walk n b (IsGiven hs top 0) (tells_each (map (mark.GaveMutex (tid t)) (filter p (range_with_len m many))) s)
  unfolding tells_each
  mutexes_walk p hs zero m top b s end same d = record { law = tt; post = let last : m ≡ top = omega (arith, end) in subst (λ (i : ℕ). IsGiven hs i 0 b s) last d }
  mutexes_walk p hs (suc many) m top b s end same d = by_test (p m) (same m (omega arith)) (λ c u. mutexes_walk p hs many (m + 1) top c u (omega (arith, end)))
    where
      rest : List ℕ
      rest = filter p (range_with_len (m + 1) many)

      by_test : (here : Bool) → has t (s.resources.store.mutexes m) ≡ here → ((c : Book) (u : State P S H) → ((i : ℕ) → m + 1 ≤ i → has t (u.resources.store.mutexes i) ≡ p i) → IsGiven hs (m + 1) 0 c u → Walk n c (IsGiven hs top 0) (tells_each (map (mark.GaveMutex (tid t)) rest) u))
          → Walk n b (IsGiven hs top 0) (tells_each (map (mark.GaveMutex (tid t)) (cond here (m ∷ rest) rest)) s)
      by_test false had_not later = later b s (λ i above. same i (omega (arith, above))) (has_not hs m b s had_not d)
      by_test true had_it later =
          let one : Piece P S H = tells (mark.GaveMutex (tid t) m) in
          walk_then n (IsGiven hs (m + 1) 0) (IsGiven hs top 0) b one (tells_each (map (mark.GaveMutex (tid t)) rest)) s (gives_one hs m b s had_it d)
          (λ c v. later c (one s).state (λ i above. others_had s m i (omega (arith, above)) ∙ same i (omega (arith, above))) v)

  holds_not : (hs : List PushedHandler) (l : ℕ) (b : Book) (s : State P S H) → holds s.resources.store.rw_locks t l ≡ false → IsGiven hs object_limit l b s → IsGiven hs object_limit (l + 1) b s
  holds_not hs l b s had_not d = record { done = d.done; none = d.none; out = λ i low. elim (cases_lt i l) [ inl below ↦ d.out i below | inr above ↦ (let same : i ≡ l = omega (arith, low, above) in ap (λ (j : ℕ). holds s.resources.store.rw_locks t j) same ∙ had_not) ] }

  gives_lock : (hs : List PushedHandler) (l : ℕ) (b : Book) (s : State P S H) → holds s.resources.store.rw_locks t l ≡ true → IsGiven hs object_limit l b s → Walk n b (IsGiven hs object_limit (l + 1)) (tells (mark.GaveLock (tid t) l) s)
  unfolding told
  gives_lock hs l b s had_it d =
      let w = d.done.runs in
      let law : HoldsLock b.resources t l = ap (λ (k : Resources). holds k.store.rw_locks t l) w.resources ∙ had_it in
      walk_tells n (IsGiven hs object_limit (l + 1)) b (mark.GaveLock (tid t) l) s (λ locked. (((run_up f n t over dropped up made had y (so_far hs d.done.round) b s w, tt), law), made)) (record {
        done = given_so hs (mark.GaveLock (tid t) l) b s refl refl refl refl refl (block_open t (ran_by b.block t)) d.done;
        none = d.none;
        out = λ i low. elim (cases_lt i l) [ inl below ↦ out_released t s.resources.store.rw_locks i t l (d.out i below) | inr above ↦ out_given t s.resources.store.rw_locks i l (omega (arith, low, above)) ];
      })

  others_held : (s : State P S H) (l i : ℕ) → i ≢ l → holds (tells (mark.GaveLock (tid t) l) s).state.resources.store.rw_locks t i ≡ holds s.resources.store.rw_locks t i
  unfolding told
  others_held s l i apart =
      let x = s.resources.store.rw_locks in
      ap₂ (λ (w : Option ℕ) (r : ℕ → Bool). is_one t w || r t) (put_other x.writer l (without_slot t (x.writer l)) i apart) (put_other x.reads l (put (x.reads l) t false) i apart)

  locks_walk : (p : ℕ → Bool) (hs : List PushedHandler) (many l top : ℕ) (b : Book) (s : State P S H) → l + many ≡ top → ((i : ℕ) → l ≤ i → holds s.resources.store.rw_locks t i ≡ p i) → IsGiven hs object_limit l b s → Walk n b (IsGiven hs object_limit top) (tells_each (map (mark.GaveLock (tid t)) (filter p (range_with_len l many))) s)
  unfolding tells_each
  locks_walk p hs zero l top b s end same d = record { law = tt; post = let last : l ≡ top = omega (arith, end) in subst (λ (i : ℕ). IsGiven hs object_limit i b s) last d }
  locks_walk p hs (suc many) l top b s end same d = by_test (p l) (same l (omega arith)) (λ c u. locks_walk p hs many (l + 1) top c u (omega (arith, end)))
    where
      rest : List ℕ
      rest = filter p (range_with_len (l + 1) many)

      by_test : (here : Bool) → holds s.resources.store.rw_locks t l ≡ here → ((c : Book) (u : State P S H) → ((i : ℕ) → l + 1 ≤ i → holds u.resources.store.rw_locks t i ≡ p i) → IsGiven hs object_limit (l + 1) c u → Walk n c (IsGiven hs object_limit top) (tells_each (map (mark.GaveLock (tid t)) rest) u))
          → Walk n b (IsGiven hs object_limit top) (tells_each (map (mark.GaveLock (tid t)) (cond here (l ∷ rest) rest)) s)
      by_test false had_not later = later b s (λ i above. same i (omega (arith, above))) (holds_not hs l b s had_not d)
      by_test true had_it later =
          let one : Piece P S H = tells (mark.GaveLock (tid t) l) in
          walk_then n (IsGiven hs object_limit (l + 1)) (IsGiven hs object_limit top) b one (tells_each (map (mark.GaveLock (tid t)) rest)) s (gives_lock hs l b s had_it d)
          (λ c v. later c (one s).state (λ i above. others_held s l i (omega (arith, above)) ∙ same i (omega (arith, above))) v)

  -- and all of them
  abbrev pub HasGiven : List PushedHandler → Book → State P S H → Type 0
  HasGiven hs = IsGiven hs object_limit object_limit

  all_mutexes_walk : (hs : List PushedHandler) (b : Book) (s : State P S H) → IsDone hs b s → Walk n b (IsGiven hs object_limit 0) (gives_mutexes t s)
  unfolding mutexes_had
  all_mutexes_walk hs b s d =
      mutexes_walk (λ m. has t (s.resources.store.mutexes m)) hs object_limit 0 object_limit b s (omega arith) (λ i above. refl)
      (record { done = d; none = λ i low. absurd (omega (arith, low)); out = λ i low. absurd (omega (arith, low)) })

  all_locks_walk : (hs : List PushedHandler) (b : Book) (s : State P S H) → IsGiven hs object_limit 0 b s → Walk n b (HasGiven hs) (gives_locks t s)
  unfolding locks_held
  all_locks_walk hs b s d = locks_walk (holds s.resources.store.rw_locks t) hs object_limit 0 object_limit b s (omega arith) (λ i above. refl) d

  gives_walk : (hs : List PushedHandler) (b : Book) (s : State P S H) → IsDone hs b s → Walk n b (HasGiven hs) (gives_all t s)
  gives_walk hs b s d =
      walk_then n (IsGiven hs object_limit 0) (HasGiven hs) b (gives_mutexes t) (gives_locks t) s (all_mutexes_walk hs b s d)
      (λ c v. all_locks_walk hs c (gives_mutexes t s).state v)

-- ---- the whole ending

module _ {P S H : Type 0} where
  returned_seats : (e : Option ℤ) (k : Control P S H) → seats (gives_back e k) ≡ seats k
  unfolding gives_back
  returned_seats None k = refl
  returned_seats (Some e) k = refl

  pub stops_seats : (t : ℕ) (k : Control P S H) → seats (stops_waiting t k) ≡ seats k
  unfolding stops_waiting goes_on
  stops_seats t k = returned_seats (ring_held (blocked_of k t)) (is_blocked_by t None k)

-- t has ended, and of the others none
pub record HasEnded {P S H : Type 0} (n t : ℕ) (b : Book) (s : State P S H) (c : Book) (u : State P S H) : Type 0 where
  pub resources : c.resources ≡ u.resources
  pub ended : c.ended ≡ put b.ended t true
  pub canceled : c.canceled ≡ b.canceled
  pub closed : c.block ≡ Closed
  pub living : Living n (put b.ended t true) u.control
  pub claims : HasClaims u.control
  pub awaits : HasAwaits (flags_past t b u.resources.awaits) u.control
  pub stays : (i : ℕ) → i ≢ t → u.resources.awaits i ≡ s.resources.awaits i
  pub others : (i : ℕ) → i ≢ t → u.control.threads.known i ≡ s.control.threads.known i
  pub running : u.control.scheduler.running ≡ other_than t s.control.scheduler.running
  pub preferred : u.control.scheduler.preferred ≡ s.control.scheduler.preferred

-- t's arrival at a barrier is taken back: of the control the barriers alone change
module _ {P S H : Type 0} (t : ℕ) (Q : Control P S H → Type 0) (barred : (x : BarrierTable) (k : Control P S H) → Q k → Q (record k { barriers = x })) where
  where_control : (b : ℤ) (here : Bool) (s : State P S H) → Q s.control → Q (where_so here (changes (with_barriers (withdrawn b t)) and_then tells (mark.Withdrew (tid t) (object_named b))) s).state.control
  where_control b true s q = barred (withdrawn b t s.control.barriers) s.control q
  where_control b false s q = q

  withdrawn_control : (a : Awaits) (s : State P S H) → Q s.control → Q (withdraws_from t a s).state.control
  unfolding withdraws_from withdraws
  withdrawn_control (awaited.Round b round) s q = where_control b (waits_at s.control.barriers b t) s q
  withdrawn_control a s q = q

  -- and seats at conditions are handed on: the conditions change too
  module _ (seated : (x : ConditionTable) (k : Control P S H) → Q k → Q (record k { conditions = x })) where
    own_handed : (a : Awaits) (k : Control P S H) → Q k → Q (hands_on_seat t a k)
    unfolding hands_on_seat
    own_handed (awaited.Notice c) k q = seated _ k q
    own_handed a k q = q

    handed_control : (o : Option Blocked) (s : State P S H) → Q s.control → Q (hands_on_seats t (awaited_in o) (withdraws_from t (awaits_in o) s).state.control)
    handed_control o s q = let a = awaits_in o in let k = (withdraws_from t a s).state.control in seated _ (hands_on_seat t a k) (own_handed a k (withdrawn_control a s q))

module _ {P S H : Type 0} (n t : ℕ) where
  left_scheduler : (v : ℤ) (k : Control P S H) → ((leaves t v k).scheduler.running ≡ other_than t k.scheduler.running) × ((leaves t v k).scheduler.preferred ≡ k.scheduler.preferred)
  unfolding leaves is_dead_with sets enters forgets leaves_queue
  left_scheduler v k = by_joinable (or_nobody (entry_of k t)).joinable
    where
      by_joinable : (b : Bool) → ((stops_running t ((if b then is_dead_with t v else removes t) k)).scheduler.running ≡ other_than t k.scheduler.running) × ((stops_running t ((if b then is_dead_with t v else removes t) k)).scheduler.preferred ≡ k.scheduler.preferred)
      by_joinable true = (refl, refl)
      by_joinable false = (refl, refl)

  module _ (f : P → Functions S H) (v : ℤ) (b : Book) (s : State P S H) (alive : lives (s.control.threads.known t) ≡ true) (living : Living n b.ended s.control) (claims : HasClaims s.control) (awaits : HasAwaits (flags_past t b s.resources.awaits) s.control) (made : is_made n t ≡ true) (value : b.canceled t ≡ true → v ≡ negsuc 0) where
    abbrev pushed : List PushedHandler
    pushed = s.resources.store.cleanups t

    -- the control once its arrival is taken back, once its seats are handed on, and once its wait is undone
    abbrev back : Control P S H
    back = (withdraws_from t (awaits_in (blocked_of s.control t)) s).state.control

    abbrev handed : Control P S H
    handed = hands_on_seats t (awaited_in (blocked_of s.control t)) back

    abbrev undone : Control P S H
    undone = stops_waiting t handed

    up : b.ended t ≡ false
    up = living-up n b.ended s.control.threads.made s.control.threads.known s.control.threads.standing living t alive

    abbrev Done : Book → State P S H → Type 0
    Done = IsDone f n t b.ended b.canceled up made s.resources undone pushed

    abbrev Given : Book → State P S H → Type 0
    Given = HasGiven f n t b.ended b.canceled up made s.resources undone pushed

    dies_walk : (c : Book) (u : State P S H) → Given c u → Walk n c (HasEnded n t b s) (dies t v u)
    unfolding told
    dies_walk c u given =
        let done = given.done in
        let w = done.runs in
        let x = ran_by c.block t in
        let m = mark.Ended (tid t) v in
        let o = blocked_of s.control t in
        let same = stops_seats t handed ∙ handed_control t (λ k. seats k ≡ seats s.control) (λ x k h. h) (λ x k h. h) o s refl in
        let claims_back : HasClaims handed = handed_control t HasClaims (λ x k h. h) (λ x k h. h) o s claims in
        let awaits_back : HasAwaits (flags_past t b s.resources.awaits) handed = handed_control t (HasAwaits (flags_past t b s.resources.awaits)) (λ x k h. h) (λ x k h. h) o s awaits in
        let known_back = handed_control t (λ k. k.threads.known ≡ s.control.threads.known) (λ x k h. h) (λ x k h. h) o s refl in
        let living_now : Living n b.ended u.control = subst (Living n b.ended) (sym w.control) (subst (λ (z : Seats). IsLiving n b.ended z.made z.known z.standing) (sym same) living) in
        let alive_now : lives (u.control.threads.known t) ≡ true = ap (λ (k : Control P S H). lives (k.threads.known t)) w.control ∙ ap (λ (z : Seats). lives (z.known t)) same ∙ alive in
        let claims_now : HasClaims u.control = subst HasClaims (sym w.control) (claims_stop t handed claims_back) in
        let scheduled = left_scheduler v u.control in
        let over_now : (told u.resources m).awaits t ≡ false = put_here u.resources.awaits t false in
        let await_stays : (i : ℕ) → i ≢ t → (told u.resources m).awaits i ≡ s.resources.awaits i = λ i apart. put_other u.resources.awaits t false i apart ∙ ap (λ (o : ℕ → Bool). o i) w.awaits in
        let over : Flags = flags_past t b (told u.resources m).awaits in
        let none : Tells over t None = record { fits = over_now; uncanceled = λ still. absurd (true≢false (sym (put_here b.ended t true) ∙ still)); retakes = λ e. absurd (true≢false (sym e)) } in
        let awaits_now : HasAwaits over u.control = subst (HasAwaits over) (sym w.control) (awaits_stop t (flags_past t b s.resources.awaits) over handed none (others_await t (flags_past t b s.resources.awaits) over.awaits await_stays) awaits_back) in
        let law : IsMarkedWithin n c m = λ locked. (
          (
            (
              run_up f n t b.ended b.canceled up made s.resources undone (so_far pushed done.round) c u w,
              record {
                handlers = ap (λ (z : BlockRun). z.handlers) w.ran ∙ sym w.cleanups ∙ ap (λ (r : Resources). r.store.cleanups t) (sym w.resources);
                destructors = ap (λ (z : BlockRun). z.is_fine) w.ran;
                all = ap (λ (r : Resources). next_destructor r.store.keys t x.round) w.resources ∙ ap (λ (z : BlockRun). next_destructor u.resources.store.keys t z.round) w.ran ∙ done.all;
                value = λ h. value (ap (λ (e : ℕ → Bool). e t) (sym w.canceled) ∙ h);
              },
            ),
            record {
              mutexes = no_mutex c.resources locked t (λ i low. ap (λ (k : Resources). has t (k.store.mutexes i)) w.resources ∙ given.none i low);
              locks = no_lock c.resources locked t (λ i low. ap (λ (k : Resources). holds k.store.rw_locks t i) w.resources ∙ given.out i low);
            },
          ),
          made,
        ) in
        record {
          law = (law, tt);
          post = record {
            resources = ap (λ (r : Resources). told r m) w.resources;
            ended = ap (λ (e : ℕ → Bool). put e t true) w.ended;
            canceled = w.canceled;
            closed = refl;
            living = living_left n b.ended t v u.control alive_now living_now;
            claims = claims_left t v u.control (λ e i h. (stopped_apart t handed claims_back e i (ap (λ (k : Control P S H). claimant k.events e) (sym w.control) ∙ h)).1) claims_now;
            others = λ i apart. left_other t v u.control i apart ∙ ap (λ (k : Control P S H). k.threads.known i) w.control ∙ ap (λ (known : ℕ → Option Entry). known i) (stopped_known t handed ∙ known_back);
            stays = await_stays;
            awaits = awaits_left over t v u.control over_now awaits_now;
            running = scheduled.0 ∙ ap (λ (k : Control P S H). other_than t k.scheduler.running) w.control ∙ ap (λ (z : Seats). other_than t z.running) same;
            preferred = scheduled.1 ∙ ap (λ (k : Control P S H). k.scheduler.preferred) w.control ∙ ap (λ (z : Seats). z.preferred) same;
          };
        }

    -- what holds once its arrival is taken back, but for the control
    record IsBack (y : Control P S H) (c : Book) (u : State P S H) : Type 0 where
      resources : c.resources ≡ u.resources
      ended : c.ended ≡ b.ended
      canceled : c.canceled ≡ b.canceled
      ran : ran_by c.block t ≡ so_far [] first_round
      had : u.resources ≡ s.resources
      control : u.control ≡ y

    where_walk : (x : ℤ) (here : Bool) → b.resources ≡ s.resources → ran_by b.block t ≡ ran_nothing → let a = where_so here (changes (with_barriers (withdrawn x t)) and_then tells (mark.Withdrew (tid t) (object_named x))) s in Walk n b (IsBack a.state.control) a
    unfolding told
    where_walk x false same fresh = record { law = tt; post = record { resources = same; ended = refl; canceled = refl; ran = fresh; had = refl; control = refl } }
    where_walk x true same fresh = record { law = ((λ locked. (((up, tt), tt), made)), tt); post = record { resources = same; ended = refl; canceled = refl; ran = block_open t (ran_by b.block t) ∙ fresh; had = refl; control = refl } }

    back_walk : (a : Awaits) → b.resources ≡ s.resources → ran_by b.block t ≡ ran_nothing → Walk n b (IsBack (withdraws_from t a s).state.control) (withdraws_from t a s)
    unfolding withdraws_from withdraws
    back_walk (awaited.Round x round) same fresh = where_walk x (waits_at s.control.barriers x t) same fresh
    back_walk a same fresh = record { law = tt; post = record { resources = same; ended = refl; canceled = refl; ran = fresh; had = refl; control = refl } }

    undone_walk : b.resources ≡ s.resources → ran_by b.block t ≡ ran_nothing → Walk n b (RunsSo f n t b.ended b.canceled up made s.resources undone [] first_round) (undoes_wait t s)
    undone_walk same fresh =
        let So = RunsSo f n t b.ended b.canceled up made s.resources undone [] first_round in
        let a = withdraws_from t (awaits_in (blocked_of s.control t)) in
        walk_then n (IsBack back) So b a (changes (hands_on_seats t (awaited_in (blocked_of s.control t)) and stops_waiting t)) s (back_walk (awaits_in (blocked_of s.control t)) same fresh)
        (λ c w. record {
          law = tt;
          post = record {
            resources = w.resources;
            ended = w.ended;
            canceled = w.canceled;
            ran = w.ran;
            cleanups = ap (λ (k : Resources). k.store.cleanups t) w.had;
            awaits = ap (λ (k : Resources). k.awaits) w.had;
            control = refl;
          };
        })

    pub ending_walk : b.resources ≡ s.resources → ran_by b.block t ≡ ran_nothing → Walk n b (HasEnded n t b s) (ending f t v s)
    unfolding ending
    ending_walk same fresh =
        let So = RunsSo f n t b.ended b.canceled up made s.resources undone in
        let s1 = (undoes_wait t s).state in
        walk_then n (So [] first_round) (HasEnded n t b s) b (undoes_wait t) (runs_cleanups f t and_then runs_destructors f t and_then gives_all t and_then dies t v) s
        (undone_walk same fresh)
        (λ c1 w1. walk_then n (So pushed first_round) (HasEnded n t b s) c1 (runs_cleanups f t) (runs_destructors f t and_then gives_all t and_then dies t v) s1
        (subst (λ (cs : List PushedHandler). Walk n c1 (So cs first_round) (runs_cleanups f t s1)) w1.cleanups (each_walk f n t b.ended b.canceled up made s.resources undone (s1.resources.store.cleanups t) [] c1 s1 w1))
        (λ c2 w2. let s2 = (runs_cleanups f t s1).state in walk_then n Done (HasEnded n t b s) c2 (runs_destructors f t) (gives_all t and_then dies t v) s2
        (destructs_walk f n t b.ended b.canceled up made s.resources undone pushed (round_limit * key_limit) first_round c2 s2 (omega arith) w2)
        (λ c3 done. let s3 = (runs_destructors f t s2).state in walk_then n Given (HasEnded n t b s) c3 (gives_all t) (dies t v) s3
        (gives_walk f n t b.ended b.canceled up made s.resources undone pushed c3 s3 done)
        (λ c4 given. dies_walk c4 (gives_all t s3).state given))))
