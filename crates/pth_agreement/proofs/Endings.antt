-- Handlers, and the end of a thread, with another program that has the same handlers.
use Rattle.std.proofs.Common.{◌≡◌, ℕ, zero, suc, ◌+◌, ◌*◌, Bool, true, false, if◌then◌else◌, ℤ, List, [], ◌∷◌, map, Option, Some, None, refl, ap}
use Rattle.pth_base.specs.Program.{Functions, Stepped}
use Rattle.pth_base.specs.declared.act.Act.{Act}
use Rattle.pth_base.specs.declared.act.Act.TheVariants as act
use Rattle.pth_base.specs.declared.answer.Answer.{Answer}
use Rattle.pth_base.specs.declared.ids.HandlerId.{HandlerId}
use Rattle.pth_base.specs.declared.mark.Mark.TheVariants as mark
use Rattle.pth_cond.specs.Barriers.{waits_at, withdrawn}
use Rattle.pth_cond.specs.Conditions.{seat_handed_on}
use Rattle.pth_agreement.proofs.Others.{Others}
use Rattle.pth_lock.specs.Objects.{object_named}
use Rattle.pth_store.specs.Cleanups.{PushedHandler}
use Rattle.pth_store.specs.Keys.{key_limit}
use Rattle.pth_model.specs.declared.awaits.Awaited.{Awaited}
use Rattle.pth_model.specs.declared.awaits.Awaits.{Awaits}
use Rattle.pth_model.specs.declared.awaits.Awaits.TheVariants as awaits
use Rattle.pth_model.specs.declared.destructors.Due.{Due}
use Rattle.pth_model.specs.declared.destructors.DestructorRound.{DestructorRound}
use Rattle.pth_model.specs.declared.verdict.Verdict.{Verdict}
use Rattle.pth_model.specs.Acts.{acts, acts_by, acts_from, act_limit, answer_in, row_of_act, goes_on_after, handled, runs_handler}
use Rattle.pth_model.specs.Barriers.{withdraws, withdraws_from}
use Rattle.pth_model.specs.Changes.{with_barriers, shares, runs_now, removes, or_nobody, entry_of, blocked_of, is_blocked_by}
use Rattle.pth_model.specs.Conditions.{hands_on_seat, hands_on_seats}
use Rattle.pth_model.specs.Ending.{ending, undoes_wait, runs_each, runs_cleanups, destructs, destructs_by, runs_destructor, runs_destructors, mutexes_had, locks_held, gives_mutexes, gives_locks, gives_all, dies, leaves, is_dead_with, stops_running, next_destructor, round_limit, first_round}
use Rattle.pth_model.specs.RingWaits.{awaited_in, claims, gives_back, ring_held, ring_seats, stops_waiting}
use Rattle.pth_model.specs.Row.{Attempt, effect_of}
use Rattle.pth_model.specs.State.{Control}
use Rattle.pth_model.specs.Transition.{Piece, changes, tells, tid, ◌and◌, ◌and_then◌}
use Rattle.pth_agreement.proofs.Placed.{Bare, placed, placed_control, moved, AreSame, DoSame, AttemptSame, and_same, changes_same, then_at, then_same, where_same, each_same, effect_same}

-- the functions of a program, but for what its steps give
abbrev pub stepping_so : {P S H : Type 0} → (P → Functions S H) → P → (S → H → Answer → Stepped S H) → Unit {0} → Functions S H
stepping_so f p step u = record (f p) { step = step }

module _ {P S H : Type 0} (p : P) (other : Others) where
  -- no call blocks t any longer, and it claims the ring of a call
  gives_back_same : (o : Option ℤ) → AreSame {S = S} {H = H} p other (gives_back o) (gives_back o)
  unfolding gives_back
  gives_back_same None k = refl
  gives_back_same (Some e) k = refl

  pub claims_same : (t : ℕ) (o : Option ℤ) → AreSame {S = S} {H = H} p other (claims t o) (claims t o)
  unfolding claims
  claims_same t None k = refl
  claims_same t (Some e) k = refl

  pub blocked_same : (t : ℕ) (b : _) → AreSame {S = S} {H = H} p other (is_blocked_by t b) (is_blocked_by t b)
  unfolding Rattle.pth_model.specs.Changes.goes_on
  blocked_same t b k = refl

  pub stops_same : (t : ℕ) → AreSame {S = S} {H = H} p other (stops_waiting t) (stops_waiting t)
  unfolding stops_waiting Rattle.pth_model.specs.Changes.goes_on
  stops_same t k = gives_back_same (ring_held (blocked_of k t)) (is_blocked_by t None k)

  seat_same : (t : ℕ) (a : Awaits) → AreSame {S = S} {H = H} p other (hands_on_seat t a) (hands_on_seat t a)
  unfolding hands_on_seat
  seat_same t (awaits.Notice c) k = refl
  seat_same t a k = refl

  pub seats_same : (t : ℕ) (a : Awaited) → AreSame {S = S} {H = H} p other (hands_on_seats t a) (hands_on_seats t a)
  seats_same t a = and_same p other (hands_on_seat t a.what) (ring_seats seat_handed_on a.ring) (hands_on_seat t a.what) (ring_seats seat_handed_on a.ring) (seat_same t a.what) (λ k. refl)

  withdraws_same : (t : ℕ) (a : Awaits) → DoSame {S = S} {H = H} p other (withdraws_from t a) (withdraws_from t a)
  unfolding withdraws_from withdraws
  withdraws_same t (awaits.Round b round) s =
      let m = mark.Withdrew (tid t) (object_named b) in
      where_same p other (waits_at s.control.barriers b t) (changes (with_barriers (withdrawn b t)) and_then tells m) (changes (with_barriers (withdrawn b t)) and_then tells m) (λ u. refl) s
  withdraws_same t a s = refl

  undoes_same : (t : ℕ) → DoSame {S = S} {H = H} p other (undoes_wait t) (undoes_wait t)
  undoes_same t s =
      let a = awaited_in (blocked_of s.control t) in
      then_same p other (withdraws_from t a.what) (changes (hands_on_seats t a and stops_waiting t)) (withdraws_from t a.what) (changes (hands_on_seats t a and stops_waiting t)) (withdraws_same t a.what)
      (changes_same p other (hands_on_seats t a and stops_waiting t) (hands_on_seats t a and stops_waiting t) (and_same p other (hands_on_seats t a) (stops_waiting t) (hands_on_seats t a) (stops_waiting t) (seats_same t a) (stops_same t))) s

  leaves_same : (t : ℕ) (v : ℤ) → AreSame {S = S} {H = H} p other (leaves t v) (leaves t v)
  unfolding leaves is_dead_with Rattle.pth_model.specs.Changes.leaves_queue Rattle.pth_model.specs.Changes.sets Rattle.pth_model.specs.Changes.enters Rattle.pth_model.specs.Changes.forgets
  leaves_same t v k = by_joinable (or_nobody (entry_of k t)).joinable
    where
      by_joinable : (b : Bool) → (λ (j : Control P S H). stops_running t ((if b then is_dead_with t v else removes t) j)) (placed_control p other k) ≡ placed_control p other (stops_running t ((if b then is_dead_with t v else removes t) k))
      by_joinable true = refl
      by_joinable false = refl

  dies_same : (t : ℕ) (v : ℤ) → DoSame {S = S} {H = H} p other (dies t v) (dies t v)
  dies_same t v = then_same p other (changes (leaves t v)) (tells (mark.Ended (tid t) v)) (changes (leaves t v)) (tells (mark.Ended (tid t) v)) (changes_same p other (leaves t v) (leaves t v) (leaves_same t v)) (λ u. refl)

  gives_same : (t : ℕ) → DoSame {S = S} {H = H} p other (gives_all t) (gives_all t)
  gives_same t = then_same p other (gives_mutexes t) (gives_locks t) (gives_mutexes t) (gives_locks t)
      (λ s. each_same p other (map (mark.GaveMutex (tid t)) (mutexes_had t s.resources.store.mutexes)) s)
      (λ s. each_same p other (map (mark.GaveLock (tid t)) (locks_held t s.resources.store.rw_locks)) s)

  -- an act
  acted_same : (t : ℕ) (x : Act) (a : Attempt (Unit {0}) S H) (b : Attempt P S H) (s : Bare S H) → AttemptSame p other a b s → acts_by t x b (placed p other s) ≡ moved p other (acts_by t x a s)
  acted_same t x a b s same =
      let m = λ (v : Verdict). mark.Acted (tid t) x (answer_in v) in
      then_at p other (effect_of a) (tells (m a.verdict)) (effect_of b) (tells (m b.verdict)) s (effect_same p other a b s same) (ap (λ v. tells (m v) (placed p other (effect_of a s).state)) same.verdict)

  act_row_same : (t : ℕ) (x : Act) (s : Bare S H) → AttemptSame p other (row_of_act s t x).begin (row_of_act (placed p other s) t x).begin s
  act_row_same t (act.Note v) s = record { verdict = refl; effect = refl }
  act_row_same t x s = record { verdict = refl; effect = refl }

  acts_same : (t : ℕ) (x : Act) → DoSame {S = S} {H = H} p other (acts t x) (acts t x)
  unfolding acts
  acts_same t x s = acted_same t x (row_of_act s t x).begin (row_of_act (placed p other s) t x).begin s (act_row_same t x s)

  look_same : (t : ℕ) (o : Option Act) (a : Piece (Unit {0}) S H) (b : Piece P S H) → DoSame p other a b → DoSame p other (goes_on_after t o a) (goes_on_after t o b)
  look_same t None a b same s = refl
  look_same t (Some x) a b same s = then_same p other (acts t x) a (acts t x) b (acts_same t x) same s

  module _ (f : P → Functions S H) (step : S → H → Answer → Stepped S H) where
    abbrev bare : Unit {0} → Functions S H
    bare = stepping_so f p step

    acts_from_same : (t : ℕ) (h : HandlerId) (v : ℤ) (n i : ℕ) → DoSame p other (acts_from bare t h v n i) (acts_from f t h v n i)
    unfolding acts_from
    acts_from_same t h v zero i s = refl
    acts_from_same t h v (suc n) i s =
        let x = (f p).act h.0 v i s.control.shared in
        let a = acts_from bare t h v n (i + 1) in
        let b = acts_from f t h v n (i + 1) in
        then_same p other (changes (shares x.shared)) (goes_on_after t x.act a) (changes (shares x.shared)) (goes_on_after t x.act b) (λ u. refl) (look_same t x.act a b (acts_from_same t h v n (i + 1))) s

    pub handler_same : (t : ℕ) (h : HandlerId) (v : ℤ) → DoSame p other (runs_handler bare t h v) (runs_handler f t h v)
    handler_same t h v = then_same p other (tells (mark.Handler (tid t) h v)) (handled bare t h v) (tells (mark.Handler (tid t) h v)) (handled f t h v) (λ u. refl) (acts_from_same t h v (suc act_limit) 0)

    cleanups_same : (t : ℕ) (cs : List PushedHandler) → DoSame p other (runs_each bare t cs) (runs_each f t cs)
    unfolding runs_each
    cleanups_same t [] s = refl
    cleanups_same t (c ∷ cs) s = then_same p other (runs_handler bare t c.0 c.1) (runs_each bare t cs) (runs_handler f t c.0 c.1) (runs_each f t cs) (handler_same t c.0 c.1) (cleanups_same t cs) s

    due_same : (t : ℕ) (o : Option Due) (a : DestructorRound → Piece (Unit {0}) S H) (b : DestructorRound → Piece P S H) → ((r : DestructorRound) → DoSame p other (a r) (b r)) → DoSame p other (destructs_by bare t o a) (destructs_by f t o b)
    due_same t None a b same s = refl
    due_same t (Some d) a b same s =
        let m = mark.Destructor (tid t) d.key d.value in
        then_same p other (runs_destructor bare t d) (a d.round) (runs_destructor f t d) (b d.round)
        (then_same p other (tells m) (handled bare t d.handler d.value) (tells m) (handled f t d.handler d.value) (λ u. refl) (acts_from_same t d.handler d.value (suc act_limit) 0)) (same d.round) s

    destructs_same : (t n : ℕ) (r : DestructorRound) → DoSame p other (destructs bare t n r) (destructs f t n r)
    unfolding destructs
    destructs_same t zero r s = refl
    destructs_same t (suc n) r s = due_same t (next_destructor s.resources.store.keys t r) (destructs bare t n) (destructs f t n) (destructs_same t n) s

    pub ending_same : (t : ℕ) (v : ℤ) → DoSame p other (ending bare t v) (ending f t v)
    unfolding ending
    ending_same t v =
        then_same p other (undoes_wait t) (runs_cleanups bare t and_then runs_destructors bare t and_then gives_all t and_then dies t v) (undoes_wait t) (runs_cleanups f t and_then runs_destructors f t and_then gives_all t and_then dies t v) (undoes_same t)
        (then_same p other (runs_cleanups bare t) (runs_destructors bare t and_then gives_all t and_then dies t v) (runs_cleanups f t) (runs_destructors f t and_then gives_all t and_then dies t v) (λ s. cleanups_same t (s.resources.store.cleanups t) s)
        (then_same p other (runs_destructors bare t) (gives_all t and_then dies t v) (runs_destructors f t) (gives_all t and_then dies t v) (destructs_same t (round_limit * key_limit) first_round)
        (then_same p other (gives_all t) (dies t v) (gives_all t) (dies t v) (gives_same t) (dies_same t v))))
