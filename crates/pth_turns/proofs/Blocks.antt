-- What a thread tells of handlers and destructors, and of what it gives back, in its own turn or as it is canceled in another's: it
-- leaves the account as it is, and makes no thread.
use Rattle.std.proofs.Common.{◌≡◌, ◌≢◌, ◌==◌, ℕ, zero, suc, ◌+◌, ◌*◌, not, Bool, true, false, if◌then◌else◌, ℤ, List, [], ◌∷◌, map, Option, Some, None, refl, ◌∙◌}
use Rattle.std.proofs.lemmas.Option.{none-some, same_Some}
use Rattle.pth_base.specs.Program.{Functions}
use Rattle.pth_base.proofs.Tables.{same_fails}
use Rattle.pth_base.specs.declared.act.Act.{Act}
use Rattle.pth_base.specs.declared.act.Act.TheVariants as act
use Rattle.pth_base.specs.declared.ids.HandlerId.{HandlerId}
use Rattle.pth_base.specs.declared.mark.Mark.{Mark}
use Rattle.pth_base.specs.declared.mark.Mark.TheVariants as mark
use Rattle.pth_cond.specs.Conditions.{cond_notified}
use Rattle.pth_cond.specs.Barriers.{waits_at, withdrawn}
use Rattle.pth_lock.specs.Objects.{object_named}
use Rattle.pth_numbered.specs.Operands.{is_zero}
use Rattle.pth_store.specs.Cleanups.{PushedHandler}
use Rattle.pth_store.specs.Keys.{key_limit}
use Rattle.pth_model.specs.declared.awaits.Awaits.{Awaits}
use Rattle.pth_model.specs.declared.awaits.Awaits.TheVariants as awaits
use Rattle.pth_model.specs.declared.destructors.Due.{Due}
use Rattle.pth_model.specs.declared.destructors.DestructorRound.{DestructorRound}
use Rattle.pth_model.specs.State.{State, Control}
use Rattle.pth_model.specs.Transition.{Transition, Piece, Change, silent, nothing, changes, tells, tells_each, tid, controlled, where_so, ◌and◌, ◌and_then◌}
use Rattle.pth_model.specs.Changes.{shares, with_conditions, with_barriers, goes_on, is_blocked_by, blocked_of, or_nobody, entry_of, removes, leaves_queue, sets, enters, forgets}
use Rattle.pth_model.specs.Row.{refuses, unless_refused}
use Rattle.pth_model.specs.Acts.{acts, acts_from, act_limit, answer_in, row_of_act, goes_on_after, handled, runs_handler}
use Rattle.pth_model.specs.Barriers.{withdraws, withdraws_from}
use Rattle.pth_model.specs.Conditions.{leaves_seat, hands_on_seat, hands_on_seats}
use Rattle.pth_model.specs.RingWaits.{awaited_in, claims, gives_back, stops_waiting, ring_held}
use Rattle.pth_model.specs.Ending.{ending, undoes_wait, runs_each, runs_cleanups, destructs, destructs_by, runs_destructors, mutexes_had, locks_held, gives_mutexes, gives_locks, gives_all, leaves, is_dead_with, dies, next_destructor, round_limit, first_round, other_than}
use Rattle.pth_turns.specs.Turns.{Account, may_end, account_after}
use Rattle.pth_turns.proofs.Accounts.{Leads, leads_nowhere, leads_one, leads_then}

-- one mark, which leaves the account
abbrev IsOfBlock : ℕ → Mark → Type 0
IsOfBlock t m = (a : Account) → may_end a t ≡ true → Leads a (m ∷ []) a

not_other : (t : ℕ) (o : Option ℕ) → other_than t o ≢ Some t
not_other t None h = none-some t h
not_other t (Some u) h = by_test (u == t) refl h
  where
    by_test : (b : Bool) → (u == t) ≡ b → (if b then None else Some u) ≢ Some t
    by_test true same h = none-some t h
    by_test false other h = same_fails u t other (same_Some u t h)

module _ {P S H : Type 0} where
  -- how many threads were made is as before
  abbrev pub IsMadeAs : State P S H → State P S H → Type 0
  IsMadeAs s u = u.control.threads.made ≡ s.control.threads.made

  pub record Blocks (t : ℕ) (s : State P S H) (x : Transition P S H) : Type 0 where
    pub leads : (a : Account) → may_end a t ≡ true → Leads a x.marks a
    pub made : IsMadeAs s x.state

  module _ (t : ℕ) where
    pub blocks_none : (s : State P S H) → Blocks t s (silent s)
    blocks_none s = record { leads = λ a h. leads_nowhere a; made = refl }

    pub blocks_then : (p q : Piece P S H) (s : State P S H) → Blocks t s (p s) → ((u : State P S H) → Blocks t u (q u)) → Blocks t s ((p and_then q) s)
    blocks_then p q s x y =
        let next = y (p s).state in
        record { leads = λ a h. leads_then a (p s).marks (q (p s).state).marks a a (x.leads a h) (next.leads a h); made = next.made ∙ x.made }

    -- a change, refused or not, and a mark
    effect_block : (b : Bool) (g : Change P S H) (m : Mark) (s : State P S H) → IsOfBlock t m → ((k : Control P S H) → (g k).threads.made ≡ k.threads.made) → Blocks t s ((unless_refused b (changes g) and_then tells m) s)
    effect_block true g m s one same = record { leads = one; made = refl }
    effect_block false g m s one same = record { leads = one; made = same s.control }

    acted : (x : Act) (s : State P S H) → IsOfBlock t (mark.Acted (tid t) x (answer_in (row_of_act s t x).begin.verdict))
    acted x s a h = leads_one a (mark.Acted (tid t) x (answer_in (row_of_act s t x).begin.verdict)) h

    act_block : (x : Act) (s : State P S H) → Blocks t s (acts t x s)
    unfolding acts
    act_block (act.Notify c v) s = effect_block (refuses (row_of_act s t (act.Notify c v)).begin.verdict) (with_conditions (cond_notified c (not (is_zero v)))) _ s (acted (act.Notify c v) s) (λ k. refl)
    act_block (act.SetKey k v) s = effect_block (refuses (row_of_act s t (act.SetKey k v)).begin.verdict) nothing _ s (acted (act.SetKey k v) s) (λ k. refl)
    act_block (act.Release m) s = effect_block (refuses (row_of_act s t (act.Release m)).begin.verdict) nothing _ s (acted (act.Release m) s) (λ k. refl)
    act_block (act.Put p v) s = effect_block (refuses (row_of_act s t (act.Put p v)).begin.verdict) nothing _ s (acted (act.Put p v) s) (λ k. refl)
    act_block x s = record { leads = acted x s; made = refl }

    look_block : (x : Option Act) (next : Piece P S H) → ((s : State P S H) → Blocks t s (next s)) → (s : State P S H) → Blocks t s (goes_on_after t x next s)
    look_block None next goes s = blocks_none s
    look_block (Some x) next goes s = blocks_then (acts t x) next s (act_block x s) goes

  module _ (f : P → Functions S H) (t : ℕ) where
    acts_block : (h : HandlerId) (v : ℤ) (n i : ℕ) (s : State P S H) → Blocks t s (acts_from f t h v n i s)
    unfolding acts_from
    acts_block h v zero i s = blocks_none t s
    acts_block h v (suc n) i s =
        let x = (f s.control.program).act h.0 v i s.control.shared in
        let b = look_block t x.act (acts_from f t h v n (i + 1)) (acts_block h v n (i + 1)) (controlled (shares x.shared) s) in
        record { leads = b.leads; made = b.made }

    handled_block : (h : HandlerId) (v : ℤ) (s : State P S H) → Blocks t s (handled f t h v s)
    handled_block h v s = acts_block h v (suc act_limit) 0 s

    pub handler_block : (h : HandlerId) (v : ℤ) (s : State P S H) → Blocks t s (runs_handler f t h v s)
    handler_block h v s =
        blocks_then t (tells (mark.Handler (tid t) h v)) (handled f t h v) s
        (record { leads = λ a own. leads_one a (mark.Handler (tid t) h v) own; made = refl }) (handled_block h v)

    each_block : (cs : List PushedHandler) (s : State P S H) → Blocks t s (runs_each f t cs s)
    unfolding runs_each
    each_block [] s = blocks_none t s
    each_block (c ∷ cs) s = blocks_then t (runs_handler f t c.0 c.1) (runs_each f t cs) s (handler_block c.0 c.1 s) (each_block cs)

    due_block : (o : Option Due) (next : DestructorRound → Piece P S H) → ((r : DestructorRound) (s : State P S H) → Blocks t s (next r s)) → (s : State P S H) → Blocks t s (destructs_by f t o next s)
    due_block None next goes s = blocks_none t s
    due_block (Some d) next goes s =
        blocks_then t (tells (mark.Destructor (tid t) d.key d.value) and_then handled f t d.handler d.value) (next d.round) s
        (blocks_then t (tells (mark.Destructor (tid t) d.key d.value)) (handled f t d.handler d.value) s
        (record { leads = λ a own. leads_one a (mark.Destructor (tid t) d.key d.value) own; made = refl }) (handled_block d.handler d.value))
        (goes d.round)

    destructs_block : (n : ℕ) (r : DestructorRound) (s : State P S H) → Blocks t s (destructs f t n r s)
    unfolding destructs
    destructs_block zero r s = blocks_none t s
    destructs_block (suc n) r s = due_block (next_destructor s.resources.store.keys t r) (destructs f t n) (destructs_block n) s

    mutexes_block : (had : List ℕ) (s : State P S H) → Blocks t s (tells_each (map (mark.GaveMutex (tid t)) had) s)
    unfolding tells_each
    mutexes_block [] s = blocks_none t s
    mutexes_block (m ∷ had) s =
        blocks_then t (tells (mark.GaveMutex (tid t) m)) (tells_each (map (mark.GaveMutex (tid t)) had)) s
        (record { leads = λ a own. leads_one a (mark.GaveMutex (tid t) m) own; made = refl }) (mutexes_block had)

    locks_block : (held : List ℕ) (s : State P S H) → Blocks t s (tells_each (map (mark.GaveLock (tid t)) held) s)
    unfolding tells_each
    locks_block [] s = blocks_none t s
    locks_block (l ∷ held) s =
        blocks_then t (tells (mark.GaveLock (tid t) l)) (tells_each (map (mark.GaveLock (tid t)) held)) s
        (record { leads = λ a own. leads_one a (mark.GaveLock (tid t) l) own; made = refl }) (locks_block held)

    all_block : (s : State P S H) → Blocks t s (gives_all t s)
    all_block s =
        blocks_then t (gives_mutexes t) (gives_locks t) s (mutexes_block (mutexes_had t s.resources.store.mutexes) s)
        (λ u. locks_block (locks_held t u.resources.store.rw_locks) u)

  -- ---- waits that are over

  pub back_made : (e : Option ℤ) (k : Control P S H) → (gives_back e k).threads.made ≡ k.threads.made
  unfolding gives_back
  back_made None k = refl
  back_made (Some e) k = refl

  pub claims_made : (t : ℕ) (e : Option ℤ) (k : Control P S H) → (claims t e k).threads.made ≡ k.threads.made
  unfolding claims
  claims_made t None k = refl
  claims_made t (Some e) k = refl

  pub stops_made : (t : ℕ) (k : Control P S H) → (stops_waiting t k).threads.made ≡ k.threads.made
  unfolding stops_waiting goes_on
  stops_made t k = back_made (ring_held (blocked_of k t)) (is_blocked_by t None k)

  pub seat_made : (t : ℕ) (a : Awaits) (k : Control P S H) → (hands_on_seat t a k).threads.made ≡ k.threads.made
  unfolding hands_on_seat
  seat_made t (awaits.Notice c) k = refl
  seat_made t a k = refl

  pub leaves_seat_made : (t : ℕ) (a : Awaits) (k : Control P S H) → (leaves_seat t a k).threads.made ≡ k.threads.made
  unfolding leaves_seat
  leaves_seat_made t (awaits.Notice c) k = refl
  leaves_seat_made t a k = refl

  withdrawn_block : (t : ℕ) (here : Bool) (b : ℤ) (s : State P S H) → Blocks t s (where_so here (changes (with_barriers (withdrawn b t)) and_then tells (mark.Withdrew (tid t) (object_named b))) s)
  withdrawn_block t true b s = record { leads = λ a own. leads_one a (mark.Withdrew (tid t) (object_named b)) own; made = refl }
  withdrawn_block t false b s = blocks_none t s

  withdraws_block : (t : ℕ) (a : Awaits) (s : State P S H) → Blocks t s (withdraws_from t a s)
  unfolding withdraws_from withdraws
  withdraws_block t (awaits.Round b round) s = withdrawn_block t (waits_at s.control.barriers b t) b s
  withdraws_block t a s = blocks_none t s

  undone_block : (t : ℕ) (s : State P S H) → Blocks t s (undoes_wait t s)
  undone_block t s =
      let a = awaited_in (blocked_of s.control t) in
      blocks_then t (withdraws_from t a.what) (changes (hands_on_seats t a and stops_waiting t)) s (withdraws_block t a.what s)
      (λ u. record { leads = λ b own. leads_nowhere b; made = stops_made t (hands_on_seats t a u.control) ∙ seat_made t a.what u.control })

  -- ---- a thread ends

  leaves_made : (t : ℕ) (v : ℤ) (k : Control P S H) → (leaves t v k).threads.made ≡ k.threads.made
  unfolding leaves is_dead_with leaves_queue sets enters forgets
  leaves_made t v k = by_joinable (or_nobody (entry_of k t)).joinable
    where
      by_joinable : (b : Bool) → ((if b then is_dead_with t v else removes t) k).threads.made ≡ k.threads.made
      by_joinable true = refl
      by_joinable false = refl

  leaves_gone : (t : ℕ) (v : ℤ) (k : Control P S H) → (leaves t v k).scheduler.running ≢ Some t
  unfolding leaves
  leaves_gone t v k = not_other t ((if (or_nobody (entry_of k t)).joinable then is_dead_with t v else removes t) k).scheduler.running

  -- its marks lead to the account after its end
  pub record EndsAs (t : ℕ) (v : ℤ) (s : State P S H) (x : Transition P S H) : Type 0 where
    pub leads : (a : Account) → may_end a t ≡ true → Leads a x.marks (account_after a (mark.Ended (tid t) v))
    pub made : IsMadeAs s x.state
    -- it does not run any longer
    pub gone : x.state.control.scheduler.running ≢ Some t

  after_block : (t : ℕ) (v : ℤ) (p q : Piece P S H) (s : State P S H) → Blocks t s (p s) → EndsAs t v (p s).state (q (p s).state) → EndsAs t v s ((p and_then q) s)
  after_block t v p q s x y = record {
    leads = λ a own. leads_then a (p s).marks (q (p s).state).marks a (account_after a (mark.Ended (tid t) v)) (x.leads a own) (y.leads a own);
    made = y.made ∙ x.made;
    gone = y.gone;
  }

  dies_as : (t : ℕ) (v : ℤ) (s : State P S H) → EndsAs t v s (dies t v s)
  dies_as t v s = record { leads = λ a own. leads_one a (mark.Ended (tid t) v) own; made = leaves_made t v s.control; gone = leaves_gone t v s.control }

  pub ending_as : (f : P → Functions S H) (t : ℕ) (v : ℤ) (s : State P S H) → EndsAs t v s (ending f t v s)
  unfolding ending
  ending_as f t v s =
      let s1 = (undoes_wait t s).state in
      let s2 = (runs_cleanups f t s1).state in
      let s3 = (runs_destructors f t s2).state in
      let s4 = (gives_all t s3).state in
      after_block t v (undoes_wait t) (runs_cleanups f t and_then runs_destructors f t and_then gives_all t and_then dies t v) s (undone_block t s)
      (after_block t v (runs_cleanups f t) (runs_destructors f t and_then gives_all t and_then dies t v) s1 (each_block f t (s1.resources.store.cleanups t) s1)
      (after_block t v (runs_destructors f t) (gives_all t and_then dies t v) s2 (destructs_block f t (round_limit * key_limit) first_round s2)
      (after_block t v (gives_all t) (dies t v) s3 (all_block f t s3) (dies_as t v s4))))
