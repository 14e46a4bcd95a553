-- Waits at conditions: how they begin, and how they go on.
use Rattle.std.proofs.Common.{◌≡◌, ◌∙◌, ◌||◌, not, ℕ, ℤ, Bool, true, false, Some, List, [], ◌∷◌, ◌++◌, Result, Ok, Err, IfOk, OnOk, OnErr, is_ok, if◌then◌else◌, refl, sym, subst, ap, append_assoc}
use Rattle.pth_base.proofs.Cuts.{cut_none, cut_then}
use Rattle.pth_base.specs.Program.{Functions}
use Rattle.pth_base.specs.declared.answer.Answer.{Answer}
use Rattle.pth_base.specs.declared.call.Call.TheVariants.{CondAwait}
use Rattle.pth_base.specs.declared.errno.Errno.{Errno}
use Rattle.pth_base.specs.declared.errno.Errno.TheVariants.{EBUSY, EINVAL}
use Rattle.pth_base.specs.declared.mark.Mark.{Mark}
use Rattle.pth_base.specs.declared.mark.Mark.TheVariants.{Answered, Retakes, Took, Waits}
use Rattle.pth_base.specs.declared.memory.OutOfMemory.{OutOfMemory}
use Rattle.pth_cond.specs.Conditions.{is_initialised, seat_entered}
use Rattle.pth_lock.specs.Mutexes.{mutex_release_answer, mutex_released, mutex_take_answer, mutex_taken}
use Rattle.pth_lock.specs.Objects.{object_named}
use Rattle.pth_model.specs.declared.awaits.Awaits.{Awaits}
use Rattle.pth_model.specs.declared.awaits.Awaits.TheVariants.{Notice, Retaking}
use Rattle.pth_model.specs.declared.awaits.Retake.{Retake}
use Rattle.pth_model.specs.declared.next.Next.{Next}
use Rattle.pth_model.specs.declared.next.Next.TheVariants.{Done}
use Rattle.pth_model.specs.declared.next.Next.TheVariants as next
use Rattle.pth_model.specs.declared.verdict.Verdict.TheVariants.{Blocks}
use Rattle.pth_model.specs.Calls.{awaits_on, awaits_on_where, blocks, retaken_as, retakes, retakes_where}
use Rattle.pth_model.specs.Cancellation.{may_be_canceled}
use Rattle.pth_model.specs.Changes.{with_conditions}
use Rattle.pth_model.specs.Conditions.{begins_await, cond_await, is_noticed, seat_of}
use Rattle.pth_model.specs.Resources.{answer_told, let_go, retaken, told}
use Rattle.pth_model.specs.Store.{Store, with_mutexes}
use Rattle.pth_model.specs.RingWaits.{claims, extra_ring, has_settled, is_claimed_ring, is_no_ring}
use Rattle.pth_model.specs.State.{Control, State}
use Rattle.pth_model.specs.Transition.{Change, Last, Piece, changes, controlled, tells, tid, ◌and_finally◌, ◌and_next◌, ◌and_then◌}
use Rattle.pth_model.specs.Verdict.{by_result, refused}
use Rattle.pth_numbered.specs.Clauses.{◌when◌otherwise◌}
use Rattle.pth_world.specs.Frame.{Frame, runs_after, yields_after}
use Rattle.pth_world.specs.Keeps.{KeepsAllButStore}
use Rattle.pth_world.specs.Leading.{Goes, StandsOnce, StandsWhere}
use Rattle.pth_world.specs.Numbering.{no_numbers}
use Rattle.pth_world.specs.Shows.{Shows, StandsFor}
use Rattle.pth_world.specs.Store.{store_of}
use Rattle.pth_world.specs.World.{WorldOf}
use Rattle.pth_waits.specs.Verdicts.{Begins}
use Rattle.pth_waits.proofs.Carried.{goes_as}

-- ---- a wait begins

-- by what is tested
pub begin_by : {P S H : Type 0} (s : State P S H) (t : ℕ) (c m e : ℤ) (dead none claimed : Bool) (r : Result (Unit {0}) Errno) → not (is_initialised s.control.conditions c) ≡ dead → is_no_ring s (extra_ring e) ≡ none → mutex_release_answer s.resources.store.mutexes t m ≡ r → is_claimed_ring s (extra_ring e) ≡ claimed
    → begins_await s t c m e ≡ (refused EINVAL when dead || none otherwise by_result (λ released. refused EBUSY when claimed otherwise Blocks (Notice c)) r)
begin_by s t c m e dead none claimed r p q u v = rw (p, q, u, v) refl

module _ {P S H : Type 0} (w : WorldOf P S H) (t : ℕ) (c m e : ℤ) where
  -- it is refused
  pub await_refused : (o : Errno) → ((s : State P S H) → StandsFor w s → begins_await s t c m e ≡ refused o) → Begins w w t (CondAwait c m e) (λ s. cond_await s t c m e) (refused o)
  unfolding told answer_told
  await_refused o is = record {
    verdict = is;
    silent = λ s st. rw (is s st) refl;
    ready = λ s st. rw (is s st.0) (record { control = st.0.control; store = ap (λ (b : Bool). (if b then retaken s.resources t (object_named m) else s.resources).store) st.1 ∙ st.0.store });
    may = tt;
  }

  -- it waits: it takes its seat, and then its ring is claimed
  pub await_waits : (u v : WorldOf P S H) → ((s : State P S H) → StandsFor w s → begins_await s t c m e ≡ Blocks (Notice c))
      → ((k : Control P S H) → Shows w k → Shows u (with_conditions (seat_entered c (seat_of t)) k)) → ((k : Control P S H) → Shows u k → Shows v (claims t (extra_ring e) k))
      → store_of u.store ≡ with_mutexes (mutex_released t (object_named m)) (store_of w.store) → v.store ≡ u.store → Begins w v t (CondAwait c m e) (λ s. cond_await s t c m e) (Blocks (Notice c))
  unfolding told
  await_waits u v is seated claimed has same = record {
    verdict = is;
    silent = λ s st. rw (is s st) refl;
    ready = λ s st. rw (is s st.0) (record {
      control = claimed _ (seated s.control st.0.control);
      store = ap (λ (b : Bool). (if b then s.resources else let_go s.resources t (object_named m)).store) st.1
          ∙ ap (with_mutexes (mutex_released t (object_named m))) st.0.store ∙ sym (ap (λ y. store_of y) same ∙ has);
    });
    may = refl;
  }

-- ---- it is over

module _ {P S H : Type 0} (t : ℕ) (m : ℤ) where
  -- t has taken its mutex
  pub took_once : (w v : WorldOf P S H) → KeepsAllButStore w v → store_of v.store ≡ with_mutexes (mutex_taken t (object_named m)) (store_of w.store) → (s : State P S H) → StandsFor w s → StandsOnce v (Took (tid t) (object_named m)) s
  unfolding told
  took_once w v keeps taken s st = record { control = keeps.shows s.control st.control; store = ap (with_mutexes (mutex_taken t (object_named m))) st.store ∙ sym taken }

  -- and awaited
  abbrev pub HasTaken : WorldOf P S H → State P S H → Type 0
  HasTaken w s = StandsOnce w (Took (tid t) (object_named m)) s × (s.resources.awaits t ≡ true)

  module _ (c e : ℤ) where
    -- an answer says so
    took_answered : (a : Answer) (w : WorldOf P S H) (s : State P S H) → HasTaken w s → StandsFor w (tells (Answered (tid t) (CondAwait c m e) a) s).state
    unfolding told answer_told
    took_answered a w s has = record { control = has.0.control; store = ap (λ (b : Bool). (if b then retaken s.resources t (object_named m) else s.resources).store) has.1 ∙ has.0.store }

    pub answered_goes : (a : Answer) (w : WorldOf P S H) (old new : List Mark) (r : Result Next OutOfMemory) → IfOk r (λ n. n ≡ Done a) → OnOk r (new ≡ old ++ Answered (tid t) (CondAwait c m e) a ∷ []) → OnErr r (new ≡ old)
        → Goes (HasTaken w) (tells (Answered (tid t) (CondAwait c m e) a) and_next Done a) w old new r
    answered_goes a w old new (Ok n) is told kept = record { next = λ s has. is; leads = λ s has. record { stands = took_answered a w s has; tells = told }; cut = tt }
    answered_goes a w old new (Err e) is told kept = record { next = tt; leads = tt; cut = λ s has. cut_none old new _ kept }

    module _ (f : P → Functions S H) (o : Retake) where
      -- the mutex can be taken
      pub takes_goes : (w v u : WorldOf P S H) (old new : List Mark) (r : Result Next OutOfMemory) → KeepsAllButStore w v → store_of v.store ≡ with_mutexes (mutex_taken t (object_named m)) (store_of w.store) → mutex_take_answer (store_of w.store).mutexes t m ≡ Ok tt
          → Goes (HasTaken v) (retaken_as f t (CondAwait c m e) m o) u old new r → Goes (StandsWhere w t true) (retakes f t (CondAwait c m e) m o) u old new r
      takes_goes w v u old new r keeps taken can = goes_as (HasTaken v) (StandsWhere w t true) (retaken_as f t (CondAwait c m e) m o) (retakes f t (CondAwait c m e) m o) u old new r (λ s st.
          (s, (took_once w v keeps taken s st.0, st.1), sym (ap (λ (b : Bool). retakes_where f t b (CondAwait c m e) m o s) (ap (λ (x : Store). is_ok (mutex_take_answer x.mutexes t m)) st.0.store ∙ ap is_ok can))))

      abbrev pub waits_for_mutex : Last P S H
      waits_for_mutex = changes (blocks t (CondAwait c m e) (Retaking m o)) and_then tells (Retakes (tid t) (CondAwait c m e)) and_next next.Blocks

      -- it can't
      pub waits_goes : (w u : WorldOf P S H) (old new : List Mark) (r : Result Next OutOfMemory) → is_ok (mutex_take_answer (store_of w.store).mutexes t m) ≡ false → Goes (StandsFor w) waits_for_mutex u old new r → Goes (StandsWhere w t true) (retakes f t (CondAwait c m e) m o) u old new r
      waits_goes w u old new r cannot = goes_as (StandsFor w) (StandsWhere w t true) waits_for_mutex (retakes f t (CondAwait c m e) m o) u old new r (λ s st.
          (s, st.0, sym (ap (λ (b : Bool). retakes_where f t b (CondAwait c m e) m o s) (ap (λ (x : Store). is_ok (mutex_take_answer x.mutexes t m)) st.0.store ∙ cannot))))

      -- the call blocks its thread again
      pub blocked_goes : (w u : WorldOf P S H) (old new : List Mark) → ((k : Control P S H) → Shows w k → Shows u (blocks t (CondAwait c m e) (Retaking m o) k)) → u.store ≡ w.store → new ≡ old ++ Retakes (tid t) (CondAwait c m e) ∷ [] → Goes (StandsFor w) waits_for_mutex u old new (Ok next.Blocks)
      unfolding told
      blocked_goes w u old new shows same told_so = record {
        next = λ s st. refl;
        leads = λ s st. record { stands = record { control = shows s.control st.control; store = st.store ∙ sym (ap (λ y. store_of y) same) }; tells = told_so };
        cut = tt;
      }

      -- what is changed first
      pub changed_goes : (g : Change P S H) (w v u : WorldOf P S H) (last other : Last P S H) (old new : List Mark) (r : Result Next OutOfMemory) → ((s : State P S H) → last (controlled g s) ≡ other s) → ((k : Control P S H) → Shows w k → Shows v (g k)) → v.store ≡ w.store → Goes (StandsWhere v t true) last u old new r
          → Goes (StandsWhere w t true) other u old new r
      changed_goes g w v u last other old new r is shows same =
          goes_as (StandsWhere v t true) (StandsWhere w t true) last other u old new r (λ s st. (controlled g s, (record { control = shows s.control st.0.control; store = st.0.store ∙ sym (ap (λ y. store_of y) same) }, st.1), is s))

-- one piece after another
module _ {P S H : Type 0} (from mid : State P S H → Type 0) (e : Piece P S H) (last : Last P S H) (v : WorldOf P S H) (old between new : List Mark) where
  pub finally_goes : (r : Result Next OutOfMemory) → ((s : State P S H) → from s → mid (e s).state × (between ≡ old ++ (e s).marks)) → Goes mid last v between new r → Goes from (e and_finally last) v old new r
  finally_goes (Ok n) first g = record {
    next = λ s st. g.next (e s).state (first s st).0;
    leads = λ s st. (let y = last (e s).state in record {
      stands = (g.leads (e s).state (first s st).0).stands;
      tells = (g.leads (e s).state (first s st).0).tells ∙ ap (λ (ms : List Mark). ms ++ y.told.marks) (first s st).1 ∙ append_assoc old (e s).marks y.told.marks;
    });
    cut = tt;
  }
  finally_goes (Err o) first g = record {
    next = tt;
    leads = tt;
    cut = λ s st. cut_then old between new (e s).marks (last (e s).state).told.marks (first s st).1 (g.cut (e s).state (first s st).0);
  }

-- ---- it goes on

module _ {P S H : Type 0} (f : P → Functions S H) (t : ℕ) (c m e : ℤ) where
  abbrev pub on_where : Bool → Bool → Bool → Last P S H
  on_where asked noticed settled = awaits_on_where f t asked noticed settled (CondAwait c m e) c m

  -- by what is found
  pub on_goes : (a : Awaits) → ((n : ℤ) (o : Retake) → a ≡ Retaking n o → ⊥) → (w u : WorldOf P S H) (last : Last P S H) (old new : List Mark) (r : Result Next OutOfMemory) → Goes (StandsWhere w t true) last u old new r
      → ((s : State P S H) → StandsFor w s → last s ≡ on_where (may_be_canceled s.control t) (is_noticed s t c) (has_settled s.control.events (extra_ring e)) s) → Goes (StandsWhere w t true) (awaits_on f t c m e a) u old new r
  on_goes a other w u last old new r g is = goes_as (StandsWhere w t true) (StandsWhere w t true) last (awaits_on f t c m e a) u old new r (λ s st. (s, st, is s st.0 ∙ sym (by_awaits a other s))) g
    where
      by_awaits : (b : Awaits) → ((n : ℤ) (o : Retake) → b ≡ Retaking n o → ⊥) → (s : State P S H) → awaits_on f t c m e b s ≡ on_where (may_be_canceled s.control t) (is_noticed s t c) (has_settled s.control.events (extra_ring e)) s
      by_awaits (Retaking n o) not s = absurd (not n o refl)
      by_awaits b not s = refl

  -- it waits on
  pub still_goes : (w : WorldOf P S H) (old new : List Mark) (r : Result Next OutOfMemory) → IfOk r (λ n. n ≡ next.Blocks) → OnOk r (new ≡ old ++ Waits (tid t) (CondAwait c m e) ∷ []) → OnErr r (new ≡ old)
      → Goes (StandsWhere w t true) (tells (Waits (tid t) (CondAwait c m e)) and_next next.Blocks) w old new r
  unfolding told
  still_goes w old new (Ok n) is told_so kept = record {
    next = λ s st. is;
    leads = λ s st. record { stands = record { control = st.0.control; store = ap (λ (b : Bool). (if b then s.resources else let_go s.resources t (object_named m)).store) st.1 ∙ st.0.store }; tells = told_so };
    cut = tt;
  }
  still_goes w old new (Err o) is told_so kept = record { next = tt; leads = tt; cut = λ s st. cut_none old new _ kept }

-- and leaves the world as it is
pub waits_frame : {P S H : Type 0} (w : WorldOf P S H) (t : ℕ) (r : Result Next OutOfMemory) → IfOk r (λ n. n ≡ next.Blocks) → Frame w w no_numbers (Some t) false → IfOk r (λ n. Frame w w no_numbers (runs_after t n) (yields_after n))
waits_frame w t (Ok n) is f = subst (λ (k : Next). Frame w w no_numbers (runs_after t k) (yields_after k)) (sym is) f
waits_frame w t (Err e) is f = tt
