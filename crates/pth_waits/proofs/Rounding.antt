-- The events of a ring are gone over, as long as all would be found pending.
use Rattle.std.proofs.Common.{◌≡◌, ◌≢◌, ◌∙◌, ℕ, ◌+◌, ◌<◌, ◌++◌, ◌∷◌, not, Bool, true, false, cond, min, List, [], fold, All, Option, Some, None, option_map, inl, inr, refl, sym, ap, subst, append_assoc, arith}
use Rattle.std.proofs.lemmas.List.Elements.{All-append, All-cons, All-head, All-nil, All-tail, All-weaker}
use Rattle.pth_base.proofs.Tables.{same_self, not_same}
use Rattle.pth_base.specs.declared.event.EventSpec.{EventSpec}
use Rattle.pth_ring.specs.declared.event.Event.{Event}
use Rattle.pth_kernel.specs.Kernel.{Kernel}
use Rattle.pth_ring.specs.declared.event.Status.{Status}
use Rattle.pth_ring.specs.declared.event.Status.TheVariants.{Pending, Occurred, Failed}
use Rattle.pth_ring.specs.Arena.{events_of}
use Rattle.pth_base.specs.Chain.{StandsIn}
use Rattle.pth_ring.specs.Ring.{RingGoesOn, Begins, from, rest_of}
use Rattle.pth_ring.specs.Rings.{Events, is_pending, is_settled, settled_in}
use Rattle.pth_model.specs.State.{State, now_of}
use Rattle.pth_world.specs.Shows.{StandsFor}
use Rattle.pth_world.specs.World.{WorldOf}
use Rattle.pth_waits.specs.Dormant.{AreFoundPending, ArePending, FindsPending, IsFoundPending, StaysPending, after_now}
use Rattle.pth_waits.proofs.Dormancy.{sooner_found}

module _ {P S H : Type 0} (s : State P S H) (until : ℕ) where
  -- by what is kept of an event
  pub finds_by : (n : ℕ) (o : Option Event) (spec : EventSpec) → option_map (λ (v : Event). v.spec) o ≡ Some spec → IsFoundPending s until n spec → FindsPending s until n o
  finds_by n None spec is found = absurd (cc is)
  finds_by n (Some v) spec is found = (let e : spec ≡ v.spec = cc is in subst (IsFoundPending s until n) e found)

  pub found_of : (n : ℕ) (o : Option Event) (spec : EventSpec) → option_map (λ (v : Event). v.spec) o ≡ Some spec → FindsPending s until n o → IsFoundPending s until n spec
  found_of n None spec is finds = absurd (cc is)
  found_of n (Some v) spec is finds = (let e : v.spec ≡ spec = cc is in subst (IsFoundPending s until n) e finds)

  -- ---- none of them is settled

  pending_is : (x : Status) → not (is_pending x) ≡ false → x ≡ Pending
  pending_is Pending h = refl
  pending_is Occurred h = absurd (cc h)
  pending_is Failed h = absurd (cc h)

  stays_by : (n : ℕ) (o : Option Event) → is_settled o ≡ false → FindsPending s until n o → StaysPending s until n o
  stays_by n None pending finds = tt
  stays_by n (Some v) pending finds = (pending_is v.status pending, finds)

  abbrev counts : ℕ → ℕ → ℕ
  counts n e = n + cond (is_settled (s.control.events.events e)) 1 0

  zero_by : (n : ℕ) (b : Bool) → n + cond b 1 0 ≡ 0 → (n ≡ 0) × (b ≡ false)
  zero_by n true none = absurd (omega (arith, none))
  zero_by n false none = (omega (arith, none), refl)

  none_counted : (n : ℕ) (es : List ℕ) → fold counts n es ≡ 0 → (n ≡ 0) × All (λ e. is_settled (s.control.events.events e) ≡ false) es
  none_counted n [] none = (none, All-nil (λ e. is_settled (s.control.events.events e) ≡ false))
  none_counted n (e ∷ es) none =
      let rest = none_counted (counts n e) es none in
      let one = zero_by n (is_settled (s.control.events.events e)) rest.0 in
      (one.0, All-cons (λ i. is_settled (s.control.events.events i) ≡ false) e es one.1 rest.1)

  all_stay : (es : List ℕ) → All (λ e. is_settled (s.control.events.events e) ≡ false) es → AreFoundPending s until es → ArePending s until es
  all_stay [] none finds = All-nil (λ e. StaysPending s until e (s.control.events.events e))
  all_stay (e ∷ es) none finds =
      All-cons (λ i. StaysPending s until i (s.control.events.events i)) e es
      (stays_by e (s.control.events.events e) (All-head (λ i. is_settled (s.control.events.events i) ≡ false) e es none) (All-head (λ i. FindsPending s until i (s.control.events.events i)) e es finds))
      (all_stay es (All-tail (λ i. is_settled (s.control.events.events i) ≡ false) e es none) (All-tail (λ i. FindsPending s until i (s.control.events.events i)) e es finds))

  pub ring_stays : (e : ℕ) → settled_in s.control.events e ≡ 0 → AreFoundPending s until (s.control.events.rings e) → ArePending s until (s.control.events.rings e)
  ring_stays e none finds = all_stay (s.control.events.rings e) (none_counted 0 (s.control.events.rings e) none).1 finds

-- ---- and the reverse

module _ {P S H : Type 0} (s : State P S H) where
  none_settled_by : (until n : ℕ) (o : Option Event) → StaysPending s until n o → is_settled o ≡ false
  none_settled_by until n None stays = refl
  none_settled_by until n (Some v) stays = rw stays.0 refl

  same_count : (until n : ℕ) (es : List ℕ) → ArePending s until es → fold (λ n e. n + cond (is_settled (s.control.events.events e)) 1 0) n es ≡ n
  same_count until n [] all = refl
  same_count until n (e ∷ es) all =
      let here = none_settled_by until e (s.control.events.events e) (All-head (λ i. StaysPending s until i (s.control.events.events i)) e es all) in
      let one : n + cond (is_settled (s.control.events.events e)) 1 0 ≡ n = rw here (omega arith) in
      ap (λ (m : ℕ). fold (λ n e. n + cond (is_settled (s.control.events.events e)) 1 0) m es) one ∙ same_count until n es (All-tail (λ i. StaysPending s until i (s.control.events.events i)) e es all)

  -- where all are pending, none is settled, and all would be found so
  pub none_settled : (until e : ℕ) → ArePending s until (s.control.events.rings e) → settled_in s.control.events e ≡ 0
  none_settled until e all = same_count until 0 (s.control.events.rings e) all

  finds_of : (until n : ℕ) (o : Option Event) → StaysPending s until n o → FindsPending s until n o
  finds_of until n None stays = tt
  finds_of until n (Some v) stays = stays.1

  pub all_found : (until : ℕ) (es : List ℕ) → ArePending s until es → AreFoundPending s until es
  all_found until es all = All-weaker (λ e. StaysPending s until e (s.control.events.events e)) (λ e. FindsPending s until e (s.control.events.events e)) (λ e h. finds_of until e (s.control.events.events e) h) es all

stands_all : (Q : ℕ → Type 0) (n : ℕ) (es : List ℕ) → All Q es → StandsIn n es → Q n
stands_all Q n [] all stands = absurd stands
stands_all Q n (e ∷ es) all (inl is) = subst Q (sym is) (All-head Q e es all)
stands_all Q n (e ∷ es) all (inr stands) = stands_all Q n es (All-tail Q e es all) stands

-- ---- round a ring

module _ {P S H : Type 0} (w : WorldOf P S H) (e : ℕ) where
  abbrev ring : List ℕ
  ring = (events_of w.events).rings e

  -- a moment is later than now, if the events of the ring would be found pending now
  abbrev pub IsLater : ℕ → Type 0
  IsLater until = (s : State P S H) → StandsFor w s → AreFoundPending s (after_now s.control) ring → now_of s.control < until

  -- the events of a ring up to n, which comes next, would be found pending until a moment
  pub record PendingRound (n until : ℕ) : Type 0 where
    pub done : List ℕ
    pub split : ring ≡ done ++ from n ring
    pub within : StandsIn n ring
    pub pending : (s : State P S H) → StandsFor w s → AreFoundPending s until done
    pub later : IsLater until

  from_first : (xs : List ℕ) → xs ≡ e ∷ rest_of xs → from e xs ≡ xs
  from_first xs begins = rw begins (rw (same_self e) refl)

  pub pends_none : (until : ℕ) → Begins ring e → w.kernel.now < until → PendingRound e until
  pends_none until begins later = record {
    done = [];
    split = sym (from_first ring begins);
    within = subst (λ (l : List ℕ). StandsIn e l) (sym begins) (inl refl);
    pending = λ s st. All-nil (λ i. FindsPending s until i (s.control.events.events i));
    later = λ s st finds. (let e : now_of s.control ≡ w.kernel.now = ap (λ (z : Kernel). z.now) st.control.kernel in omega arith);
  }

  -- an event of a place, by what the world has of it
  pub finds_at : (n own : ℕ) (spec : EventSpec) → option_map (λ (v : Event). v.spec) ((events_of w.events).events n) ≡ Some spec → ((s : State P S H) → StandsFor w s → IsFoundPending s own n spec) → (s : State P S H) → StandsFor w s → FindsPending s own n (s.control.events.events n)
  finds_at n own spec is found s st = finds_by s own n (s.control.events.events n) spec (ap (λ (y : Events). option_map (λ (v : Event). v.spec) (y.events n)) st.control.events ∙ is) (found s st)

  -- and by what it is told of it
  pub later_at : (n own : ℕ) (spec : EventSpec) → option_map (λ (v : Event). v.spec) ((events_of w.events).events n) ≡ Some spec → StandsIn n ring → ((s : State P S H) → StandsFor w s → IsFoundPending s (after_now s.control) n spec → now_of s.control < own) → IsLater own
  later_at n own spec is stands found s st finds =
      found s st (found_of s (after_now s.control) n (s.control.events.events n) spec (ap (λ (y : Events). option_map (λ (v : Event). v.spec) (y.events n)) st.control.events ∙ is) (stands_all (λ i. FindsPending s (after_now s.control) i (s.control.events.events i)) n ring finds stands))

  module _ (n m until own : ℕ) (so_far : PendingRound n until) (later : IsLater own) (here : (s : State P S H) → StandsFor w s → FindsPending s own n (s.control.events.events n))
      (goes_on : (i : ℕ) → StandsIn n ((events_of w.events).rings i) → RingGoesOn ((events_of w.events).rings i) i n m) where
    goes : RingGoesOn ring e n m
    goes = goes_on e so_far.within

    more_pending : (s : State P S H) → StandsFor w s → AreFoundPending s (min until own) (so_far.done ++ n ∷ [])
    more_pending s st =
        All-append (λ i. FindsPending s (min until own) i (s.control.events.events i)) so_far.done (n ∷ [])
        (All-weaker (λ i. FindsPending s until i (s.control.events.events i)) (λ i. FindsPending s (min until own) i (s.control.events.events i)) (λ i h. sooner_found s until (min until own) (omega arith) i (s.control.events.events i) h) so_far.done (so_far.pending s st))
        (All-cons (λ i. FindsPending s (min until own) i (s.control.events.events i)) n [] (sooner_found s own (min until own) (omega arith) n (s.control.events.events n) (here s st)) (All-nil (λ i. FindsPending s (min until own) i (s.control.events.events i))))

    -- and the least is later than now, if both are
    more_later : IsLater (min until own)
    more_later s st finds = (let a = so_far.later s st finds in let b = later s st finds in omega (arith, a, b))

    pub pends_next : m ≢ e → PendingRound m (min until own)
    pends_next more = record {
      done = so_far.done ++ n ∷ [];
      split = so_far.split ∙ ap (λ (l : List ℕ). so_far.done ++ l) (goes.rest ∙ rw (not_same m e more) refl) ∙ sym (append_assoc so_far.done (n ∷ []) (from m ring));
      within = goes.within;
      pending = more_pending;
      later = more_later;
    }

    pub all_later : (s : State P S H) → StandsFor w s → AreFoundPending s (after_now s.control) (s.control.events.rings e) → now_of s.control < min until own
    all_later s st finds = more_later s st (subst (AreFoundPending s (after_now s.control)) (ap (λ (y : Events). y.rings e) st.control.events) finds)

    pub pends_all : m ≡ e → (s : State P S H) → StandsFor w s → AreFoundPending s (min until own) (s.control.events.rings e)
    pends_all last s st =
        let all : so_far.done ++ n ∷ [] ≡ ring = sym (so_far.split ∙ ap (λ (l : List ℕ). so_far.done ++ l) (goes.rest ∙ rw (last, same_self e) refl)) in
        subst (AreFoundPending s (min until own)) (all ∙ sym (ap (λ (y : Events). y.rings e) st.control.events)) (more_pending s st)
