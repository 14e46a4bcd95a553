-- The events of a ring are looked at, one after another.
use Rattle.std.proofs.Common.{◌≡◌, ◌≢◌, ◌∙◌, ℕ, ℤ, ◌==◌, ◌≤◌, ◌&&◌, ◌||◌, not, nat_le, Bool, true, false, if◌then◌else◌, List, [], ◌∷◌, ◌++◌, Option, Some, None, option_map, inl, refl, sym, ap, ap₂, subst, arith}
use Rattle.std.specs.List.{list_any}
use Rattle.std.proofs.lemmas.Bool.Decides.{nat_tests}
use Rattle.std.proofs.lemmas.List.{append_assoc}
use mathlib.Core.Path.{fun_ext}
use Rattle.pth_base.specs.Program.{Functions}
use Rattle.pth_base.specs.Table.{put}
use Rattle.pth_base.specs.declared.event.EventSpec.{EventSpec}
use Rattle.pth_base.specs.declared.event.EventSpec.TheVariants as of
use Rattle.pth_base.specs.Chain.{StandsIn}
use Rattle.pth_base.proofs.Tables.{put_here, put_is, put_other, same_self, not_same}
use Rattle.pth_numbered.specs.Numbered.{number_at}
use Rattle.pth_ring.specs.declared.event.Event.{Event}
use Rattle.pth_ring.specs.declared.event.Status.{Status}
use Rattle.pth_ring.specs.declared.event.Status.TheVariants.{Pending}
use Rattle.pth_ring.specs.Arena.{RingsOf, events_of}
use Rattle.pth_ring.specs.Ring.{RingGoesOn, Begins, from, rest_of, each, ring_holds}
use Rattle.pth_ring.specs.Rings.{Events, is_pending, is_settled, with_event, with_next_look, with_status}
use Rattle.pth_model.specs.Looks.{after_looks, comes, found, found_by, found_unasked, check_holds, looked_at, looks_at, next_look}
use Rattle.pth_model.specs.State.{Control, State, now_of}
use Rattle.pth_model.specs.Times.{moment_after}
use Rattle.pth_model.proofs.Looked.{looked_again}
use Rattle.pth_world.specs.Shows.{Shows, StandsFor}
use Rattle.pth_world.specs.World.{WorldOf}
use Rattle.pth_world.proofs.Events.{events_show}
use Rattle.pth_world.proofs.Telling.{has_still}
use Rattle.pth_waits.specs.Looking.{AsksNothing, IsFunction, IsUnasked, LooksAt}

-- ---- one more of a list

or_none : (b : Bool) → (b || false) ≡ b
or_none true = refl
or_none false = refl

or_more : (a b c : Bool) → (a || (b || c)) ≡ ((a || b) || c)
or_more true b c = refl
or_more false b c = refl

or_turned : (a b : Bool) → (a || b) ≡ (b || a)
or_turned true true = refl
or_turned true false = refl
or_turned false true = refl
or_turned false false = refl

-- one more of which it is asked
pub any_more : (p : ℕ → Bool) (xs : List ℕ) (n : ℕ) → list_any p (xs ++ n ∷ []) ≡ (list_any p xs || p n)
any_more p [] n = or_none (p n)
any_more p (x ∷ xs) n = ap (λ (b : Bool). p x || b) (any_more p xs n) ∙ or_more (p x) (list_any p xs) (p n)

-- ---- one event

pub is_due : (next now : ℕ) → next ≤ now → nat_le next now ≡ true
is_due next now h = grind (arith, nat_tests)

module _ {P S H : Type 0} (f : P → Functions S H) (s : State P S H) where
  abbrev look : ℕ → Option Event → Option Event
  look n = option_map (looked_at f s n)

  -- of an event that asks no check its status is all that a look changes
  unasked_found : (e next : ℕ) (spec : EventSpec) → AsksNothing spec → found f s e next spec ≡ found_unasked s e spec
  unasked_found e next (of.Func check arg interval) asks = absurd asks
  unasked_found e next spec asks = refl

  unasked_next : (next : ℕ) (spec : EventSpec) → AsksNothing spec → next_look f s next spec ≡ next
  unasked_next next (of.Func check arg interval) asks = absurd asks
  unasked_next next spec asks = refl

  unasked_one : (e : ℕ) (v : Event) → AsksNothing v.spec → with_status (found_unasked s e v.spec) v ≡ looked_at f s e v
  unasked_one e v asks =
      ap₂ (λ (m : ℕ) (x : Status). with_next_look m (with_status x v)) (sym (unasked_next v.next_look v.spec asks)) (sym (unasked_found e v.next_look v.spec asks))

  pub unasked_looked : (e : ℕ) (o : Option Event) (spec : EventSpec) (x : Status) → IsUnasked o → option_map (λ (v : Event). v.spec) o ≡ Some spec → x ≡ found_unasked s e spec → option_map (with_status x) o ≡ look e o
  unasked_looked e None spec x unasked is found = absurd unasked
  unasked_looked e (Some v) spec x unasked is found =
      let same : spec ≡ v.spec = cc is in
      ap (λ (y : Event). Some y) (ap (λ (y : Status). with_status y v) (found ∙ ap (found_unasked s e) same) ∙ unasked_one e v unasked)

  pub unasked_comes : (e : ℕ) (o : Option Event) (spec : EventSpec) (x : Status) → IsUnasked o → option_map (λ (v : Event). v.spec) o ≡ Some spec → x ≡ found_unasked s e spec → not (is_pending x) ≡ comes f s e o
  unasked_comes e None spec x unasked is found = absurd unasked
  unasked_comes e (Some v) spec x unasked is found = ap (λ (p : Option Event). is_settled p) (unasked_looked e (Some v) spec x unasked is found)

  -- of an event of a function, by whether its look is due, and whether its check holds
  module _ (e next : ℕ) (check arg : ℤ) (interval : ℕ) where
    abbrev due : Bool
    due = nat_le next (now_of s.control)

    abbrev with_both : (due check : Bool) → Event → Event
    with_both due check v = with_next_look (if due && not check then moment_after (now_of s.control) interval else next) (with_status (found_by false (due && check)) v)

    function_one : (v : Event) → v.spec ≡ of.Func check arg interval → v.next_look ≡ next → looked_at f s e v ≡ with_both due (check_holds f s check arg) v
    function_one v is at =
        ap (λ (z : EventSpec). with_next_look (next_look f s v.next_look z) (with_status (found f s e v.next_look z) v)) is
        ∙ ap (λ (m : ℕ). with_next_look (next_look f s m (of.Func check arg interval)) (with_status (found f s e m (of.Func check arg interval)) v)) at

    -- what was asked
    asked_by : (due check holds : Bool) → (if due then Some check else None) ≡ Some holds → (due ≡ true) × (check ≡ holds)
    asked_by true check holds is = (refl, cc is)
    asked_by false check holds is = absurd (cc is)

    function_both : (d c : Bool) (o : Option Event) → IsFunction next check arg interval o → due ≡ d → check_holds f s check arg ≡ c → look e o ≡ option_map (with_both d c) o
    function_both d c None is a b = absurd is
    function_both d c (Some v) is a b = ap (λ (y : Event). Some y) (function_one v is.0 is.1 ∙ ap₂ (λ (x y : Bool). with_both x y v) a b)

    pub off_looked : (o : Option Event) → IsFunction next check arg interval o → Some false ≡ (if due then Some (check_holds f s check arg) else None) → option_map (λ (v : Event). with_next_look (moment_after (now_of s.control) interval) (with_status Pending v)) o ≡ look e o
    off_looked o is asked = (let b = asked_by due (check_holds f s check arg) false (sym asked) in sym (function_both true false o is b.0 b.1))

    settled_some : (x : Status) (g : Event → Event) (o : Option Event) → IsFunction next check arg interval o → ((v : Event) → (g v).status ≡ x) → is_settled (option_map g o) ≡ not (is_pending x)
    settled_some x g None is status = absurd is
    settled_some x g (Some v) is status = ap (λ (y : Status). not (is_pending y)) (status v)

    -- whether it comes
    pub function_comes : (x : Status) (g : Event → Event) (o : Option Event) → IsFunction next check arg interval o → ((v : Event) → (g v).status ≡ x) → option_map g o ≡ look e o → not (is_pending x) ≡ comes f s e o
    function_comes x g o is status looked = sym (settled_some x g o is status) ∙ ap (λ (p : Option Event). is_settled p) looked

-- an event is changed twice
module _ (g h : Event → Event) (n : ℕ) (x : Events) where
  both : (o : Option Event) → option_map h (option_map g o) ≡ option_map (λ v. h (g v)) o
  both None = refl
  both (Some v) = refl

  abbrev once : ℕ → Option Event
  once = put x.events n (option_map g (x.events n))

  twice_here : put once n (option_map h (once n)) n ≡ option_map (λ v. h (g v)) (x.events n)
  twice_here = put_here once n (option_map h (once n)) ∙ ap (option_map h) (put_here x.events n (option_map g (x.events n))) ∙ both (x.events n)

  twice_elsewhere : (y : ℕ) → y ≢ n → put once n (option_map h (once n)) y ≡ x.events y
  twice_elsewhere y apart = put_other once n (option_map h (once n)) y apart ∙ put_other x.events n (option_map g (x.events n)) y apart

  pub changed_twice : with_event h n (with_event g n x) ≡ with_event (λ v. h (g v)) n x
  changed_twice = ap (λ (p : ℕ → Option Event). record x { events = p }) (put_is x.events (put once n (option_map h (once n))) n (option_map (λ v. h (g v)) (x.events n)) twice_here twice_elsewhere)

-- a change of an event that is a look at it
pub looks_by : {P S H : Type 0} (f : P → Functions S H) (s : State P S H) (n : ℕ) (x : Events) (g : Event → Event) → option_map g (x.events n) ≡ option_map (looked_at f s n) (x.events n) → with_event g n x ≡ with_event (looked_at f s n) n x
looks_by f s n x g is = ap (λ (o : Option Event). record x { events = put x.events n o }) is

module _ {P S H : Type 0} (f : P → Functions S H) (s : State P S H) where
  -- the events once these were looked at
  abbrev after_look : List ℕ → (ℕ → Option Event) → ℕ → Option Event
  after_look done g n = each done (look f s n) g n

  -- an event is found as it is, whether it was looked at before or not
  look_is : (b : Bool) (n : ℕ) (o : Option Event) → look f s n (if b then look f s n o else o) ≡ look f s n o
  look_is false n o = refl
  look_is true n None = refl
  look_is true n (Some v) = ap (λ (y : Event). Some y) (looked_again f s n v)

  pub come_is : (b : Bool) (n : ℕ) (o : Option Event) → comes f s n (if b then look f s n o else o) ≡ comes f s n o
  come_is b n o = ap (λ (p : Option Event). is_settled p) (look_is b n o)

  module _ (g : ℕ → Option Event) (done : List ℕ) (n : ℕ) where
    here : after_look (done ++ n ∷ []) g n ≡ look f s n (after_look done g n)
    unfolding each
    here =
        ap (λ (b : Bool). if b then look f s n (g n) else g n) (any_more (λ x. x == n) done n ∙ ap (λ (b : Bool). ring_holds n done || b) (same_self n) ∙ or_true (ring_holds n done))
        ∙ sym (look_is (ring_holds n done) n (g n))
      where
        or_true : (b : Bool) → (b || true) ≡ true
        or_true true = refl
        or_true false = refl

    elsewhere : (y : ℕ) → y ≢ n → after_look (done ++ n ∷ []) g y ≡ after_look done g y
    unfolding each
    elsewhere y apart = ap (λ (b : Bool). if b then look f s y (g y) else g y) (any_more (λ x. x == y) done n ∙ ap (λ (b : Bool). ring_holds y done || b) (not_same n y (λ h. apart (sym h))) ∙ or_none (ring_holds y done))

    pub one_more : after_look (done ++ n ∷ []) g ≡ put (after_look done g) n (look f s n (after_look done g n))
    one_more = put_is (after_look done g) (after_look (done ++ n ∷ []) g) n (look f s n (after_look done g n)) here elsewhere

  none_looked : (g : ℕ → Option Event) → g ≡ after_look [] g
  unfolding each
  none_looked g = fun_ext (λ y. refl)

-- ---- round a ring

-- The events of a ring were looked at up to n, which comes next: then the world shows that they were.
pub record LookedSoFar {P S H : Type 0} (f : P → Functions S H) (old now : WorldOf P S H) (e n : ℕ) (come : Bool) : Type 0 where
  pub done : List ℕ
  pub ring : (events_of old.events).rings e ≡ done ++ from n ((events_of old.events).rings e)
  pub within : StandsIn n ((events_of old.events).rings e)
  pub shows : (s : State P S H) → StandsFor old s → Shows now (looks_at f s done s.control)
  pub comes : (s : State P S H) → StandsFor old s → come ≡ list_any (λ y. comes f s y (s.control.events.events y)) done
  pub rings : (events_of now.events).rings ≡ (events_of old.events).rings
  pub numbers : number_at now.events ≡ number_at old.events
  pub made : now.events.made ≡ old.events.made
  pub same : now ≡ record old { events = now.events }

module _ {P S H : Type 0} (f : P → Functions S H) (old : WorldOf P S H) (e : ℕ) where
  abbrev ring : List ℕ
  ring = (events_of old.events).rings e

  from_first : (xs : List ℕ) → xs ≡ e ∷ rest_of xs → from e xs ≡ xs
  from_first xs begins = rw begins (rw (same_self e) refl)

  pub none_shows : (s : State P S H) → Shows old s.control → (l : List ℕ) → l ≡ [] → Shows old (looks_at f s l s.control)
  none_shows s sh l none = rw none (events_show old old.events s.control _ sh (ap (λ (g : ℕ → Option Event). record s.control.events { events = g }) (sym (none_looked f s s.control.events.events)) ∙ sh.events))

  pub looked_none : Begins ring e → LookedSoFar f old old e e false
  looked_none begins = record {
    done = [];
    ring = sym (from_first ring begins);
    within = subst (λ (l : List ℕ). StandsIn e l) (sym begins) (inl refl);
    shows = λ s st. none_shows s st.control [] refl;
    comes = λ s st. refl;
    rings = refl;
    numbers = refl;
    made = refl;
    same = refl;
  }

  module _ (now : WorldOf P S H) (x : RingsOf) (u v : ℕ) (come found_come : Bool) (so_far : LookedSoFar f old now e (number_at old.events u) come)
      (looked_at_u : (s : State P S H) → StandsFor now s → LooksAt f s (number_at now.events u) (events_of now.events) (events_of x) found_come)
      (kept : (events_of x).rings ≡ (events_of now.events).rings) (places : number_at x ≡ number_at now.events) (made : x.made ≡ now.events.made)
      (goes_on : (i : ℕ) → StandsIn (number_at x u) ((events_of x).rings i) → RingGoesOn ((events_of x).rings i) i (number_at x u) (number_at x v)) where
    -- the event that was looked at, and the next one
    abbrev n : ℕ
    n = number_at old.events u

    abbrev m : ℕ
    m = number_at old.events v

    pub numbers : number_at x ≡ number_at old.events
    numbers = places ∙ so_far.numbers

    same_rings : (events_of x).rings ≡ (events_of old.events).rings
    same_rings = kept ∙ so_far.rings

    -- the world that was left stands for the state in which those before it were looked at
    stands : (s : State P S H) → StandsFor old s → StandsFor now (after_looks f s so_far.done)
    stands s st = record {
      control = so_far.shows s st;
      store = has_still old now s (ap (λ (w : WorldOf P S H). w.store) so_far.same) st.store;
    }

    looked : (s : State P S H) → StandsFor old s → LooksAt f s n (events_of now.events) (events_of x) found_come
    looked s st = (let one = looked_at_u (after_looks f s so_far.done) (stands s st) in
        subst (λ (g : ℕ → ℕ). LooksAt f s (g u) (events_of now.events) (events_of x) found_come) so_far.numbers (record { looked = one.looked; comes = one.comes }))

    goes : RingGoesOn ((events_of x).rings e) e n m
    goes =
        let here = subst (λ (r : ℕ → List ℕ). StandsIn n (r e)) (sym same_rings) so_far.within in
        subst (λ (g : ℕ → ℕ). RingGoesOn ((events_of x).rings e) e (g u) (g v)) numbers (goes_on e (subst (λ (g : ℕ → ℕ). StandsIn (g u) ((events_of x).rings e)) (sym numbers) here))

    rest : from n ring ≡ n ∷ (if m == e then [] else from m ring)
    rest = subst (λ (g : ℕ → List ℕ). from n (g e) ≡ n ∷ (if m == e then [] else from m (g e))) same_rings goes.rest

    looked_shows : (s : State P S H) → StandsFor old s → Shows (record now { events = x }) (looks_at f s (so_far.done ++ n ∷ []) s.control)
    looked_shows s st =
        let before = so_far.shows s st in
        events_show now x (looks_at f s so_far.done s.control) _ before (
        ap (λ (g : ℕ → Option Event). record s.control.events { events = g }) (one_more f s s.control.events.events so_far.done n)
        ∙ ap (with_event (looked_at f s n) n) before.events
        ∙ sym (looked s st).looked)

    holds_at : (s : State P S H) → StandsFor old s → comes f s n (s.control.events.events n) ≡ found_come
    unfolding each
    holds_at s st =
        sym (come_is f s (ring_holds n so_far.done) n (s.control.events.events n))
        ∙ ap (λ (y : Events). comes f s n (y.events n)) (so_far.shows s st).events
        ∙ sym (looked s st).comes

    looked_comes : (s : State P S H) → StandsFor old s → (found_come || come) ≡ list_any (λ y. comes f s y (s.control.events.events y)) (so_far.done ++ n ∷ [])
    looked_comes s st =
        or_turned found_come come
        ∙ ap₂ (λ (a b : Bool). a || b) (so_far.comes s st) (sym (holds_at s st))
        ∙ sym (any_more (λ y. comes f s y (s.control.events.events y)) so_far.done n)

    -- it was the last
    looked_all : m ≡ e → so_far.done ++ n ∷ [] ≡ ring
    looked_all last = sym (so_far.ring ∙ ap (λ (l : List ℕ). so_far.done ++ l) (rest ∙ rw (last, same_self e) refl))

    ring_of_control : (k : Control P S H) → Shows old k → m ≡ e → so_far.done ++ n ∷ [] ≡ k.events.rings e
    ring_of_control k sh last = looked_all last ∙ sym (ap (λ (y : Events). y.rings e) sh.events)

    pub all_shows : m ≡ e → (s : State P S H) → StandsFor old s → Shows (record now { events = x }) (looks_at f s (s.control.events.rings e) s.control)
    all_shows last s st = subst (λ (l : List ℕ). Shows (record now { events = x }) (looks_at f s l s.control)) (ring_of_control s.control st.control last) (looked_shows s st)

    pub all_comes : m ≡ e → (s : State P S H) → StandsFor old s → (found_come || come) ≡ list_any (λ y. comes f s y (s.control.events.events y)) (s.control.events.rings e)
    all_comes last s st = looked_comes s st ∙ ap (list_any (λ y. comes f s y (s.control.events.events y))) (ring_of_control s.control st.control last)

    -- another one comes next
    pub looked_next : m ≢ e → LookedSoFar f old (record now { events = x }) e m (found_come || come)
    looked_next more = record {
      done = so_far.done ++ n ∷ [];
      ring = so_far.ring ∙ ap (λ (l : List ℕ). so_far.done ++ l) (rest ∙ rw (not_same m e more) refl) ∙ sym (append_assoc so_far.done (n ∷ []) (from m ring));
      within = subst (λ (g : ℕ → List ℕ). StandsIn m (g e)) same_rings goes.within;
      shows = looked_shows;
      comes = looked_comes;
      rings = same_rings;
      numbers = places ∙ so_far.numbers;
      made = made ∙ so_far.made;
      same = ap (λ (w : WorldOf P S H). record w { events = x }) so_far.same;
    }
