-- Base priorities are kept in their range.
use Rattle.std.proofs.Common.{◌≡◌, ℕ, ◌+◌, ◌==◌, Bool, true, false, if◌then◌else◌, ℤ, pos, negsuc, Option, Some, None, is_none, option_map, ok_or, refl, subst, Ok, Err, arith}
use Rattle.std.proofs.lemmas.Int.{ints}
use Rattle.pth_base.specs.Program.{Functions}
use Rattle.pth_base.specs.declared.attr.AttrValue.{AttrValue}
use Rattle.pth_base.specs.declared.attr.AttrValue.TheVariants as value
use Rattle.pth_base.specs.declared.errno.Errno.TheVariants.{ESRCH}
use Rattle.pth_base.proofs.Tables.{put_by}
use Rattle.pth_cond.specs.Conditions.{seat_entered}
use Rattle.pth_model.specs.Conditions.{seat_of}
use Rattle.pth_cond.specs.Barriers.{barrier_reached}
use Rattle.pth_numbered.specs.Operands.{number, named, is_zero}
use Rattle.pth_threads.specs.Attributes.{IsSetPrio, first_values, with_value, is_in_range, values_of, values_answer}
use Rattle.pth_threads.specs.Threads.{changed, made_of}
use Rattle.pth_threads.specs.declared.attribute.Attribute.{Attribute}
use Rattle.pth_threads.specs.declared.attribute.Attribute.TheVariants.{Free, Bound}
use Rattle.pth_threads.specs.declared.entry.Change as change_of_record
use Rattle.pth_threads.specs.declared.entry.Change.TheVariants as change
use Rattle.pth_threads.specs.declared.entry.Entry.{Entry}
use Rattle.pth_threads.specs.declared.entry.NewThread.{NewThread}
use Rattle.pth_model.specs.declared.progress.Progress.{Progress}
use Rattle.pth_model.specs.State.{State, Control, Given, start, main, main_entry}
use Rattle.pth_model.specs.Transition.{controlled}
use Rattle.pth_model.specs.Changes.{sets, goes_on, is_blocked_by, makes, forgets, adds_object, puts_object, with_conditions, with_barriers, blocked_of, or_nobody, entry_of}
use Rattle.pth_model.specs.RingWaits.{claims, extra_ring, gives_back, ring_given, ring_held, stops_waiting}
use Rattle.pth_model.specs.ThreadControl.{values_for, or_first, child_of}
use Rattle.pth_model.specs.LibraryControl.{vanish_all_but}
use Rattle.pth_model.specs.Kill.{only_at}
use Rattle.pth_model.specs.Pass.{looks}
use Rattle.pth_model.specs.Run.{run}
use Rattle.pth_laws.specs.Priorities.{HasBasePriorities}
use Rattle.pth_laws.proofs.Along.{KeptAlong, IsPrioSafe, prio_in_range, run_keeps}

abbrev InEntry : ℕ → Option Entry → Type 0
InEntry top None = Unit {0}
InEntry top (Some e) = IsSetPrio top e.prio

abbrev InObject : ℕ → Option Attribute → Type 0
InObject top None = Unit {0}
InObject top (Some (Free x)) = IsSetPrio top x.prio
InObject top (Some (Bound t)) = Unit {0}

-- of all threads, and of all objects
abbrev AreIn : ℕ → (ℕ → Option Entry) → (ℕ → Option Attribute) → Type 0
AreIn top known objects = ((t : ℕ) → InEntry top (known t)) × ((n : ℕ) → InObject top (objects n))

first_in : (top : ℕ) → IsSetPrio top (pos 0)
first_in top = record { low = grind (arith, ints); high = grind (arith, ints) }

set_in : (top : ℕ) (c : change_of_record.Change) (o : Option Entry) → IsPrioSafe top c → InEntry top o → InEntry top (option_map (changed c) o)
unfolding changed
set_in top c None safe r = tt
set_in top (change.Prio prio) (Some e) safe r = safe
set_in top c (Some e) safe r = r

or_nobody_in : (top : ℕ) (o : Option Entry) → InEntry top o → IsSetPrio top (or_nobody o).prio
or_nobody_in top None r = first_in top
or_nobody_in top (Some e) r = r

with_value_in : (top : ℕ) (v : AttrValue) (x : NewThread) → is_in_range top v ≡ true → IsSetPrio top x.prio → IsSetPrio top (with_value v x).prio
with_value_in top (value.Prio n) x inside r = prio_in_range top n inside
with_value_in top v x inside r = r

only_in : (top : ℕ) (t u : ℕ) (known : ℕ → Option Entry) → InEntry top (known u) → InEntry top (only_at t known u)
only_in top t u known r = by_number (u == t)
  where
    by_number : (b : Bool) → InEntry top (if b then known u else None)
    by_number true = r
    by_number false = tt

-- the values of an object, if it is there
answer_in : (top : ℕ) (known : ℕ → Option Entry) (objects : ℕ → Option Attribute) (o : Option Attribute) → ((t : ℕ) → InEntry top (known t)) → InObject top o → IsSetPrio top (or_first (values_answer known o)).prio
answer_in top known objects None all r = first_in top
answer_in top known objects (Some (Free x)) all r = r
answer_in top known objects (Some (Bound t)) all r = by_entry (known t.0) (all t.0)
  where
    by_entry : (e : Option Entry) → InEntry top e → IsSetPrio top (or_first (if is_none e then Err ESRCH else ok_or (option_map values_of e) ESRCH)).prio
    by_entry None r = first_in top
    by_entry (Some e) r = r

named_in : (top : ℕ) (objects : ℕ → Option Attribute) (a : ℤ) → ((n : ℕ) → InObject top (objects n)) → InObject top (named objects a)
named_in top objects (pos n) all = all n
named_in top objects (negsuc n) all = tt

module _ {P S H : Type 0} where
  abbrev Ranged : State P S H → Type 0
  Ranged s = AreIn s.control.top s.control.threads.known s.control.attributes.objects

  -- what a new thread is given
  values_in : (t : ℕ) (a : ℤ) (s : State P S H) → Ranged s → IsSetPrio s.control.top (or_first (values_for s.control t a)).prio
  values_in t a s r = by_zero (is_zero a)
    where
      k : Control P S H
      k = s.control

      by_zero : (b : Bool) → IsSetPrio s.control.top (or_first (if b then Ok (child_of (or_nobody (entry_of k t))) else values_answer k.threads.known (named k.attributes.objects a))).prio
      by_zero true = or_nobody_in k.top (entry_of k t) (r.0 t)
      by_zero false = answer_in k.top k.threads.known k.attributes.objects (named k.attributes.objects a) r.0 (named_in k.top k.attributes.objects a r.1)

  ranged_set : (t : ℕ) (c : change_of_record.Change) (s : State P S H) → IsPrioSafe s.control.top c → Ranged s → Ranged (controlled (sets t c) s)
  unfolding sets
  ranged_set t c s safe r = (λ u. put_by (InEntry s.control.top) s.control.threads.known t (option_map (changed c) (s.control.threads.known t)) u (λ here. set_in s.control.top c (s.control.threads.known t) safe (r.0 t)) (λ other. r.0 u), r.1)

  ranged_made : (f : P → Functions S H) (t b : ℕ) (v a : ℤ) (s : State P S H) → Ranged s → Ranged (controlled (makes f b v (or_first (values_for s.control t a))) s)
  unfolding makes made_of
  ranged_made f t b v a s r = (λ u. put_by (InEntry s.control.top) s.control.threads.known (s.control.threads.made + 1) _ u (λ here. values_in t a s r) (λ other. r.0 u), r.1)

  ranged_forgotten : (t : ℕ) (s : State P S H) → Ranged s → Ranged (controlled (forgets t) s)
  unfolding forgets
  ranged_forgotten t s r = (λ u. put_by (InEntry s.control.top) s.control.threads.known t None u (λ here. tt) (λ other. r.0 u), r.1)

  ranged_vanished : (t : ℕ) (s : State P S H) → Ranged s → Ranged (controlled (vanish_all_but t) s)
  unfolding vanish_all_but
  ranged_vanished t s r = (λ u. only_in s.control.top t u s.control.threads.known (r.0 u), r.1)

  -- an object changes, or there is one more, or one less
  ranged_put : (n : ℕ) (o : Option Attribute) (s : State P S H) → InObject s.control.top o → Ranged s → Ranged (controlled (puts_object n o) s)
  ranged_put n o s inside r = (r.0, λ i. put_by (InObject s.control.top) s.control.attributes.objects n o i (λ here. inside) (λ other. r.1 i))

  ranged_added : (x : Attribute) (s : State P S H) → InObject s.control.top (Some x) → Ranged s → Ranged (controlled (adds_object x) s)
  ranged_added x s inside r = (r.0, λ i. put_by (InObject s.control.top) s.control.attributes.objects (s.control.attributes.made + 1) (Some x) i (λ here. inside) (λ other. r.1 i))

  ranged_goes : (t : ℕ) (g : Progress S → Progress S) (s : State P S H) → Ranged s → Ranged (controlled (goes_on t g) s)
  unfolding goes_on
  ranged_goes t g s r = r

  ranged_looked : (f : P → Functions S H) (s : State P S H) → Ranged s → Ranged (controlled (looks f s) s)
  unfolding looks
  ranged_looked f s r = r

  ranged_claimed : (t : ℕ) (e : Option ℤ) (s : State P S H) → Ranged s → Ranged (controlled (claims t e) s)
  unfolding claims
  ranged_claimed t None s r = r
  ranged_claimed t (Some e) s r = r

  ranged_returned : (e : Option ℤ) (s : State P S H) → Ranged s → Ranged (controlled (gives_back e) s)
  unfolding gives_back
  ranged_returned None s r = r
  ranged_returned (Some e) s r = r

  ranged_stopped : (t : ℕ) (s : State P S H) → Ranged s → Ranged (controlled (stops_waiting t) s)
  unfolding stops_waiting
  ranged_stopped t s r = ranged_returned (ring_held (blocked_of s.control t)) (controlled (is_blocked_by t None) s) (ranged_goes t _ s r)

  ranged_kept : (f : P → Functions S H) → KeptAlong f Ranged
  ranged_kept f = record {
    handlers = record {
      shared = λ h s r. r;
      seated = λ x s fewer r. r;
      told = λ m s may r. r;
    };
    placed = λ standing entries raises trail s r. r;
    scheduled = λ x s r. r;
    timed = λ x s r. r;
    used = λ o s r. r;
    set = λ t c s safe life r. ranged_set t c s safe r;
    made = λ t b v a s next r. ranged_made f t b v a s r;
    forgotten = λ t s gone r. ranged_forgotten t s r;
    vanished = λ t s free r. ranged_vanished t s r;
    added = λ s r. ranged_added (Free first_values) s (first_in s.control.top) r;
    bound = λ t s r. ranged_added (Bound t) s tt r;
    renewed = λ n s r. ranged_put n (Some (Free first_values)) s (first_in s.control.top) r;
    valued = λ a v x s there inside r. ranged_put (number a) (Some (Free (with_value v x))) s (with_value_in s.control.top v x inside (subst (InObject s.control.top) there (named_in s.control.top s.control.attributes.objects a r.1))) r;
    destroyed = λ n s r. ranged_put n None s tt r;
    arranges = λ x s may r. r;
    looked = λ s r. ranged_looked f s r;
    barred = λ x s fewer all r. r;
    reached = λ t b round s free alive there waits r. ranged_goes t _ (controlled (with_barriers (barrier_reached b t)) s) r;
    goes = λ t g s same r. ranged_goes t g s r;
    blocked = λ t c a s free here other none may r. ranged_goes t _ (controlled (claims t (ring_given c)) s) (ranged_claimed t (ring_given c) s r);
    waits_on = λ t a b s at names stays other plain r. ranged_goes t _ s r;
    stopped = λ t x y s fewer others seats left gone r. ranged_stopped t (controlled (λ k. with_conditions (λ z. y) (with_barriers (λ z. x) k)) s) r;
    takes_seat = λ t c m e s free alive there may r. ranged_goes t _ (controlled (claims t (extra_ring e)) (controlled (with_conditions (seat_entered c (seat_of t))) s)) (ranged_claimed t (extra_ring e) (controlled (with_conditions (seat_entered c (seat_of t))) s) r);
    retakes = λ t c m e a o y s fewer gone at r. ranged_goes t _ (controlled (stops_waiting t) (controlled (with_conditions (λ z. y)) s)) (ranged_stopped t (controlled (with_conditions (λ z. y)) s) r);
  }

  ranged_start : (f : P → Functions S H) (g : Given P) → Ranged (start f g)
  unfolding start
  ranged_start f g = (λ t. put_by (InEntry g.top) (λ u. None) main (Some main_entry) t (λ here. first_in g.top) (λ other. tt), λ n. tt)

  -- no change is one of the greatest base priority
  abbrev HasTop : ℕ → State P S H → Type 0
  HasTop top s = s.control.top ≡ top

  top_claimed : (top t : ℕ) (e : Option ℤ) (s : State P S H) → HasTop top s → HasTop top (controlled (claims t e) s)
  unfolding claims
  top_claimed top t None s r = r
  top_claimed top t (Some e) s r = r

  top_stopped : (top t : ℕ) (s : State P S H) → HasTop top s → HasTop top (controlled (stops_waiting t) s)
  unfolding stops_waiting goes_on gives_back
  top_stopped top t s r = by_ring (ring_held (blocked_of s.control t))
    where
      by_ring : (e : Option ℤ) → HasTop top (controlled (gives_back e) (controlled (is_blocked_by t None) s))
      by_ring None = r
      by_ring (Some e) = r

  top_kept : (f : P → Functions S H) (top : ℕ) → KeptAlong f (HasTop top)
  unfolding sets makes forgets vanish_all_but goes_on looks
  top_kept f top = record {
    handlers = record {
      shared = λ h s r. r;
      seated = λ x s fewer r. r;
      told = λ m s may r. r;
    };
    placed = λ standing entries raises trail s r. r;
    scheduled = λ x s r. r;
    timed = λ x s r. r;
    used = λ o s r. r;
    set = λ t c s safe life r. r;
    made = λ t b v a s next r. r;
    forgotten = λ t s gone r. r;
    vanished = λ t s free r. r;
    added = λ s r. r;
    bound = λ t s r. r;
    renewed = λ n s r. r;
    valued = λ a v x s there inside r. r;
    destroyed = λ n s r. r;
    arranges = λ x s may r. r;
    looked = λ s r. r;
    barred = λ x s fewer all r. r;
    reached = λ t b round s free alive there waits r. r;
    goes = λ t g s same r. r;
    blocked = λ t c a s free here other none may r. top_claimed top t (ring_given c) s r;
    waits_on = λ t a b s at names stays other plain r. r;
    stopped = λ t x y s fewer others seats left gone r. top_stopped top t (controlled (λ k. with_conditions (λ z. y) (with_barriers (λ z. x) k)) s) r;
    takes_seat = λ t c m e s free alive there may r. top_claimed top t (extra_ring e) (controlled (with_conditions (seat_entered c (seat_of t))) s) r;
    retakes = λ t c m e a o y s fewer gone at r. top_stopped top t (controlled (with_conditions (λ z. y)) s) r;
  }

  top_start : (f : P → Functions S H) (g : Given P) → HasTop g.top (start f g)
  unfolding start
  top_start f g = refl

  pub run_top : (f : P → Functions S H) (g : Given P) (i : ℕ) → (run f g i).state.control.top ≡ g.top
  run_top f g i = run_keeps f (HasTop g.top) (top_kept f g.top) g (top_start f g) i

  pub run_ranged : (f : P → Functions S H) (g : Given P) (i : ℕ) → HasBasePriorities g.top (run f g i).state
  run_ranged f g i =
      let at = (run f g i).state.control in
      let r = subst (λ top. AreIn top at.threads.known at.attributes.objects) (run_top f g i) (run_keeps f Ranged (ranged_kept f) g (ranged_start f g) i) in
      record { threads = λ t e h. subst (InEntry g.top) h (r.0 t); objects = λ n x h. subst (InObject g.top) h (r.1 n) }
