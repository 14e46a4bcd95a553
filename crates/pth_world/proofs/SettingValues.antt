-- Changes of attribute objects, and values that are set through them.
use Rattle.std.proofs.Common.{◌≡◌, ◌∙◌, IsSome, ℕ, ◌+◌, ◌≤◌, ℤ, false, Option, Some, None, is_none, option_map, Result, Ok, Err, OnOk, refl, sym, ap, subst, arith}
use Rattle.std.proofs.lemmas.Int.{ints}
use Rattle.pth_base.specs.Table.{put}
use Rattle.pth_base.proofs.Namings.{seen_at}
use Rattle.pth_base.specs.declared.attr.AttrValue.{AttrValue}
use Rattle.pth_base.specs.declared.attr.AttrValue.TheVariants as value
use Rattle.pth_base.specs.declared.errno.Errno.{Errno}
use Rattle.pth_numbered.specs.Operands.{number, named}
use Rattle.pth_queue.specs.declared.queue.Queue.{Queue}
use Rattle.pth_threads.specs.Attributes.{AttrsOf, object_of, with_value, change_of, set_answer, Sets, KeepsSet}
use Rattle.pth_threads.specs.Threads.{ThreadsOf, slot_of, tid_at, entry_at, changed}
use Rattle.pth_threads.specs.declared.attribute.Attribute.{Attribute}
use Rattle.pth_threads.specs.declared.attribute.Attribute.TheVariants.{Free, Bound}
use Rattle.pth_threads.specs.declared.entry.Change.{Change}
use Rattle.pth_threads.specs.declared.entry.Change.TheVariants as change
use Rattle.pth_threads.specs.declared.entry.Entry.{Entry}
use Rattle.pth_model.specs.declared.blocked.Blocked.{Blocked}
use Rattle.pth_model.specs.AttributeHandling.{object, sets_value}
use Rattle.pth_model.specs.Changes.{sets}
use Rattle.pth_model.specs.State.{Control}
use Rattle.pth_world.specs.Frame.{Frame}
use Rattle.pth_world.specs.Numbering.{Thread, Object, Event, Port, Numbers, no_numbers, GivesAtMost}
use Rattle.pth_world.specs.Shows.{Shows, ShowsThreads}
use Rattle.pth_world.specs.Sound.{IsSound, IsKnown, IsAlive, IsPrio, KeepsPrio, lives}
use Rattle.pth_world.specs.Touches.{Touches, SameThreads, IsAside, view_changed}
use Rattle.pth_world.specs.WellFormed.{WellFormed, FitsEntry, Fits, View, view}
use Rattle.pth_world.specs.World.{WorldOf, ThreadsBySlot}
use Rattle.pth_world.proofs.Moves.{progress_whole}
use Rattle.pth_world.proofs.Showing.{of_threads, change_shows}
use Rattle.pth_world.proofs.Sound.{change_sound}
use Rattle.pth_world.proofs.Stores.{alive_known}
use Rattle.pth_world.proofs.Views.{change_touches}

-- ---- objects alone

module _ {P S H : Type 0} (w : WorldOf P S H) (y : AttrsOf) where
  pub objects_whole : y.top ≡ w.attributes.top → WellFormed w → WellFormed (record w { attributes = y })
  objects_whole same whole = record { sound = whole.sound; fits = whole.fits; runner = whole.runner; stored = whole.stored; top = same ∙ whole.top }

  pub objects_frame : (n : Numbers) → WellFormed w → y.top ≡ w.attributes.top → y.objects.made ≤ w.attributes.objects.made + n Object → Frame w (record w { attributes = y }) n w.scheduler.running false
  objects_frame n whole same few = record {
    whole = objects_whole same whole;
    runs = refl;
    made = elim [ Thread ↦ omega arith | Object ↦ few | Event ↦ omega arith | Port ↦ omega arith ];
    ranks = record { under = λ bound low h. h; fresh = omega arith };
    preferred = refl;
  }

-- ---- a value of a thread

is_aside : (d c : Change) → Some d ≡ Some c → IsAside d → IsAside c
is_aside d c same aside = let e : d ≡ c = cc in subst IsAside e aside

keeps_prio : (top : ℕ) → top ≤ 20 → (c : Change) → KeepsSet top c → KeepsPrio c
keeps_prio top most (change.Prio prio) set = record { low = (let h = set.low in omega (arith, ints)); high = (let h = set.high in omega (arith, ints)) }
keeps_prio top most (change.Name name) set = tt
keeps_prio top most (change.Joinable b) set = tt
keeps_prio top most (change.Cancel cancel) set = tt
keeps_prio top most (change.Request b) set = tt
keeps_prio top most (change.State s) set = tt
keeps_prio top most (change.Suspended b) set = tt
keeps_prio top most (change.Dispatches n) set = tt
keeps_prio top most (change.Value n) set = tt

-- the base priority of a record after such a change
set_prio : (c : Change) (e : Entry) → KeepsPrio c → IsPrio e.prio → IsPrio (changed c e).prio
unfolding changed
set_prio (change.Prio prio) e keeps has = keeps
set_prio (change.Name name) e keeps has = has
set_prio (change.Joinable b) e keeps has = has
set_prio (change.Cancel cancel) e keeps has = has
set_prio (change.Request b) e keeps has = has
set_prio (change.State s) e keeps has = has
set_prio (change.Suspended b) e keeps has = has
set_prio (change.Dispatches n) e keeps has = has
set_prio (change.Value n) e keeps has = has

-- such a field says nothing of where a thread stands, and whether it runs
aside_fits : (c : Change) → IsAside c → KeepsPrio c → (r : Option ℕ) (o : Option Entry) (p : Option Queue) (b : Option Blocked) → FitsEntry r o p b → FitsEntry r (option_map (changed c) o) p b
unfolding changed
aside_fits c aside keeps r None p b f = tt
aside_fits (change.State s) aside keeps r (Some e) p b f = absurd aside
aside_fits (change.Suspended x) aside keeps r (Some e) p b f = absurd aside
aside_fits c aside keeps r (Some e) p b f = record { prio = set_prio c e keeps f.prio; placed = f.placed; runs = f.runs; named = f.named; awake = f.awake; calls = f.calls }

-- nor whether it lives
aside_lives : (c : Change) → IsAside c → (o : Option Entry) → lives o ≡ lives (option_map (changed c) o)
unfolding changed
aside_lives c aside None = refl
aside_lives (change.State s) aside (Some e) = absurd aside
aside_lives c aside (Some e) = refl

-- a value that is set through an object is such a field
meant_aside : (v : AttrValue) (c : Change) → change_of v ≡ Some c → IsAside c
meant_aside (value.Prio n) c m = is_aside _ c m tt
meant_aside (value.Name n) c m = is_aside _ c m tt
meant_aside (value.Joinable n) c m = is_aside _ c m tt
meant_aside (value.Cancel n) c m = is_aside _ c m tt
meant_aside v c m = absurd (cc m)

-- ---- one such field

module _ {P S H : Type 0} (w : WorldOf P S H) (r : ThreadsOf) where
  abbrev with_records : WorldOf P S H
  with_records = record w { threads = record w.threads { records = r } }

  field_whole : (t u : ℕ) (c : Change) → IsAside c → KeepsPrio c → WellFormed w → slot_of w.threads.records t ≡ Some u → Touches w.threads with_records.threads t (view_changed c) → IsSound with_records.threads → slot_of r ≡ slot_of w.threads.records → WellFormed with_records
  field_whole t u c aside keeps whole at touches sound slots =
      progress_whole w with_records t u (view_changed c) whole at touches sound slots refl refl refl
      (λ q f. aside_fits c aside keeps q (view w.threads u).entry (view w.threads u).place (view w.threads u).blocked f)
      (λ dead. aside_lives c aside (view w.threads u).entry ∙ dead)

  pub field_frame : (t u : ℕ) (c : Change) → IsAside c → KeepsPrio c → WellFormed w → slot_of w.threads.records t ≡ Some u → Touches w.threads with_records.threads t (view_changed c) → IsSound with_records.threads → SameThreads w.threads with_records.threads → Frame w with_records no_numbers w.scheduler.running false
  field_frame t u c aside keeps whole at touches sound same = record {
    whole = field_whole t u c aside keeps whole at touches sound same.slots;
    runs = refl;
    made = elim [ Thread ↦ (let e = same.made in omega arith) | Object ↦ omega arith | Event ↦ omega arith | Port ↦ omega arith ];
    ranks = record { under = λ bound low h. h; fresh = omega arith };
    preferred = refl;
  }

-- a field of a thread in the system was set
pub known_frame : {P S H : Type 0} (w v : WorldOf P S H) (t : ℕ) (c : Change) → IsAside c → KeepsPrio c → WellFormed w → IsKnown w.threads t → Touches w.threads v.threads t (view_changed c) → IsSound v.threads → SameThreads w.threads v.threads → v ≡ record w { threads = record w.threads { records = v.threads.records } } → Frame w v no_numbers w.scheduler.running false
known_frame {P = P} {S = S} {H = H} w v t c aside keeps whole known touches sound same is = by_slot (slot_of w.threads.records t) refl known
  where
    threads : v.threads ≡ record w.threads { records = v.threads.records }
    threads = ap (λ (x : WorldOf P S H). x.threads) is

    by_slot : (o : Option ℕ) → slot_of w.threads.records t ≡ o → IsSome o → Frame w v no_numbers w.scheduler.running false
    by_slot None none some = absurd (cc some)
    by_slot (Some u) at some = subst (λ (x : WorldOf P S H). Frame w x no_numbers w.scheduler.running false) (sym is) (field_frame w v.threads.records t u c aside keeps whole at (subst (λ x. Touches w.threads x t (view_changed c)) threads touches) (subst IsSound threads sound) (subst (SameThreads w.threads) threads same))

-- ---- a value of an object, or of its thread

-- threads keep their slots
pub set_slots : (x y : AttrsOf) (q r : ThreadsOf) (n : ℕ) (v : AttrValue) (o : Option Attribute) → is_none o ≡ false → Sets x y q r n v o → slot_of r ≡ slot_of q
set_slots x y q r n v None some s = absurd (cc some)
set_slots x y q r n v (Some (Free z)) some s = ap (λ (z : ThreadsOf). slot_of z) s.1
set_slots x y q r n v (Some (Bound t)) some s = s.1.changes.slots

pub set_tids : (x y : AttrsOf) (q r : ThreadsOf) (n : ℕ) (v : AttrValue) (o : Option Attribute) → is_none o ≡ false → Sets x y q r n v o → tid_at r ≡ tid_at q
set_tids x y q r n v None some s = absurd (cc some)
set_tids x y q r n v (Some (Free z)) some s = ap (λ (z : ThreadsOf). tid_at z) s.1
set_tids x y q r n v (Some (Bound t)) some s = s.1.changes.tids

module _ {P S H : Type 0} (w : WorldOf P S H) (x : AttrsOf) (r : ThreadsOf) (a : ℤ) (v : AttrValue) where
  abbrev after : WorldOf P S H
  after = record w { threads = record w.threads { records = r }; attributes = x }

  shows_by : (o : Option Attribute) → is_none o ≡ false → Sets w.attributes x w.threads.records r (number a) v o → IsSound w.threads → (k : Control P S H) → Shows w k → Shows after (sets_value a v o k)
  unfolding sets
  shows_by None some s sound k sh = absurd (cc some)
  shows_by (Some (Free y)) some s sound k sh = record {
    program = sh.program;
    shared = sh.shared;
    threads = subst (λ (z : ThreadsOf). ShowsThreads k.top (record w.threads { records = z }) k.threads) (sym s.1) sh.threads;
    attributes = record {
      made = sh.attributes.made ∙ sym s.0.made;
      objects = ap (λ (f : ℕ → Option Attribute). put f (number a) (Some (Free (with_value v y)))) sh.attributes.objects ∙ sym s.0.objects;
    };
    events = sh.events;
    conditions = sh.conditions;
    barriers = sh.barriers;
    kernel = sh.kernel;
    used = sh.used;
    scheduler = sh.scheduler;
  }
  shows_by (Some (Bound t)) some s sound k sh =
      let set = s.1 in
      let threads = change_shows w.threads k t.0 set.slot sound set.found sh.threads r set.change set.changes in
      rw (s.0, set.meant) (of_threads w (record w.threads { records = r }) k _ sh threads)

  pub set_shows : (o : Option Attribute) → named (object_of w.attributes) a ≡ o → is_none o ≡ false → Sets w.attributes x w.threads.records r (number a) v o → IsSound w.threads → (k : Control P S H) → Shows w k → Shows after (sets_value a v (object k a) k)
  set_shows o is some s sound k sh =
      let e : object k a ≡ o = ap (λ (f : ℕ → Option Attribute). named f a) sh.attributes.objects ∙ is in
      subst (λ (p : Option Attribute). Shows after (sets_value a v p k)) (sym e) (shows_by o some s sound k sh)

  set_numbers : (o : Option Attribute) → is_none o ≡ false → Sets w.attributes x w.threads.records r (number a) v o → GivesAtMost no_numbers w after
  set_numbers None some s = absurd (cc some)
  set_numbers (Some (Free y)) some s = elim [
    | Thread ↦ (let e : r.made ≡ w.threads.records.made = ap (λ (z : ThreadsOf). z.made) s.1 in omega arith)
    | Object ↦ (let e = s.0.made in omega arith)
    | Event ↦ omega arith
    | Port ↦ omega arith
  ]
  set_numbers (Some (Bound t)) some s = elim [
    | Thread ↦ (let e = s.1.changes.made in omega arith)
    | Object ↦ (let e : x.objects.made ≡ w.attributes.objects.made = ap (λ (z : AttrsOf). z.objects.made) s.0 in omega arith)
    | Event ↦ omega arith
    | Port ↦ omega arith
  ]

  set_whole : (o : Option Attribute) → is_none o ≡ false → Sets w.attributes x w.threads.records r (number a) v o → WellFormed w → WellFormed after
  set_whole None some s whole = absurd (cc some)
  set_whole (Some (Free y)) some s whole = rw s.1 (objects_whole w x s.0.top whole)
  set_whole (Some (Bound t)) some s whole =
      let set = s.1 in
      let sound = change_sound w.threads whole.sound t.0 set.slot set.found r set.change set.changes in
      let keeps = keeps_prio w.attributes.top (subst (λ (n : ℕ). n ≤ 20) (sym whole.top) whole.sound.orderly.range.1) set.change set.keeps in
      let fits = λ (q : Option ℕ) (f : Fits q (view w.threads set.slot)). aside_fits set.change (meant_aside v set.change set.meant) keeps q (view w.threads set.slot).entry (view w.threads set.slot).place (view w.threads set.slot).blocked f in
      progress_whole w after t.0 set.slot (view_changed set.change) whole set.found (change_touches w.threads whole.sound t.0 set.slot set.found r set.change set.changes) sound set.changes.slots refl refl s.0 fits (λ dead. aside_lives set.change (meant_aside v set.change set.meant) (view w.threads set.slot).entry ∙ dead)

  pub set_frame : (o : Option Attribute) → is_none o ≡ false → Sets w.attributes x w.threads.records r (number a) v o → WellFormed w → Frame w after no_numbers w.scheduler.running false
  set_frame o some s whole = record {
    whole = set_whole o some s whole;
    runs = refl;
    made = set_numbers o some s;
    ranks = record { under = λ bound low h. h; fresh = omega arith };
    preferred = refl;
  }

-- where a value was set, there is the object
some_set : (top : ℕ) (known : ℕ → Option Entry) (o : Option Attribute) (v : AttrValue) (u : Unit {0}) → Ok u ≡ set_answer top known o v → is_none o ≡ false
some_set top known None v u h = absurd (cc h)
some_set top known (Some x) v u h = refl

pub where_set : {X Q : Type 0} (result : Result (Unit {0}) Errno) (top : ℕ) (known : ℕ → Option Entry) (o : Option Attribute) (v : AttrValue) → result ≡ set_answer top known o v → OnOk result X → (is_none o ≡ false → X → Q) → OnOk result Q
where_set (Ok u) top known o v is x f = f (some_set top known o v u is) x
where_set (Err e) top known o v is x f = tt

-- and it lives where it did
pub field_alive : {S : Type 0} (x y : ThreadsBySlot S) (t : ℕ) (c : Change) → IsAside c → Touches x y t (view_changed c) → slot_of y.records ≡ slot_of x.records → IsAlive x t → IsAlive y t
field_alive x y t c aside touches same alive = by_slot (slot_of x.records t) refl
  where
    by_slot : (o : Option ℕ) → slot_of x.records t ≡ o → IsAlive y t
    by_slot None none = let some = subst IsSome none (alive_known x t alive) in absurd (cc some)
    by_slot (Some u) at =
        let was = seen_at None (slot_of x.records) (entry_at x.records) t u at in
        let now = seen_at None (slot_of y.records) (entry_at y.records) t u (ap (λ (f : ℕ → Option ℕ). f t) same ∙ at) in
        ap lives now ∙ ap (λ (v : View). lives v.entry) (touches.own u at) ∙ sym (aside_lives c aside (entry_at x.records u)) ∙ sym (ap lives was) ∙ alive
