-- Attribute objects: what they have, and how the calls on them are answered (pth_attr_new, pth_attr_of, pth_attr_init, pth_attr_set,
-- pth_attr_get, pth_attr_destroy).
use Rattle.std.specs.Prelude.{◌≡◌, ℕ, ◌+◌, ◌==◌, ◌≤◌, ℤ, pos, neg_ℤ, ◌≤ℤ◌, Bool, true, false, not, ◌&&◌, if◌then◌else◌, codes, Option, Some, None, is_none, option_map, Result, Ok, Err}
use Rattle.std.specs.Option.{ok_or}
use Rattle.pth_base.specs.Limits.{IsGreatestPriority}
use Rattle.pth_base.specs.Table.{put}
use Rattle.pth_base.specs.Naming.{seen}
use Rattle.pth_base.specs.declared.attr.AttrField.{AttrField}
use Rattle.pth_base.specs.declared.attr.AttrField.TheVariants as field
use Rattle.pth_base.specs.declared.attr.AttrValue.{AttrValue}
use Rattle.pth_base.specs.declared.attr.AttrValue.TheVariants as value
use Rattle.pth_base.specs.declared.errno.Errno.{Errno}
use Rattle.pth_base.specs.declared.errno.Errno.TheVariants.{EAGAIN, EINVAL, EPERM, ESRCH}
use Rattle.pth_base.specs.declared.ids.AttrId.{AttrId}
use Rattle.pth_base.specs.declared.refusal.Refusal.{Refusal}
use Rattle.pth_base.specs.declared.refusal.Refusal.TheVariants.{Fail, OutOfMemory}
use Rattle.pth_base.specs.declared.thread.ThreadState.{ThreadState}
use Rattle.pth_base.specs.declared.thread.ThreadState.TheVariants as state
use Rattle.pth_numbered.specs.Numbered.{NumberedOf, number_known, thing_at}
use Rattle.pth_numbered.specs.Operands.{number, ◌is◌, ◌is_from◌to◌}
use Rattle.pth_threads.specs.Threads.{ThreadsOf, entry_at, slot_of, count, ChangesThread}
use Rattle.pth_threads.specs.declared.attribute.Attribute.{Attribute}
use Rattle.pth_threads.specs.declared.attribute.Attribute.TheVariants.{Free, Bound}
use Rattle.pth_threads.specs.declared.entry.Entry.{Entry}
use Rattle.pth_threads.specs.declared.entry.NewThread.{NewThread}
use Rattle.pth_threads.specs.declared.entry.Change.{Change}
use Rattle.pth_threads.specs.declared.entry.Change.TheVariants as change

-- ---- objects

-- the objects with their numbers, how many were ever made, and the greatest base priority that can be set
pub record AttrsOf : Type 0 where
  pub objects : NumberedOf Attribute
  pub top : ℕ

-- how many objects there may be at once
abbrev pub attribute_limit : ℕ
attribute_limit = 4096

-- the object with a number
abbrev pub object_of : AttrsOf → ℕ → Option Attribute
object_of x = seen None (slot_of x.objects) (thing_at x.objects)

-- the record of the thread with a number
abbrev pub known_of : ThreadsOf → ℕ → Option Entry
known_of x = seen None (slot_of x) (entry_at x)

-- the object is bound to a thread
abbrev pub is_bound : Option Attribute → Bool
is_bound (Some (Bound t)) = true
is_bound (Some (Free x)) = false
is_bound None = false

-- the object is bound to a thread that is in the system no longer
abbrev pub is_gone : (ℕ → Option Entry) → Option Attribute → Bool
is_gone known (Some (Bound t)) = is_none (known t.0)
is_gone known (Some (Free x)) = false
is_gone known None = false

-- there are as many objects as there may be, among so many that were ever made
abbrev pub is_full : (ℕ → Option Attribute) → ℕ → Bool
is_full objects made = number_known objects made == attribute_limit

-- ---- values

-- the values of a new object
abbrev pub first_values : NewThread
first_values = record { prio = pos 0; name = codes "unknown"; joinable = true; cancel = 1 }

-- what a thread would pass on to another
abbrev pub values_of : Entry → NewThread
values_of e = record { prio = e.prio; name = e.name; joinable = e.joinable; cancel = e.cancel }

-- the values of an object, where it has any
abbrev pub values_by : (ℕ → Option Entry) → Option Attribute → Option NewThread
values_by known (Some (Free x)) = Some x
values_by known (Some (Bound t)) = option_map values_of (known t.0)
values_by known None = None

-- 1 for what holds, and 0 for what doesn't
abbrev pub flag : Bool → ℤ
flag true = pos 1
flag false = pos 0

-- the number that stands for a state
abbrev pub state_number : ThreadState → ℤ
state_number state.New = pos 0
state_number state.Ready = pos 1
state_number state.Running = pos 2
state_number state.Waiting = pos 3
state_number state.Dead = pos 4

-- what a field of a thread says
abbrev pub field_of_thread : AttrField → Entry → AttrValue
field_of_thread field.Prio e = value.Prio e.prio
field_of_thread field.Name e = value.Name e.name
field_of_thread field.Joinable e = value.Joinable (flag e.joinable)
field_of_thread field.Cancel e = value.Cancel (pos e.cancel)
field_of_thread field.Dispatches e = value.Dispatches (pos e.dispatches)
field_of_thread field.State e = value.State (state_number e.state)
field_of_thread field.Bound e = value.Bound (flag true)

-- and of an object with values of its own
abbrev pub field_of_values : AttrField → NewThread → AttrValue
field_of_values field.Prio x = value.Prio x.prio
field_of_values field.Name x = value.Name x.name
field_of_values field.Joinable x = value.Joinable (flag x.joinable)
field_of_values field.Cancel x = value.Cancel (pos x.cancel)
field_of_values field.Dispatches x = value.Dispatches (pos 0)
field_of_values field.State x = value.State (pos 0)
field_of_values field.Bound x = value.Bound (flag false)

-- and of an object, where it has any
abbrev pub field_by : (ℕ → Option Entry) → AttrField → Option Attribute → Option AttrValue
field_by known f (Some (Free x)) = Some (field_of_values f x)
field_by known f (Some (Bound t)) = option_map (field_of_thread f) (known t.0)
field_by known f None = None

-- only a thread has dispatches and a state
abbrev pub is_of_thread : AttrField → Bool
is_of_thread field.Dispatches = true
is_of_thread field.State = true
is_of_thread field.Prio = false
is_of_thread field.Name = false
is_of_thread field.Joinable = false
is_of_thread field.Cancel = false
is_of_thread field.Bound = false

-- ---- values to be set

-- dispatches, a state and whether an object is bound can't be set
abbrev pub is_fixed : AttrValue → Bool
is_fixed (value.Dispatches n) = true
is_fixed (value.State n) = true
is_fixed (value.Bound n) = true
is_fixed (value.Prio n) = false
is_fixed (value.Name name) = false
is_fixed (value.Joinable n) = false
is_fixed (value.Cancel n) = false

-- the least base priority that can be set, where this is the greatest (PTH_PRIO_MIN, PTH_PRIO_MAX)
abbrev pub least_priority : ℕ → ℤ
least_priority top = neg_ℤ (pos top)

-- the values that a field takes, where this is the greatest base priority
abbrev pub is_in_range : ℕ → AttrValue → Bool
is_in_range top (value.Prio n) = n is_from least_priority top to pos top
is_in_range top (value.Name name) = true
is_in_range top (value.Joinable n) = n is_from pos 0 to pos 1
is_in_range top (value.Cancel n) = n is_from pos 1 to pos 4
is_in_range top (value.Dispatches n) = true
is_in_range top (value.State n) = true
is_in_range top (value.Bound n) = true

-- values with one of them set
abbrev pub with_value : AttrValue → NewThread → NewThread
with_value (value.Prio n) x = record x { prio = n }
with_value (value.Name name) x = record x { name = name }
with_value (value.Joinable n) x = record x { joinable = n is 1 }
with_value (value.Cancel n) x = record x { cancel = number n }
with_value (value.Dispatches n) x = x
with_value (value.State n) x = x
with_value (value.Bound n) x = x

-- the same for a thread: the change of its record
abbrev pub change_of : AttrValue → Option Change
change_of (value.Prio n) = Some (change.Prio n)
change_of (value.Name name) = Some (change.Name name)
change_of (value.Joinable n) = Some (change.Joinable (n is 1))
change_of (value.Cancel n) = Some (change.Cancel (number n))
change_of (value.Dispatches n) = None
change_of (value.State n) = None
change_of (value.Bound n) = None

-- a base priority that can be set
pub record IsSetPrio (top : ℕ) (prio : ℤ) : Type 0 where
  pub low : least_priority top ≤ℤ prio
  pub high : prio ≤ℤ pos top

-- a cancel state that can be set
pub record IsSetCancel (cancel : ℕ) : Type 0 where
  pub low : 1 ≤ cancel
  pub high : cancel ≤ 4

-- values that an object may have
pub record AreSet (top : ℕ) (x : NewThread) : Type 0 where
  pub prio : IsSetPrio top x.prio
  pub cancel : IsSetCancel x.cancel

-- a change that keeps the values of a thread so
abbrev pub KeepsSet : ℕ → Change → Type 0
KeepsSet top (change.Prio prio) = IsSetPrio top prio
KeepsSet top (change.Cancel cancel) = IsSetCancel cancel
KeepsSet top c = Unit {0}

-- ---- answers: the tests stand in order, and the first that holds is the answer

-- an object is made
abbrev pub create_answer : (ℕ → Option Attribute) → ℕ → Result ℕ Errno
create_answer objects made =
    if is_full objects made then Err EAGAIN else
    Ok (made + 1)

-- an object is made that is bound to a thread, if the thread is known
abbrev pub of_answer : Option Entry → (ℕ → Option Attribute) → ℕ → Result ℕ Errno
of_answer thread objects made =
    if is_none thread then Err ESRCH else
    create_answer objects made

-- an object has its first values again
abbrev pub init_answer : Option Attribute → Result (Unit {0}) Errno
init_answer o =
    if is_none o then Err EINVAL else
    if is_bound o then Err EPERM else
    Ok tt

-- a value is set, where this is the greatest base priority
abbrev pub set_answer : ℕ → (ℕ → Option Entry) → Option Attribute → AttrValue → Result (Unit {0}) Errno
set_answer top known o v =
    if is_none o then Err EINVAL else
    if is_gone known o then Err ESRCH else
    if is_fixed v then Err EPERM else
    if not (is_in_range top v) then Err EINVAL else
    Ok tt

-- a field is read
abbrev pub get_answer : (ℕ → Option Entry) → Option Attribute → AttrField → Result AttrValue Errno
get_answer known o f =
    if is_none o then Err EINVAL else
    if is_gone known o then Err ESRCH else
    if is_of_thread f && not (is_bound o) then Err EINVAL else
    ok_or (field_by known f o) ESRCH

-- an object is gone
abbrev pub destroy_answer : Option Attribute → Result (Unit {0}) Errno
destroy_answer o =
    if is_none o then Err EINVAL else
    Ok tt

-- the values for a new thread are read (pth_spawn)
abbrev pub values_answer : (ℕ → Option Entry) → Option Attribute → Result NewThread Errno
values_answer known o =
    if is_none o then Err EINVAL else
    if is_gone known o then Err ESRCH else
    ok_or (values_by known o) ESRCH

-- how a call that takes memory is answered: a refusal comes for certain, and else the number or want of memory
abbrev pub Answers : Result ℕ Errno → Result AttrId Refusal → Type 0
Answers (Err e) r = r ≡ Err (Fail e)
Answers (Ok n) (Ok a) = a.0 ≡ n
Answers (Ok n) (Err e) = e ≡ OutOfMemory

-- ---- changes

-- one more object, with the next number
pub record MakesObject (old new : AttrsOf) (x : Attribute) : Type 0 where
  pub objects : object_of new ≡ put (object_of old) (old.objects.made + 1) (Some x)
  pub made : new.objects.made ≡ old.objects.made + 1
  pub count : count new.objects ≡ count old.objects + 1
  pub top : new.top ≡ old.top

-- another object stands under a number
pub record Exchanges (old new : AttrsOf) (n : ℕ) (x : Attribute) : Type 0 where
  pub objects : object_of new ≡ put (object_of old) n (Some x)
  pub made : new.objects.made ≡ old.objects.made
  pub count : count new.objects ≡ count old.objects
  pub top : new.top ≡ old.top

-- an object is gone, and its number is not used again
pub record Drops (old new : AttrsOf) (n : ℕ) : Type 0 where
  pub objects : object_of new ≡ put (object_of old) n None
  pub made : new.objects.made ≡ old.objects.made
  pub count : count new.objects + 1 ≡ count old.objects
  pub top : new.top ≡ old.top

-- a value is set in the record of a thread
pub record SetsThread (top : ℕ) (old new : ThreadsOf) (t : ℕ) (v : AttrValue) : Type 0 where
  pub slot : ℕ
  pub change : Change
  pub found : slot_of old t ≡ Some slot
  pub meant : change_of v ≡ Some change
  pub keeps : KeepsSet top change
  pub changes : ChangesThread old new slot change

-- a value is set in an object, or in the thread to which it is bound
abbrev pub Sets : AttrsOf → AttrsOf → ThreadsOf → ThreadsOf → ℕ → AttrValue → Option Attribute → Type 0
Sets old new threads later n v (Some (Free x)) = Exchanges old new n (Free (with_value v x)) × (later ≡ threads)
Sets old new threads later n v (Some (Bound t)) = (new ≡ old) × SetsThread old.top threads later t.0 v
Sets old new threads later n v None = Unit {0}

-- an object with values of its own has such that it may have
abbrev pub MayStand : ℕ → Attribute → Type 0
MayStand top (Free x) = AreSet top x
MayStand top (Bound t) = Unit {0}

-- what holds of the objects at every moment, beside what holds of all that is numbered
pub record AreKept (x : AttrsOf) : Type 0 where
  pub limit : x.objects.limit ≡ attribute_limit
  pub allowed : (u : ℕ) (o : Attribute) → thing_at x.objects u ≡ Some o → MayStand x.top o
  pub range : IsGreatestPriority x.top
