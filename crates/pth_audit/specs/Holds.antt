-- What a judge of exclusive marks keeps of the marks that it has met: who awaits, who has levels of mutexes, and who holds locks.
use Rattle.std.specs.Prelude.{◌≡◌, ◌≢◌, ◌<◌, ◌^◌, ℕ, ◌+◌, ◌-◌, ◌==◌, ◌&&◌, ◌||◌, not, ℤ, pos, Bool, true, false, if◌then◌else◌, Option, Some, None, List}
use Rattle.std.specs.BTreeMap.{get}
use Rattle.std.specs.BTreeSet.{BTreeSet, contains}
use Rattle.std.specs.Ordering.{nat_cmp, int_cmp, ordering_then}
use Rattle.std.specs.declared.cmp.Ordering.{Ordering}
use Rattle.pth_base.specs.declared.act.Act.TheVariants as act
use Rattle.pth_base.specs.declared.answer.Answer.{Answer}
use Rattle.pth_base.specs.declared.call.Call.{Call}
use Rattle.pth_base.specs.declared.call.Call.TheVariants as call
use Rattle.pth_base.specs.declared.mark.Mark.{Mark}
use Rattle.pth_base.specs.declared.mark.Mark.TheVariants as mark
use Rattle.pth_audit.specs.Success.{is_one}
use Rattle.pth_audit.specs.declared.holds.Effect.{Effect}
use Rattle.pth_audit.specs.declared.holds.Effect.TheVariants as effect
use Rattle.pth_audit.specs.declared.holds.Holds.{Holds}
use Rattle.pth_audit.specs.declared.holds.Owner.{Owner}
use Rattle.pth_audit.specs.declared.holds.AwaitStep.{AwaitStep}
use Rattle.pth_audit.specs.declared.holds.AwaitStep.TheVariants as step
use Rattle.pth_laws.specs.Exclusive.{is_of, awaits, levels, writes, reads}

-- ---- what a mark does

-- an effect is done if a call is answered 1
abbrev pub if_one : Effect → Answer → Effect
if_one d a = if is_one a then d else effect.Nothing

-- what an answered call of u does, who may await
abbrev pub answered_effect : Bool → ℕ → Call → Answer → Effect
answered_effect awaiting u (call.MutexAcquire m v e) a = if_one (effect.Takes u m) a
answered_effect awaiting u (call.CondAwait c m e) a = if awaiting then effect.Takes u m else effect.Nothing
answered_effect awaiting u (call.MutexRelease m) a = if_one (effect.Gives u m) a
answered_effect awaiting u (call.RwAcquire l write v e) a = if_one (effect.Enters u l write) a
answered_effect awaiting u (call.RwRelease l) a = if_one (effect.Leaves u l) a
answered_effect awaiting u c a = effect.Nothing

-- what a call of u does as it begins to wait
abbrev pub waits_effect : Bool → ℕ → Call → Effect
waits_effect awaiting u (call.CondAwait c m e) = if awaiting then effect.Nothing else effect.Gives u m
waits_effect awaiting u c = effect.Nothing

-- what a mark does, by who awaits
abbrev pub effect_of : (ℕ → Bool) → Mark → Effect
effect_of awaiting (mark.Answered u c a) = answered_effect (awaiting u.0) u.0 c a
effect_of awaiting (mark.Waits u c) = waits_effect (awaiting u.0) u.0 c
effect_of awaiting (mark.Took u m) = effect.Takes u.0 (pos m)
effect_of awaiting (mark.Acted u (act.Release m) a) = if_one (effect.Gives u.0 m) a
effect_of awaiting (mark.GaveMutex u m) = effect.GivesUp u.0 (pos m)
effect_of awaiting (mark.GaveLock u l) = effect.Leaves u.0 (pos l)
effect_of awaiting (mark.Ended u v) = effect.Ends u.0
effect_of awaiting m = effect.Nothing

-- who begins or ceases to await at a mark
abbrev pub answered_step : ℕ → Call → AwaitStep
answered_step u (call.CondAwait c m e) = step.Ceases u
answered_step u c = step.Same

abbrev pub waits_step : ℕ → Call → AwaitStep
waits_step u (call.CondAwait c m e) = step.Begins u
waits_step u c = step.Same

abbrev pub step_of : Mark → AwaitStep
step_of (mark.Answered u c a) = answered_step u.0 c
step_of (mark.Waits u c) = waits_step u.0 c
step_of (mark.Took u m) = step.Ceases u.0
step_of (mark.Ended u v) = step.Ceases u.0
step_of m = step.Same

-- ---- what an effect is to a thread and an object

abbrev pub takes_by : Effect → ℕ → ℤ → Bool
takes_by (effect.Takes u m) t i = is_of t i u m
takes_by d t i = false

abbrev pub gives_by : Effect → ℕ → ℤ → Bool
gives_by (effect.Gives u m) t i = is_of t i u m
gives_by d t i = false

abbrev pub gives_up_by : Effect → ℕ → ℤ → Bool
gives_up_by (effect.GivesUp u m) t i = is_of t i u m
gives_up_by d t i = false

abbrev pub enters_by : Effect → ℕ → ℤ → Bool → Bool
enters_by (effect.Enters u l true) t k write = write && is_of t k u l
enters_by (effect.Enters u l false) t k write = not write && is_of t k u l
enters_by d t k write = false

abbrev pub leaves_by : Effect → ℕ → ℤ → Bool
leaves_by (effect.Leaves u l) t k = is_of t k u l
leaves_by d t k = false

abbrev pub levels_by : Effect → ℕ → ℤ → ℕ → ℕ
levels_by d t i n =
    if gives_up_by d t i then 0 else (
    if takes_by d t i then n + 1 else (
    if gives_by d t i then n - 1 else
    n))

abbrev pub held_by : Effect → ℕ → ℤ → Bool → Bool → Bool
held_by d t l write held = if enters_by d t l write then true else (if leaves_by d t l then false else held)

abbrev pub awaits_by : AwaitStep → ℕ → Bool → Bool
awaits_by (step.Begins u) t awaiting = if u == t then true else awaiting
awaits_by (step.Ceases u) t awaiting = if u == t then false else awaiting
awaits_by step.Same t awaiting = awaiting

-- ---- what is kept

-- how many levels t has, by who has a mutex
abbrev pub levels_of : ℕ → Option Owner → ℕ
levels_of t None = 0
levels_of t (Some o) = if o.tid == t then o.levels else 0

-- t has a level
abbrev pub has_level : ℕ → Owner → Bool
has_level t o = (o.tid == t) && not (o.levels == 0)

-- t is the writer
abbrev pub is_writer : ℕ → Option ℕ → Bool
is_writer t None = false
is_writer t (Some u) = u == t

-- the order of readers, and whether t is one of a lock
abbrev pub by_lock : ℤ × ℕ → ℤ × ℕ → Ordering
by_lock x y = ordering_then (int_cmp x.0 y.0) (nat_cmp x.1 y.1)

abbrev pub reads_under : BTreeSet (ℤ × ℕ) → ℕ → ℤ → Bool
reads_under readers t l = contains by_lock readers (l, t)

abbrev pub has_levels : Holds → ℕ → ℤ → ℕ
has_levels h t i = levels_of t (get int_cmp h.owners i)

abbrev pub has_written : Holds → ℕ → ℤ → Bool
has_written h t l = is_writer t (get int_cmp h.writers l)

abbrev pub has_read : Holds → ℕ → ℤ → Bool
has_read h t l = reads_under h.readers t l

abbrev pub has_awaited : Holds → ℕ → Bool
has_awaited h t = contains nat_cmp h.awaiting t

-- these marks were met, and what they say of each thread is kept
pub record FollowsHolds (h : Holds) (marks : List Mark) : Type 0 where
  pub awaits : (t : ℕ) → has_awaited h t ≡ awaits t marks
  pub levels : (t : ℕ) (i : ℤ) → has_levels h t i ≡ levels t i marks
  pub writes : (t : ℕ) (l : ℤ) → has_written h t l ≡ writes t l marks
  pub reads : (t : ℕ) (l : ℤ) → has_read h t l ≡ reads t l marks

-- ---- what is lawful

-- a lock lets in who writes, or who reads
abbrev pub IsOpen : Holds → ℤ → Bool → Type 0
IsOpen h l true = ((u : ℕ) → has_written h u l ≡ false) × ((u : ℕ) → has_read h u l ≡ false)
IsOpen h l false = (u : ℕ) → has_written h u l ≡ false

-- a thread has no level of a mutex, and holds no lock
abbrev pub HasNothing : Holds → ℕ → Type 0
HasNothing h t = ((i : ℤ) → has_levels h t i ≡ 0) × ((l : ℤ) → (has_written h t l || has_read h t l) ≡ false)

-- an effect does what the law lets it do
abbrev pub IsFair : Holds → Effect → Type 0
IsFair h effect.Nothing = Unit {0}
IsFair h (effect.Takes t i) = (u : ℕ) → u ≢ t → has_levels h u i ≡ 0
IsFair h (effect.Gives t i) = 0 < has_levels h t i
IsFair h (effect.GivesUp t i) = 0 < has_levels h t i
IsFair h (effect.Enters t l write) = IsOpen h l write
IsFair h (effect.Leaves t l) = (has_written h t l || has_read h t l) ≡ true
IsFair h (effect.Ends t) = HasNothing h t

-- a count can have the level that an effect takes
abbrev pub IsCountable : Holds → Effect → Type 0
IsCountable h (effect.Takes t i) = has_levels h t i + 1 < 2 ^ 64
IsCountable h d = Unit {0}

-- what an effect leaves, if it was fair
pub record IsDone (old new : Holds) (d : Effect) : Type 0 where
  pub awaits : (t : ℕ) → has_awaited new t ≡ has_awaited old t
  pub levels : (t : ℕ) (i : ℤ) → has_levels new t i ≡ levels_by d t i (has_levels old t i)
  pub writes : (t : ℕ) (l : ℤ) → has_written new t l ≡ held_by d t l true (has_written old t l)
  pub reads : (t : ℕ) (l : ℤ) → has_read new t l ≡ held_by d t l false (has_read old t l)
