-- What a change of what is numbered makes of the threads.
use Rattle.std.proofs.Common.{◌≡◌, ◌≢◌, ℕ, ◌+◌, ◌<◌, ◌≤◌, Option, Some, None, IfSome, refl, sym, ◌∙◌, ap, subst, arith}
use Rattle.pth_base.specs.Limits.{thread_limit, last_count}
use Rattle.pth_base.specs.Table.{put}
use Rattle.pth_base.specs.Naming.{IsTied}
use Rattle.pth_base.specs.declared.ids.Slot.{Slot}
use Rattle.pth_base.proofs.Tables.{put_by}
use Rattle.pth_base.proofs.Lists.{ap_put, put_none}
use Rattle.pth_numbered.specs.Numbered as numbered
use Rattle.pth_numbered.specs.Numbered.{thing_at, number_at}
use Rattle.pth_threads.specs.Threads.{ThreadsOf, entry_at, tid_at, tid_of, slot_of, changed, made_of, IsCountable, AreThreadsKept, AddsThread, ChangesThread, RemovesThread}
use Rattle.pth_threads.specs.declared.entry.Entry.{Entry}
use Rattle.pth_threads.specs.declared.entry.NewThread.{NewThread}
use Rattle.pth_threads.specs.declared.entry.Change.{Change}
use Rattle.pth_threads.specs.declared.entry.Change.TheVariants as change

-- ---- names

-- a slot in use is in use by either word
pub in_use : (x : ThreadsOf) (u : ℕ) → AreThreadsKept x → tid_at x u ≢ 0 → number_at x u ≢ 0
in_use x u kept used = subst (λ (f : ℕ → ℕ). f u ≢ 0) (sym kept.named) used

pub tied : (x : ThreadsOf) → AreThreadsKept x → numbered.IsKept x → IsTied (slot_of x) (tid_at x)
tied x kept law = subst (λ (f : ℕ → ℕ). IsTied (slot_of x) f) kept.named law.tied

pub empty : (x : ThreadsOf) → AreThreadsKept x → numbered.IsKept x → (u : ℕ) → tid_at x u ≡ 0 → entry_at x u ≡ None
unfolding entry_at
empty x kept law u zero = law.empty u (ap (λ (f : ℕ → ℕ). f u) kept.named ∙ zero)

pub named : (x : ThreadsOf) (t : ℕ) (o : Option Slot) → AreThreadsKept x → IfSome o (λ s. number_at x s.0 ≡ t) → IfSome o (λ s. tid_at x s.0 ≡ t)
named x t (Some s) kept h = sym (ap (λ (f : ℕ → ℕ). f s.0) kept.named) ∙ h
named x t None kept h = tt

pub used : (x : ThreadsOf) (o : Option Slot) → AreThreadsKept x → IfSome o (λ s. number_at x s.0 ≢ 0) → IfSome o (λ s. tid_at x s.0 ≢ 0)
used x (Some s) kept h = λ zero. h (ap (λ (f : ℕ → ℕ). f s.0) kept.named ∙ zero)
used x None kept h = tt

-- the record that is read at a slot, and its number
pub entry_is : (x : ThreadsOf) (u : ℕ) (e : Entry) → thing_at x u ≡ Some e → entry_at x u ≡ Some e
unfolding entry_at
entry_is x u e h = h

pub tid_is : (x : ThreadsOf) (u : ℕ) (e : Entry) → thing_at x u ≡ Some e → tid_at x u ≡ e.tid.0
unfolding tid_at entry_at
tid_is x u e h = ap tid_of h

-- ---- what a write makes of the tables

abbrev tids_of : (ℕ → Option Entry) → ℕ → ℕ
tids_of f i = tid_of (f i)

entries_put : (x y : ThreadsOf) (u : ℕ) (o : Option Entry) → thing_at y ≡ put (thing_at x) u o → entry_at y ≡ put (entry_at x) u o
unfolding entry_at
entries_put x y u o e = e

tids_put : (x y : ThreadsOf) (u : ℕ) (o : Option Entry) → entry_at y ≡ put (entry_at x) u o → tid_at y ≡ put (tid_at x) u (tid_of o)
unfolding tid_at
tids_put x y u o e = ap tids_of e ∙ ap_put tid_of (entry_at x) u o

abbrev AreCountable : (ℕ → Option Entry) → Type 0
AreCountable f = (u : ℕ) (e : Entry) → f u ≡ Some e → e.dispatches ≤ last_count

countable_put : (f : ℕ → Option Entry) (u : ℕ) (o : Option Entry) → AreCountable f → ((e : Entry) → o ≡ Some e → e.dispatches ≤ last_count) → AreCountable (put f u o)
countable_put f u o all here i e =
    let P : Option Entry → Type 0 = λ v. v ≡ Some e → e.dispatches ≤ last_count in
    put_by P f u o i (λ same. here e) (λ apart. all i e)

some_is : (d e : Entry) → Some d ≡ Some e → d ≡ e
some_is d e h = cc

not_some : (e : Entry) → None ≡ Some e → ⊥
not_some e h = cc

-- what is kept, after one record was written
kept_by : (x y : ThreadsOf) (u : ℕ) (o : Option Entry) → AreThreadsKept x → entry_at y ≡ put (entry_at x) u o → number_at y ≡ tid_at y → y.limit ≡ x.limit → ((e : Entry) → o ≡ Some e → e.dispatches ≤ last_count) → AreThreadsKept y
kept_by x y u o kept entries same limit fits = record {
  named = same;
  limit = limit ∙ kept.limit;
  countable = subst AreCountable (sym entries) (countable_put (entry_at x) u o kept.countable fits);
}

-- ---- one field is set

-- no change touches the number
pub changed_tid : (c : Change) (d : Entry) → (changed c d).tid.0 ≡ d.tid.0
unfolding changed
changed_tid (change.Prio prio) d = refl
changed_tid (change.Name name) d = refl
changed_tid (change.Joinable joinable) d = refl
changed_tid (change.Cancel cancel) d = refl
changed_tid (change.Request request) d = refl
changed_tid (change.State state) d = refl
changed_tid (change.Suspended suspended) d = refl
changed_tid (change.Dispatches dispatches) d = refl
changed_tid (change.Value value) d = refl

-- a count of dispatches stays one that an `i64` holds
changed_fits : (c : Change) (d : Entry) → IsCountable c → d.dispatches ≤ last_count → (changed c d).dispatches ≤ last_count
unfolding changed
changed_fits (change.Prio prio) d fits was = was
changed_fits (change.Name name) d fits was = was
changed_fits (change.Joinable joinable) d fits was = was
changed_fits (change.Cancel cancel) d fits was = was
changed_fits (change.Request request) d fits was = was
changed_fits (change.State state) d fits was = was
changed_fits (change.Suspended suspended) d fits was = was
changed_fits (change.Dispatches dispatches) d fits was = fits
changed_fits (change.Value value) d fits was = was

module _ (x y : ThreadsOf) (u : ℕ) (c : Change) (d e : Entry) (kept_x : AreThreadsKept x) (was : thing_at x u ≡ Some d) (is : e ≡ changed c d) (writes : numbered.Changes x y u e) where
  entries_y : entry_at y ≡ put (entry_at x) u (Some e)
  entries_y = entries_put x y u (Some e) writes.things

  same_tid : d.tid.0 ≡ e.tid.0
  same_tid = rw is (sym (changed_tid c d))

  tids_y : tid_at y ≡ tid_at x
  tids_y = tids_put x y u (Some e) entries_y ∙ put_none (tid_at x) u e.tid.0 (tid_is x u d was ∙ same_tid)

  pub changes : ChangesThread x y u c
  changes = record { slots = writes.slots; tids = tids_y; entries = rw (entry_is x u d was, ← is) entries_y; count = writes.count; made = writes.made }

  pub kept_changed : IsCountable c → AreThreadsKept y
  kept_changed fits = kept_by x y u (Some e) kept_x entries_y (writes.numbers ∙ kept_x.named ∙ sym tids_y) writes.limit
      (λ f same. rw (← some_is e f same, is) (changed_fits c d fits (kept_x.countable u d (entry_is x u d was))))

-- ---- a new thread

pub made_tid : (of : NewThread) (t : ℕ) → (made_of of t).tid.0 ≡ t
unfolding made_of
made_tid of t = refl

made_fits : (of : NewThread) (t : ℕ) → (made_of of t).dispatches ≤ last_count
unfolding made_of
made_fits of t = omega arith

module _ (x y : ThreadsOf) (u : ℕ) (of : NewThread) (kept_x : AreThreadsKept x) (law : numbered.IsKept y) (adds : numbered.Adds x y u (made_of of (x.made + 1))) where
  abbrev e : Entry
  e = made_of of (x.made + 1)

  tid_e : e.tid.0 ≡ x.made + 1
  tid_e = made_tid of (x.made + 1)

  entries_new : entry_at y ≡ put (entry_at x) u (Some e)
  entries_new = entries_put x y u (Some e) adds.things

  tids_new : tid_at y ≡ put (tid_at x) u e.tid.0
  tids_new = tids_put x y u (Some e) entries_new

  named_new : number_at y ≡ tid_at y
  named_new = adds.numbers ∙ ap (λ (f : ℕ → ℕ). put f u (x.made + 1)) kept_x.named ∙ ap (λ (n : ℕ). put (tid_at x) u n) (sym tid_e) ∙ sym tids_new

  pub kept_added : AreThreadsKept y
  kept_added = kept_by x y u (Some e) kept_x entries_new named_new adds.limit (λ f same. rw (← some_is e f same) (made_fits of (x.made + 1)))

  pub added : AddsThread x y u e
  added = record {
    unused = sym (ap (λ (f : ℕ → ℕ). f u) kept_x.named) ∙ adds.unused;
    unknown = rw tid_e adds.unknown;
    low = subst (λ (l : ℕ). u < l) kept_x.limit adds.low;
    slots = rw tid_e adds.slots;
    tids = tids_new;
    entries = entries_new;
    count = adds.count;
    made = adds.made ∙ sym tid_e;
    tied = tied y kept_added law;
  }

-- ---- a thread is gone

module _ (x y : ThreadsOf) (u : ℕ) (kept_x : AreThreadsKept x) (law : numbered.IsKept y) (gone : numbered.Removes x y u) where
  entries_left : entry_at y ≡ put (entry_at x) u None
  entries_left = entries_put x y u None gone.things

  tids_left : tid_at y ≡ put (tid_at x) u 0
  tids_left = tids_put x y u None entries_left

  named_left : number_at y ≡ tid_at y
  named_left = gone.numbers ∙ ap (λ (f : ℕ → ℕ). put f u 0) kept_x.named ∙ sym tids_left

  pub kept_removed : AreThreadsKept y
  kept_removed = kept_by x y u None kept_x entries_left named_left gone.limit (λ f same. absurd (not_some f same))

  pub removed : RemovesThread x y u
  removed = record {
    slots = gone.slots ∙ ap (λ (n : ℕ). put (slot_of x) n None) (ap (λ (f : ℕ → ℕ). f u) kept_x.named);
    tids = tids_left;
    entries = entries_left;
    count = gone.count;
    made = gone.made;
    tied = tied y kept_removed law;
  }

-- ---- no threads

pub no_entries : (x : ThreadsOf) → thing_at x ≡ (λ _. None) → entry_at x ≡ (λ _. None)
unfolding entry_at
no_entries x h = h

pub no_tids : (x : ThreadsOf) → thing_at x ≡ (λ _. None) → tid_at x ≡ (λ _. 0)
unfolding tid_at
no_tids x h = ap tids_of (no_entries x h)

pub kept_none : (x : ThreadsOf) → thing_at x ≡ (λ _. None) → number_at x ≡ (λ _. 0) → x.limit ≡ thread_limit → AreThreadsKept x
kept_none x things numbers limit = record {
  named = numbers ∙ sym (no_tids x things);
  limit = limit;
  countable = λ u e h. absurd (not_some e (sym (ap (λ (f : ℕ → Option Entry). f u) (no_entries x things)) ∙ h));
}
