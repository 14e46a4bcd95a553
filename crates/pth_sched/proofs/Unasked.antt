-- Nobody asks main to end: no call does, and nothing else sets a request. So main is never canceled, and takes no mutex back for that.
use Rattle.std.proofs.Common.{◌≡◌, ◌≢◌, ℕ, zero, suc, ◌+◌, ◌==◌, Bool, true, false, if◌then◌else◌, ℤ, List, [], ◌∷◌, reverse, Option, Some, None, option_map, refl, sym, ap, subst, ◌∙◌, inl, inr, pos}
use Rattle.std.proofs.lemmas.Option.{same_Some}
use Rattle.pth_base.specs.Table.{put}
use Rattle.pth_model.specs.declared.progress.Progress.{Progress}
use Rattle.pth_base.specs.Program.{Functions}
use Rattle.pth_base.proofs.Tables.{put_by, put_here}
use Rattle.pth_base.specs.declared.answer.Answer.TheVariants as answer
use Rattle.pth_base.specs.declared.attr.AttrValue.{AttrValue}
use Rattle.pth_base.specs.declared.attr.AttrValue.TheVariants as value
use Rattle.pth_base.specs.declared.thread.ThreadState.{ThreadState}
use Rattle.pth_base.specs.declared.thread.ThreadState.TheVariants as state
use Rattle.pth_queue.specs.declared.queue.Queue.{Queue}
use Rattle.pth_queue.specs.declared.queue.Queue.TheVariants as queues
use Rattle.pth_threads.specs.Attributes.{change_of}
use Rattle.pth_threads.specs.Threads.{changed, made_of}
use Rattle.pth_threads.specs.declared.entry.Change.{Change}
use Rattle.pth_threads.specs.declared.entry.Change.TheVariants as change
use Rattle.pth_threads.specs.declared.entry.Entry.{Entry}
use Rattle.pth_threads.specs.declared.entry.NewThread.{NewThread}
use Rattle.pth_model.specs.declared.blocked.Blocked.{Blocked}
use Rattle.pth_model.specs.State.{State, Control, Turn, Given, start, main, main_entry, queue}
use Rattle.pth_model.specs.Transition.{controlled, ◌and◌}
use Rattle.pth_model.specs.Changes.{sets, trails, enters, goes_on, leaves_queue, raises_ready, makes, forgets, removes, queue_for, holders, entry_of, or_nobody, blocked_of, blocking, blocked_in, is_blocked_by}
use Rattle.pth_model.specs.Cancellation.{is_to_cancel, may_be_canceled}
use Rattle.pth_model.specs.Ending.{leaves, is_dead_with, stops_running}
use Rattle.pth_model.specs.LibraryControl.{vanish_all_but}
use Rattle.pth_model.specs.Part.{Part, Move, Take, Step, Close, Halt, next_part, part, part_by, moves, moves_by, takes, takes_by, readies, readies_all, readies_new, dispatches, runs, chosen, closes, turn_ends, is_placed, placed_by, is_put_back, is_put_waiting}
use Rattle.pth_model.specs.Pass.{pass, looks, woken, all_woken, to_wake, is_ready_at, moment}
use Rattle.pth_model.specs.Run.{parts, run}
use Rattle.pth_model.specs.ThreadControl.{spawns, suspends, resumes, returns_to}
use Rattle.pth_model.proofs.Walks.{KeptBy, step_keeps, IsToEnd, retakes_oddly}

-- a change of a record that asks for no end
abbrev AsksNone : Change → Type 0
AsksNone c = (e : Entry) → e.request ≡ false → (changed c e).request ≡ false

asks_none : (c : Change) → AsksNone c → (o : Option Entry) → (or_nobody o).request ≡ false → (or_nobody (option_map (changed c) o)).request ≡ false
asks_none c none None is = refl
asks_none c none (Some e) is = none e is

-- the fields that others than a request set
state_asks : (x : ThreadState) → AsksNone (change.State x)
unfolding changed
state_asks x e is = is

suspended_asks : (b : Bool) → AsksNone (change.Suspended b)
unfolding changed
suspended_asks b e is = is

value_asks : (v : ℤ) → AsksNone (change.Value v)
unfolding changed
value_asks v e is = is

dispatches_ask : (n : ℕ) → AsksNone (change.Dispatches n)
unfolding changed
dispatches_ask n e is = is

request_asks : (b : Bool) → b ≡ false → AsksNone (change.Request b)
unfolding changed
request_asks b none e is = none

-- a value that a program sets (pth_attr_set)
set_asks : (v : AttrValue) (c : Change) → change_of v ≡ Some c → AsksNone c
unfolding changed
set_asks (value.Prio n) c h e is = rw (← same_Some (change.Prio n) c h) is
set_asks (value.Name s) c h e is = rw (← same_Some (change.Name s) c h) is
set_asks (value.Joinable n) c h e is = rw (← same_Some _ c h) is
set_asks (value.Cancel n) c h e is = rw (← same_Some _ c h) is
set_asks v c h e is = absurd (cc h)

not_itself : (b : Bool) (u : ℕ) → (b ≡ true → u ≢ main) → main ≡ u → b ≡ false
not_itself false u apart here = refl
not_itself true u apart here = absurd (apart refl (sym here))

-- where another thread's progress is set, or is gone, or main's to one that is even
even_put : {S : Type 0} (f : ℕ → Option (Progress S)) (u : ℕ) (p : Option (Progress S)) → (main ≡ u → retakes_oddly (blocked_in p) ≡ false) → retakes_oddly (blocked_in (f main)) ≡ false → retakes_oddly (blocked_in (put f u p main)) ≡ false
even_put f u p now is = put_by (λ o. retakes_oddly (blocked_in o) ≡ false) f u p main now (λ other. is)

module _ {P S H : Type 0} where
  -- main was not asked to end
  abbrev pub IsUnasked : Control P S H → Type 0
  IsUnasked k = (or_nobody (entry_of k main)).request ≡ false

  -- ---- changes

  unasked_sets : (u : ℕ) (c : Change) (k : Control P S H) → (main ≡ u → AsksNone c) → IsUnasked k → IsUnasked (sets u c k)
  unfolding sets
  unasked_sets u c k none is = put_by (λ o. (or_nobody o).request ≡ false) k.threads.known u (option_map (changed c) (k.threads.known u)) main (λ here. asks_none c (none here) (k.threads.known u) (subst (λ (i : ℕ). (or_nobody (k.threads.known i)).request ≡ false) here is)) (λ other. is)

  unasked_forgets : (u : ℕ) (k : Control P S H) → IsUnasked k → IsUnasked (forgets u k)
  unfolding forgets
  unasked_forgets u k is = put_by (λ o. (or_nobody o).request ≡ false) k.threads.known u None main (λ here. refl) (λ other. is)

  unasked_spawned : (f : P → Functions S H) (b : ℕ) (v : ℤ) (of : NewThread) (k : Control P S H) → IsUnasked k → IsUnasked (spawns f b v of k)
  unfolding makes made_of enters
  unasked_spawned f b v of k is = put_by (λ o. (or_nobody o).request ≡ false) k.threads.known (k.threads.made + 1) (Some (made_of of (k.threads.made + 1))) main (λ here. refl) (λ other. is)

  unasked_dead : (u : ℕ) (v : ℤ) (k : Control P S H) → IsUnasked k → IsUnasked (is_dead_with u v k)
  unfolding is_dead_with enters leaves_queue
  unasked_dead u v k is =
      let dead = sets u (change.State state.Dead) (leaves_queue u k) in
      unasked_sets u (change.Value v) (sets u (change.Suspended false) dead) (λ here. value_asks v)
      (unasked_sets u (change.Suspended false) dead (λ here. suspended_asks false)
      (unasked_sets u (change.State state.Dead) (leaves_queue u k) (λ here. state_asks state.Dead) is))

  unasked_left : (u : ℕ) (v : ℤ) (k : Control P S H) → IsUnasked k → IsUnasked (leaves u v k)
  unfolding leaves leaves_queue
  unasked_left u v k is = by_end (or_nobody (entry_of k u)).joinable
    where
      by_end : (b : Bool) → IsUnasked (((if b then is_dead_with u v else removes u) and stops_running u) k)
      by_end true = unasked_dead u v k is
      by_end false = unasked_forgets u (leaves_queue u k) is

  unasked_suspended : (u : ℕ) (k : Control P S H) → IsUnasked k → IsUnasked (suspends u k)
  unfolding suspends enters leaves_queue
  unasked_suspended u k is = unasked_sets u (change.Suspended true) (leaves_queue u k) (λ here. suspended_asks true) is

  unasked_returned : (u : ℕ) (q : Option Queue) (k : Control P S H) → IsUnasked k → IsUnasked (returns_to u q k)
  unfolding enters leaves_queue
  unasked_returned u None k is = is
  unasked_returned u (Some q) k is = unasked_sets u (change.Suspended false) (leaves_queue u k) (λ here. suspended_asks false) is

  unasked_resumed : (u : ℕ) (k : Control P S H) → IsUnasked k → IsUnasked (resumes u k)
  unfolding resumes
  unasked_resumed u k is = unasked_returned u (queue_for (or_nobody (entry_of k u)).state) k is

  unasked_removed : (u : ℕ) (k : Control P S H) → IsUnasked k → IsUnasked (removes u k)
  unfolding leaves_queue
  unasked_removed u k is = unasked_forgets u (leaves_queue u k) is

  unasked_vanished : (u : ℕ) (k : Control P S H) → IsUnasked k → IsUnasked (vanish_all_but u k)
  unfolding vanish_all_but
  unasked_vanished u k is = by_main (main == u)
    where
      by_main : (b : Bool) → (or_nobody (if b then k.threads.known main else None)).request ≡ false
      by_main true = is
      by_main false = refl

  unasked_goes : (u : ℕ) (g : Progress S → Progress S) (k : Control P S H) → IsUnasked k → IsUnasked (goes_on u g k)
  unfolding goes_on
  unasked_goes u g k is = is

  -- so it is not to be canceled
  pub unasked_main : (k : Control P S H) → IsUnasked k → is_to_cancel (or_nobody (entry_of k main)) ≡ false
  unasked_main k is = rw is refl

  -- ---- what blocks main

  -- main takes no mutex back as one that was canceled
  abbrev pub IsEven : Control P S H → Type 0
  IsEven k = retakes_oddly (blocked_of k main) ≡ false

  even_goes : (u : ℕ) (g : Progress S → Progress S) (k : Control P S H) → ((p : Progress S) → retakes_oddly (g p).blocked ≡ true → retakes_oddly p.blocked ≡ true) → IsEven k → IsEven (goes_on u g k)
  unfolding goes_on
  even_goes u g k odd is = even_put k.threads.progress u (option_map g (k.threads.progress u)) (λ here. by_progress (k.threads.progress u) (subst (λ (i : ℕ). retakes_oddly (blocked_in (k.threads.progress i)) ≡ false) here is)) is
    where
      by_progress : (o : Option (Progress S)) → retakes_oddly (blocked_in o) ≡ false → retakes_oddly (blocked_in (option_map g o)) ≡ false
      by_progress None even = refl
      by_progress (Some p) even = by_test (retakes_oddly (g p).blocked) refl
        where
          by_test : (b : Bool) → retakes_oddly (g p).blocked ≡ b → retakes_oddly (g p).blocked ≡ false
          by_test false h = h
          by_test true h = absurd (cc (sym (odd p h) ∙ even))

  even_spawned : (f : P → Functions S H) (b : ℕ) (v : ℤ) (of : NewThread) (k : Control P S H) → IsEven k → IsEven (spawns f b v of k)
  unfolding makes enters
  even_spawned f b v of k is = even_put k.threads.progress (k.threads.made + 1) _ (λ here. refl) is

  even_forgets : (u : ℕ) (k : Control P S H) → IsEven k → IsEven (forgets u k)
  unfolding forgets
  even_forgets u k is = even_put k.threads.progress u None (λ here. refl) is

  even_left : (u : ℕ) (v : ℤ) (k : Control P S H) → IsEven k → IsEven (leaves u v k)
  unfolding leaves is_dead_with enters sets leaves_queue
  even_left u v k is = by_end (or_nobody (entry_of k u)).joinable
    where
      by_end : (b : Bool) → IsEven (((if b then is_dead_with u v else removes u) and stops_running u) k)
      by_end true = is
      by_end false = even_forgets u (leaves_queue u k) is

  even_suspended : (u : ℕ) (k : Control P S H) → IsEven k → IsEven (suspends u k)
  unfolding suspends enters leaves_queue sets
  even_suspended u k is = is

  even_returned : (u : ℕ) (q : Option Queue) (k : Control P S H) → IsEven k → IsEven (returns_to u q k)
  unfolding enters leaves_queue sets
  even_returned u None k is = is
  even_returned u (Some q) k is = is

  even_resumed : (u : ℕ) (k : Control P S H) → IsEven k → IsEven (resumes u k)
  unfolding resumes
  even_resumed u k is = even_returned u (queue_for (or_nobody (entry_of k u)).state) k is

  even_removed : (u : ℕ) (k : Control P S H) → IsEven k → IsEven (removes u k)
  unfolding leaves_queue
  even_removed u k is = even_forgets u (leaves_queue u k) is

  even_sets : (u : ℕ) (c : Change) (k : Control P S H) → IsEven k → IsEven (sets u c k)
  unfolding sets
  even_sets u c k is = is

  even_vanished : (u : ℕ) (k : Control P S H) → IsEven k → IsEven (vanish_all_but u k)
  unfolding vanish_all_but
  even_vanished u k is = by_main (main == u)
    where
      by_main : (b : Bool) → retakes_oddly (blocked_in (if b then k.threads.progress main else None)) ≡ false
      by_main true = is
      by_main false = refl

  -- a call blocks main: it does so oddly only if main was to be canceled, or did so before
  even_blocked : (t : ℕ) (b : Blocked) (j k : Control P S H) → (retakes_oddly (Some b) ≡ true → IsToEnd t j) → IsUnasked j → IsEven j → IsEven k → IsEven (is_blocked_by t (Some b) k)
  unfolding goes_on may_be_canceled
  even_blocked t b j k odd asked even is = even_put k.threads.progress t (option_map (blocking (Some b)) (k.threads.progress t)) (λ here. by_progress (k.threads.progress t) (subst (λ (i : ℕ). retakes_oddly (Some b) ≡ true → IsToEnd i j) (sym here) odd)) is
    where
      not_both : IsToEnd main j → ⊥
      not_both (inl may) = let none : may_be_canceled j main ≡ false = rw (unasked_main j asked) refl in cc (sym may ∙ none)
      not_both (inr was) = cc (sym was ∙ even)

      by_progress : (o : Option (Progress S)) → (retakes_oddly (Some b) ≡ true → IsToEnd main j) → retakes_oddly (blocked_in (option_map (blocking (Some b)) o)) ≡ false
      by_progress None ends = refl
      by_progress (Some p) ends = by_test (retakes_oddly (Some b)) refl
        where
          by_test : (x : Bool) → retakes_oddly (Some b) ≡ x → retakes_oddly (Some b) ≡ false
          by_test false h = h
          by_test true h = absurd (not_both (ends h))

  -- main was not asked to end, and takes no mutex back as one that was canceled
  abbrev pub StaysUp : Control P S H → Type 0
  StaysUp k = IsUnasked k × IsEven k

  -- ---- a step

  up_calls : (f : P → Functions S H) (t : ℕ) → KeptBy f t StaysUp
  up_calls f t = record {
    calls = record {
      handlers = record { shares = λ h k is. is; seated = λ x k is. is };
      spawned = λ b v of k is. (unasked_spawned f b v of k is.0, even_spawned f b v of k is.1);
      suspended = λ u k other lives is. (unasked_suspended u k is.0, even_suspended u k is.1);
      resumed = λ u k other is. (unasked_resumed u k is.0, even_resumed u k is.1);
      removed = λ n u k taken is. (unasked_removed u k is.0, even_removed u k is.1);
      favoured = λ b k is. is;
      changed = λ v u c k set is. (unasked_sets u c k (λ here. set_asks v c set) is.0, even_sets u c k is.1);
      added = λ x k is. is;
      exchanged = λ n o k is. is;
      evented = λ x k none is. is;
      described = λ ds k is. is;
      barred = λ x k is. is;
      used = λ o k is. is;
      requested = λ u b k apart is. (unasked_sets u (change.Request b) k (λ here. request_asks b (not_itself b u apart here)) is.0, even_sets u (change.Request b) k is.1);
    };
    goes = λ u g k odd is. (unasked_goes u g k is.0, even_goes u g k odd is.1);
    blocked = λ b j k odd was is. (unasked_goes t (blocking (Some b)) k is.0, even_blocked t b j k odd was.0 was.1 is.1);
    claimed = λ x k is. is;
    preferred = λ u k runs is. is;
    left = λ v k is. (unasked_left t v k is.0, even_left t v k is.1);
    ended = λ u v k other up is. (unasked_left u v k is.0, even_left u v k is.1);
    dropped = λ u k other dead is. (unasked_removed u k is.0, even_removed u k is.1);
    vanished = λ k is. (unasked_vanished t k is.0, even_vanished t k is.1);
  }

  -- ---- between turns

  up_sets : (u : ℕ) (c : Change) (k : Control P S H) → AsksNone c → StaysUp k → StaysUp (sets u c k)
  up_sets u c k none is = (unasked_sets u c k (λ here. none) is.0, even_sets u c k is.1)

  up_ready : (u : ℕ) (rank : ℤ) (top : Bool) (k : Control P S H) → StaysUp k → StaysUp (is_ready_at u rank top k)
  unfolding is_ready_at enters leaves_queue
  up_ready u rank top k is = up_sets u (change.State state.Ready) (leaves_queue u k) (state_asks state.Ready) is

  up_readies : (ts : List ℕ) (k : Control P S H) → StaysUp k → StaysUp (readies_all ts k)
  unfolding readies_all readies
  up_readies [] k is = is
  up_readies (t ∷ ts) k is = up_readies ts (readies t k) (up_ready t _ k.scheduler.favour_new k is)

  up_dispatched : (x : Turn) (o : Option ℕ) (s : State P S H) → StaysUp s.control → StaysUp (takes_by x o s).state.control
  unfolding dispatches runs trails leaves_queue sets
  up_dispatched x None s is = is
  up_dispatched x (Some t) s is =
      let ran = sets t (change.State state.Running) (leaves_queue t s.control) in
      up_sets t (change.Dispatches _) ran (dispatches_ask _) (up_sets t (change.State state.Running) (leaves_queue t s.control) (state_asks state.Running) is)

  up_taken : (x : Turn) (s : State P S H) → StaysUp s.control → StaysUp (takes x s).state.control
  unfolding takes
  up_taken x s is =
      let a : State P S H = controlled readies_new s in
      up_dispatched x (chosen a.control.scheduler.preferred (queue a.control queues.Ready)) a (up_readies (reverse (holders (queue s.control queues.New))) s.control is)

  up_woken : (ts : List ℕ) (s : State P S H) → StaysUp s.control → StaysUp (all_woken ts s).state.control
  unfolding all_woken woken
  up_woken [] s is = is
  up_woken (t ∷ ts) s is = up_woken ts (woken t s).state (up_ready t _ false s.control is)

  up_pass : (f : P → Functions S H) (s : State P S H) → StaysUp s.control → StaysUp (pass f s).state.control
  unfolding pass looks
  up_pass f s is = up_woken (to_wake f s) (controlled (looks f s) s) is

  up_placed : (t : ℕ) (r : Option ℕ) (b : Option Blocked) (k : Control P S H) → StaysUp k → StaysUp (placed_by t r b k)
  unfolding is_put_back is_put_waiting enters
  up_placed t None b k is = is
  up_placed t (Some r) (Some b) k is = up_sets t (change.State state.Waiting) k (state_asks state.Waiting) is
  up_placed t (Some r) None k is = up_sets t (change.State state.Ready) k (state_asks state.Ready) is

  up_closed : (f : P → Functions S H) (x : Turn) (t : ℕ) (s : State P S H) → StaysUp s.control → StaysUp (closes f x t s).state.control
  unfolding closes is_placed raises_ready
  up_closed f x t s is = up_pass f (controlled (turn_ends t) s) (up_placed t s.control.scheduler.running (blocked_of s.control t) (raises_ready s.control) is)

  up_moved : (f : P → Functions S H) (x : Turn) (o : Option ℕ) (s : State P S H) → StaysUp s.control → StaysUp (moves_by f x o s).state.control
  up_moved f x None s is = is
  up_moved f x (Some m) s is = up_pass f _ is

  up_part : (f : P → Functions S H) (x : Turn) (s : State P S H) (p : Part) → StaysUp s.control → StaysUp (part_by f x s p).state.control
  unfolding moves
  up_part f x s Move is = up_moved f x (moment f s) s is
  up_part f x s Take is = up_taken x s is
  up_part f x s (Step t) is = step_keeps f t StaysUp (up_calls f t) x s is
  up_part f x s (Close t) is = up_closed f x t s is
  up_part f x s Halt is = is

  -- ---- runs

  up_start : (f : P → Functions S H) (g : Given P) → StaysUp (start f g).control
  unfolding start
  up_start f g =
      let nobody : ℕ → Option (Progress S) = λ t. None in
      let first : Option (Progress S) = Some (record { state = (f g.program).start 0 (pos 0); owed = answer.None; blocked = None }) in
      (ap (λ o. (or_nobody o).request) (put_here (λ t. None) main (Some main_entry)), ap (λ o. retakes_oddly (blocked_in o)) (put_here nobody main first))

  pub up_run : (f : P → Functions S H) (g : Given P) (i : ℕ) → StaysUp (run f g i).state.control
  unfolding parts part
  up_run f g zero = up_start f g
  up_run f g (suc i) = up_part f (run f g i).turn (run f g i).state (next_part (run f g i).state (run f g i).turn) (up_run f g i)
