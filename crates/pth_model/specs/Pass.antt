-- A pass over the waiting threads, and the moments to which time moves while nothing is ready.
use Rattle.std.specs.Prelude.{ℕ, ℤ, pos, ◌+ℤ◌, ◌||◌, Bool, false, List, [], ◌∷◌, ◌++◌, filter, map, flat_map, Option}
use Rattle.std.specs.List.{list_any}
use Rattle.pth_base.specs.Program.{Functions}
use Rattle.pth_base.specs.declared.mark.Mark.TheVariants.{Woke}
use Rattle.pth_base.specs.declared.thread.ThreadState.TheVariants as state
use Rattle.pth_queue.specs.declared.queue.Queue.TheVariants as queue
use Rattle.pth_threads.specs.declared.entry.Change.TheVariants as change
use Rattle.pth_kernel.specs.Kernel.{arrival_times}
use Rattle.pth_kernel.specs.Moments.{least_after}
use Rattle.pth_model.specs.State.{Control, State, queue, now_of}
use Rattle.pth_model.specs.Transition.{Piece, Change, silent, changes, tells, tid, ◌and◌, ◌and_then◌}
use Rattle.pth_model.specs.Changes.{sets, enters, leaves_queue, prio_of, holders}
use Rattle.pth_model.specs.RingWaits.{awaited_events}
use Rattle.pth_model.specs.Looks.{comes, looks_at, event_moment}
use Rattle.pth_model.specs.Cancellation.{may_be_canceled}
use Rattle.pth_model.specs.Calls.{wakes, waits_until}

module _ {P S H : Type 0} where
  -- the waiting threads, in their order: a suspended one is not among them
  abbrev pub waiting : Control P S H → List ℕ
  waiting k = holders (queue k queue.Waiting)

  -- t leaves its queue, and is ready at a rank
  unfoldable pub is_ready_at : ℕ → ℤ → Bool → Change P S H
  is_ready_at t rank top = leaves_queue t and sets t (change.State state.Ready) and enters t queue.Ready rank top

  -- a woken thread is ready at its priority and one
  unfoldable pub woken : ℕ → Piece P S H
  woken t s =
      let rank = prio_of s.control t +ℤ pos 1 in
      (changes (is_ready_at t rank false) and_then tells (Woke (tid t) rank)) s

  -- these threads are woken in this order
  unfoldable pub all_woken : List ℕ → Piece P S H
  all_woken [] s = silent s
  all_woken (t ∷ ts) s = (woken t and_then all_woken ts) s

module _ {P S H : Type 0} (f : P → Functions S H) where
  -- whether an event comes of the ring for which t waits
  unfoldable pub comes_for : State P S H → ℕ → Bool
  comes_for s t = list_any (λ e. comes f s e (s.control.events.events e)) (awaited_events s.control t)

  -- the blocked call of a waiting thread has what it waits for, or an event comes of the ring that it was given, or the thread may
  -- be canceled
  abbrev pub is_to_wake : State P S H → ℕ → Bool
  is_to_wake s t = wakes t s || comes_for s t || may_be_canceled s.control t

  -- those of the waiting threads, in their order
  unfoldable pub to_wake : State P S H → List ℕ
  to_wake s = filter (is_to_wake s) (waiting s.control)

  -- the events of the rings for which threads wait are looked at, in a state
  unfoldable pub looks : State P S H → Change P S H
  looks s = looks_at f s (flat_map (awaited_events s.control) (waiting s.control))

  -- a pass: all conditions are taken on the state as it begins
  unfoldable pub pass : Piece P S H
  pass s = (changes (looks s) and_then all_woken (to_wake s)) s

  -- the moments that a waiting thread waits for, 0 for none: its call's, and those of the events of its ring
  abbrev pub moments_of : State P S H → ℕ → List ℕ
  moments_of s t = waits_until t s ∷ map (λ e. event_moment f s (s.control.events.events e)) (awaited_events s.control t)

  abbrev pub moments : State P S H → List ℕ
  moments s = flat_map (moments_of s) (waiting s.control)

  -- the moment to which time moves while nothing is ready: something comes to a descriptor, or a thread waits for it
  abbrev pub moment : State P S H → Option ℕ
  moment s = least_after (now_of s.control) (arrival_times s.control.kernel ++ moments s)
