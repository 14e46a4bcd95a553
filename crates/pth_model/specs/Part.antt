-- One part of a run: time moves, a thread is taken, it makes a step, or its turn is closed.
use Rattle.std.specs.Prelude.{ℕ, ◌+◌, ◌==◌, ◌&&◌, min, ℤ, pos, Bool, true, false, List, [], ◌∷◌, ◌++◌, reverse, Option, Some, None, is_some, if◌then◌else◌}
use Rattle.pth_base.specs.Limits.{last_moment, last_count}
use Rattle.pth_base.specs.Program.{Functions, Stepped}
use Rattle.pth_base.specs.declared.answer.Answer.TheVariants as answer
use Rattle.pth_base.specs.declared.mark.Mark.TheVariants.{Dispatch, Moved}
use Rattle.pth_base.specs.declared.outcome.Outcome.{Outcome}
use Rattle.pth_base.specs.declared.outcome.Outcome.TheVariants as outcome
use Rattle.pth_base.specs.declared.thread.ThreadState.TheVariants as state
use Rattle.pth_queue.specs.Ranking.{head_of, favour_top, place_in}
use Rattle.pth_queue.specs.declared.ranked.Ranked.{Ranked}
use Rattle.pth_queue.specs.declared.queue.Queue.TheVariants as queue
use Rattle.pth_threads.specs.declared.entry.Change.TheVariants as change
use Rattle.pth_model.specs.declared.blocked.Blocked.{Blocked}
use Rattle.pth_model.specs.declared.progress.Progress.{Progress}
use Rattle.pth_model.specs.declared.next.Next.{Next}
use Rattle.pth_model.specs.declared.next.Next.TheVariants as next
use Rattle.pth_model.specs.Allowance.{Point, standing_of, waited, allowed, number_by}
use Rattle.pth_model.specs.State.{State, Control, Turn, queue, main, now_of, clock_of}
use Rattle.pth_model.specs.Transition.{Piece, Change, Last, Went, silent, nothing, controlled, changes, tells, tid, ◌and◌, ◌and_then◌, ◌and_finally◌}
use Rattle.pth_model.specs.Changes.{sets, goes_on, owes, enters, leaves_queue, raises_ready, trails, runs_now, prefers, moves_to, entry_of, prio_of, blocked_of, or_nobody, holders, is_empty}
use Rattle.pth_model.specs.Calls.{begun, gone_on}
use Rattle.pth_model.specs.Pass.{pass, moment, is_ready_at}
use Rattle.pth_model.specs.Course.{Course, within}

-- the part that comes next, by the state and its turn alone
pub data Part : Type 0 where
  Move : Part
  Take : Part
  Step : ℕ → Part
  Close : ℕ → Part
  -- an outcome ends the run
  Halt : Part

-- by: who gave up control, who runs, and whether nothing is new or ready
abbrev pub next_part_by : Option ℕ → Option ℕ → Bool → Part
next_part_by (Some t) r idle = Close t
next_part_by None (Some t) idle = Step t
next_part_by None None true = Move
next_part_by None None false = Take

abbrev pub unless_ended : Outcome → Part → Part
unless_ended outcome.Running p = p
unless_ended o p = Halt

-- the thread that the last yield named, else the head of the ready queue
abbrev pub chosen : Option ℕ → List Ranked → Option ℕ
chosen (Some t) rows = Some t
chosen None rows = head_of rows

abbrev pub rank_by : Option (ℤ × ℕ) → ℤ
rank_by (Some p) = p.0
rank_by None = pos 0

-- what a step leaves of its turn, by what came next for thread t

-- t gave up control
abbrev pub gives_up : ℕ → Turn → Turn
gives_up t x = record x { gave = Some t }

-- the run ends with main
abbrev pub ends_run : ℤ → Bool → Turn → Turn
ends_run v true x = record x { outcome = outcome.Ended v }
ends_run v false x = x

abbrev pub turn_after : ℕ → Next → Turn → Turn
turn_after t (next.Done a) x = x
turn_after t (next.Yields a) x = gives_up t x
turn_after t next.Blocks x = gives_up t x
turn_after t (next.Ended v) x = gives_up t (ends_run v (t == main) x)
turn_after t next.Killed x = record x { outcome = outcome.Killed }

module _ {P S H : Type 0} where
  -- Take: the new threads become ready, the last of them first; then one is dispatched

  -- at Top, one above the head of the ready queue, where new threads are favoured, and at rank 0 where they are not
  abbrev pub new_rank : Control P S H → ℤ
  new_rank k = if k.scheduler.favour_new then favour_top k.top (queue k queue.Ready) else pos 0

  unfoldable pub readies : ℕ → Change P S H
  readies t k = is_ready_at t (new_rank k) k.scheduler.favour_new k

  unfoldable pub readies_all : List ℕ → Change P S H
  readies_all [] k = k
  readies_all (t ∷ ts) k = readies_all ts (readies t k)

  abbrev pub readies_new : Change P S H
  readies_new k = readies_all (reverse (holders (queue k queue.New))) k

  -- the dispatches, with that of t
  abbrev pub trail_with : ℕ → Control P S H → List Point
  trail_with t k = k.threads.trail ++ record { ready = k.threads.standing queue.Ready; taken = t; by_name = is_some k.scheduler.preferred } ∷ []

  -- t runs: its dispatch is on the trail, it stands nowhere, its dispatches are one more, and nobody is named
  unfoldable pub runs : ℕ → Change P S H
  runs t k =
      let n = (or_nobody (entry_of k t)).dispatches in
      (trails (trail_with t k)
      and leaves_queue t
      and sets t (change.State state.Running)
      and sets t (change.Dispatches (min (n + 1) last_count))
      and runs_now (Some t)
      and prefers None) k

  -- the dispatch in the turn of a number, with how long t waited and how long it may wait
  unfoldable pub dispatches : (turn : ℕ) → ℕ → Piece P S H
  dispatches turn t s =
      let k = s.control in
      let place = standing_of t (k.threads.standing queue.Ready) in
      (changes (runs t)
      and_then tells (Dispatch turn (now_of k) (tid t) (rank_by (place_in t (queue k queue.Ready)))
      (number_by (waited (trail_with t k)) place) (number_by (allowed k.top (trail_with t k)) place))) s

  abbrev pub takes_by : Turn → Option ℕ → State P S H → Course P S H
  takes_by x None s = within x (silent s)
  takes_by x (Some t) s = within (record x { turns = x.turns + 1 }) (dispatches (x.turns + 1) t s)

  abbrev pub takes_next : Turn → State P S H → Course P S H
  takes_next x s = takes_by x (chosen s.control.scheduler.preferred (queue s.control queue.Ready)) s

  unfoldable pub takes : Turn → State P S H → Course P S H
  takes x s = takes_next x (controlled readies_new s)

  -- Step: a blocked call is tried again, or the program's next call begins

  -- t is handed over what it is owed
  abbrev pub owes_after : ℕ → Next → Change P S H
  owes_after t (next.Done a) = owes t a
  owes_after t (next.Yields a) = owes t a
  owes_after t next.Blocks = nothing
  owes_after t (next.Ended v) = nothing
  owes_after t next.Killed = nothing

  abbrev pub step_completed : Turn → ℕ → Went P S H → Course P S H
  step_completed x t w = record { state = controlled (owes_after t w.next) w.told.state; turn = turn_after t w.next x; marks = w.told.marks }

  -- the program's step leaves this
  abbrev pub stepping : ℕ → Stepped S H → Change P S H
  stepping t x k = goes_on t (λ p. record p { state = x.state; owed = answer.None }) (record k { shared = x.shared })

  -- Close: the ready threads rise, the one that gave up control is put back, time goes on, and a pass is made

  unfoldable pub is_put_back : ℕ → Change P S H
  is_put_back t k = (sets t (change.State state.Ready) and enters t queue.Ready (prio_of k t) false) k

  unfoldable pub is_put_waiting : ℕ → Change P S H
  is_put_waiting t k = (sets t (change.State state.Waiting) and enters t queue.Waiting (prio_of k t) false) k

  -- one that has ended is not put back; else by: does a call block it
  abbrev pub placed_by : ℕ → Option ℕ → Option Blocked → Change P S H
  placed_by t None b = nothing
  placed_by t (Some r) (Some b) = is_put_waiting t
  placed_by t (Some r) None = is_put_back t

  -- the thread that gave up control is put back, unless it has ended
  unfoldable pub is_placed : ℕ → Change P S H
  is_placed t k = runs_now None (placed_by t k.scheduler.running (blocked_of k t) k)

  -- time goes on by what a turn takes
  abbrev pub time_passes : Change P S H
  time_passes k = moves_to (min (now_of k + clock_of k) last_moment) k

  abbrev pub turn_ends : ℕ → Change P S H
  turn_ends t = raises_ready and is_placed t and time_passes

  -- nothing is new or ready; a suspended thread stands in no queue of its state
  abbrev pub is_idle : Control P S H → Bool
  is_idle k = is_empty (queue k queue.New) && is_empty (queue k queue.Ready)

  unfoldable pub next_part : State P S H → Turn → Part
  next_part s x = unless_ended x.outcome (next_part_by x.gave s.control.scheduler.running (is_idle s.control))

module _ {P S H : Type 0} (f : P → Functions S H) where
  -- Move: while nothing is new or ready, time moves to the next moment, and a pass is made; without one the run is stalled
  abbrev pub moves_by : Turn → Option ℕ → State P S H → Course P S H
  moves_by x None s = within (record x { outcome = outcome.Stalled }) (silent s)
  moves_by x (Some m) s = within x ((changes (moves_to m) and_then tells (Moved m) and_then pass f) s)

  unfoldable pub moves : Turn → State P S H → Course P S H
  moves x s = moves_by x (moment f s) s

  unfoldable pub closes : Turn → ℕ → State P S H → Course P S H
  closes x t s = within (record x { gave = None }) ((changes (turn_ends t) and_then pass f) s)

  -- Step: a blocked call is tried again, or the program's next call begins

  -- the program's step takes the answer that is owed, and gives the next call
  abbrev pub step_of : Control P S H → Progress S → Stepped S H
  step_of k p = (f k.program).step p.state k.shared p.owed

  abbrev pub steps_with : ℕ → Stepped S H → Last P S H
  steps_with t x = changes (stepping t x) and_finally begun f t x.call

  abbrev pub steps_from : ℕ → Progress S → Last P S H
  steps_from t p s = steps_with t (step_of s.control p) s

  -- by: what of t is blocked, and how far it is
  abbrev pub steps_by : ℕ → Option Blocked → Option (Progress S) → Last P S H
  steps_by t (Some b) p = gone_on f t
  steps_by t None (Some p) = steps_from t p
  steps_by t None None = gone_on f t

  abbrev pub steps_on : ℕ → Last P S H
  steps_on t s = steps_by t (blocked_of s.control t) (s.control.threads.progress t) s

  unfoldable pub steps : Turn → ℕ → State P S H → Course P S H
  steps x t s = step_completed (record x { steps = x.steps + 1 }) t (steps_on t s)

  abbrev pub part_by : Turn → State P S H → Part → Course P S H
  part_by x s Move = moves x s
  part_by x s Take = takes x s
  part_by x s (Step t) = steps x t s
  part_by x s (Close t) = closes x t s
  part_by x s Halt = within x (silent s)

  -- one part of a run
  unfoldable pub part : Turn → State P S H → Course P S H
  part x s = part_by x s (next_part s x)
