-- Thread control: pth_spawn, pth_self, pth_suspend, pth_resume, pth_yield, pth_join.
--
-- All dead threads have rank 0, so the Dead queue is in the order of deaths, and `join 0` needs no list of its own.
use Rattle.std.specs.Prelude.{ℕ, ◌+◌, ◌++◌, ◌==◌, ◌&&◌, ◌||◌, not, nat_lt, take, codes, ℤ, pos, Bool, true, false, List, [], ◌∷◌, filter, Option, Some, None, is_some, Result, Ok, Err, if◌then◌else◌}
use Rattle.pth_base.specs.Limits.{thread_limit}
use Rattle.pth_base.specs.Program.{Functions}
use Rattle.pth_base.specs.declared.answer.Answer.TheVariants.{Int}
use Rattle.pth_base.specs.declared.errno.Errno.{Errno}
use Rattle.pth_base.specs.declared.errno.Errno.TheVariants.{EAGAIN, EDEADLK, EINVAL, EPERM, ESRCH}
use Rattle.pth_base.specs.declared.thread.ThreadState.{ThreadState}
use Rattle.pth_base.specs.declared.thread.ThreadState.TheVariants as state
use Rattle.pth_queue.specs.declared.queue.Queue.{Queue}
use Rattle.pth_queue.specs.declared.queue.Queue.TheVariants as queue
use Rattle.pth_threads.specs.Attributes.{first_values, values_answer}
use Rattle.pth_threads.specs.declared.entry.Change.TheVariants as change
use Rattle.pth_threads.specs.declared.entry.Entry.{Entry}
use Rattle.pth_threads.specs.declared.entry.NewThread.{NewThread}
use Rattle.pth_numbered.specs.Operands.{number, named, is_zero, is_below, ◌is◌}
use Rattle.pth_model.specs.Awaits.{death_of}
use Rattle.pth_model.specs.declared.verdict.Verdict.{Verdict}
use Rattle.pth_model.specs.declared.verdict.Verdict.TheVariants.{Says, Yields, Blocks}
use Rattle.pth_model.specs.Verdict.{refused, says, refused_as◌otherwise◌}
use Rattle.pth_numbered.specs.Clauses.{◌when◌otherwise◌}
use Rattle.pth_model.specs.State.{Control, State, present, queue}
use Rattle.pth_model.specs.Transition.{Change, changes, nothing, ◌and◌}
use Rattle.pth_model.specs.Changes.{entry_of, or_nobody, makes, enters, leaves_queue, sets, removes, prefers, holders, queue_for}
use Rattle.pth_model.specs.Living.{is_dead}
use Rattle.pth_model.specs.Row.{Row, Attempt, ◌changing◌, ◌trying◌}

-- a child has its spawner's priority, joinability and cancel state, and a name made of its spawner's
abbrev pub child_of : Entry → NewThread
child_of e = record { prio = e.prio; name = take 40 (e.name ++ codes ".child"); joinable = e.joinable; cancel = e.cancel }

-- where no values were found, those of a new object stand for them
abbrev pub or_first : Result NewThread Errno → NewThread
or_first (Ok x) = x
or_first (Err e) = first_values

-- the thread waits to run for the first time, or again: to it a yield may give control
abbrev pub may_run : ThreadState → Bool
may_run state.New = true
may_run state.Ready = true
may_run s = false

-- a thread that is in the system, and dead
abbrev pub is_dead_in : Option Entry → Bool
is_dead_in (Some e) = is_dead e.state
is_dead_in None = false

abbrev pub first_of : List ℕ → Option ℕ
first_of [] = None
first_of (t ∷ ts) = Some t

module _ {P S H : Type 0} where
  -- whether another thread can be made
  abbrev pub has_room : Control P S H → Bool
  has_room k = nat_lt (present k) thread_limit

  -- the thread that an operand names
  abbrev pub thread : Control P S H → ℤ → Option Entry
  thread k n = named k.threads.known n

  abbrev pub is_known : Control P S H → ℤ → Bool
  is_known k n = is_some (thread k n)

  -- what a new thread is given by t: for 0 what t has, else what an attribute object has
  abbrev pub values_for : Control P S H → ℕ → ℤ → Result NewThread Errno
  values_for k t a = if is_zero a then Ok (child_of (or_nobody (entry_of k t))) else values_answer k.threads.known (named k.attributes.objects a)

  -- a new thread of a body enters the new queue at its priority
  abbrev pub spawns : (P → Functions S H) → ℕ → ℤ → NewThread → Change P S H
  spawns f body v of k = (makes f body v of and enters (k.threads.made + 1) queue.New of.prio false) k

  -- it leaves the queue of its state, and stands among the suspended threads
  unfoldable pub suspends : ℕ → Change P S H
  suspends t = leaves_queue t and sets t (change.Suspended true) and enters t queue.Suspended (pos 0) false

  -- it leaves the suspended threads for a queue
  abbrev pub returns_to : ℕ → Option Queue → Change P S H
  returns_to t None = nothing
  returns_to t (Some q) = leaves_queue t and sets t (change.Suspended false) and enters t q (pos 0) false

  -- it stands in the queue of its state again
  unfoldable pub resumes : ℕ → Change P S H
  resumes t k = returns_to t (queue_for (or_nobody (entry_of k t)).state) k

  -- the dead threads that can be joined, the one that died first in front
  unfoldable pub joinable_dead : Control P S H → List ℕ
  joinable_dead k = filter (λ t. (or_nobody (entry_of k t)).joinable) (holders (queue k queue.Dead))

  -- whom a join takes: the thread that is named, where it is dead, and for 0 the one that died first
  abbrev pub to_join : Control P S H → ℤ → Option ℕ
  to_join k n =
      if is_zero n
      then first_of (joinable_dead k)
      else (if is_dead_in (thread k n) then Some (number n) else None)

  abbrev pub takes_joined : Option ℕ → Change P S H
  takes_joined None = nothing
  takes_joined (Some t) = removes t

  -- the value of the thread that is taken; without one the join waits for a death, for 0 that of any
  abbrev pub joined : Control P S H → ℤ → Option ℕ → Verdict
  joined k n None = Blocks (death_of n)
  joined k n (Some t) = Says (Int (or_nobody (entry_of k t)).value)

module _ {P S H : Type 0} (f : P → Functions S H) (s : State P S H) (t : ℕ) where
  -- pth_spawn: a new thread of a body, with the values of its spawner, or of an attribute object: EINVAL where there is no such
  -- object, ESRCH where its thread is gone
  abbrev pub spawn : ℤ → ℤ → ℤ → Row P S H
  spawn b v a =
      refused EINVAL when not (is_below b (f s.control.program).bodies) otherwise
      refused_as values_for s.control t a otherwise
      refused EAGAIN when not (has_room s.control) otherwise
      says (s.control.threads.made + 1)
      changing spawns f (number b) v (or_first (values_for s.control t a))

module _ {P S H : Type 0} (s : State P S H) (t : ℕ) where
  -- pth_self
  abbrev pub self : Row P S H
  self = says t changing nothing

  -- pth_suspend: a thread that is new, ready or waiting stands among the suspended ones
  abbrev pub suspend : ℤ → Row P S H
  suspend n =
      let it = or_nobody (thread s.control n) in
      refused ESRCH when not (is_known s.control n) otherwise
      refused EPERM when n is t || is_dead it.state || it.suspended otherwise
      says 1
      changing suspends (number n)

  -- pth_resume: it stands in the queue of its state again, at rank 0; the caller, which runs, is never suspended
  abbrev pub resume : ℤ → Row P S H
  resume n =
      refused ESRCH when not (is_known s.control n) otherwise
      refused EPERM when n is t || not (or_nobody (thread s.control n)).suspended otherwise
      says 1
      changing resumes (number n)

  -- pth_yield: control is given up, to a thread that is new or ready, or for 0 to nobody in particular
  abbrev pub yield : ℤ → Row P S H
  yield n =
      let it = or_nobody (thread s.control n) in
      refused EINVAL when not (is_zero n) && (it.suspended || not (may_run it.state)) otherwise
      Yields (Int (pos 1))
      changing (if is_zero n then nothing else prefers (Some (number n)))

  -- pth_join: the value of a dead thread, which is then in the system no longer
  abbrev pub join_attempt : ℤ → Attempt P S H
  join_attempt n =
      refused EDEADLK when n is t || (is_zero n && (present s.control == 1)) otherwise
      refused ESRCH when not (is_zero n) && not (is_known s.control n) otherwise
      refused EINVAL when not (is_zero n) && not (or_nobody (thread s.control n)).joinable otherwise
      joined s.control n (to_join s.control n)
      trying changes (takes_joined (to_join s.control n))

  -- while the thread lives it waits, and then it is tried again as it began
  abbrev pub join : ℤ → Row P S H
  join n = record {
    begin = join_attempt n;
    again = λ a. join_attempt n;
  }
