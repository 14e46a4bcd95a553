-- Library control: pth_kill, pth_ctrl.
--
-- `kill` is defined by what is left. The code empties queue by queue, in an order that no definition sees.
use Rattle.std.specs.Prelude.{ℕ, ◌==◌, not, length, pos, Option, Some, None, [], if◌then◌else◌}
use Rattle.pth_cond.specs.Conditions.{all_seats_left}
use Rattle.pth_base.specs.declared.answer.Answer.TheVariants.{Int, Text}
use Rattle.pth_base.specs.declared.errno.Errno.TheVariants.{EINVAL, EPERM, ESRCH}
use Rattle.pth_base.specs.declared.query.Query.{Query}
use Rattle.pth_base.specs.declared.query.Query.TheVariants as query
use Rattle.pth_queue.specs.declared.queue.Queue.{Queue}
use Rattle.pth_queue.specs.declared.queue.Queue.TheVariants as queue
use Rattle.pth_numbered.specs.Operands.{◌is◌, ◌is_from◌to◌}
use Rattle.pth_ring.specs.Rings.{all_unclaimed}
use Rattle.pth_cond.specs.Barriers.{all_withdrawn}
use Rattle.pth_model.specs.declared.verdict.Verdict.TheVariants.{Says, Kills}
use Rattle.pth_model.specs.Verdict.{refused, says}
use Rattle.pth_numbered.specs.Clauses.{◌when◌otherwise◌}
use Rattle.pth_model.specs.Kill.{only_at}
use Rattle.pth_model.specs.State.{State, main, present, queue}
use Rattle.pth_model.specs.Transition.{Change, nothing}
use Rattle.pth_model.specs.Changes.{or_nobody, favours_new}
use Rattle.pth_model.specs.Row.{Row, ◌changing◌}
use Rattle.pth_model.specs.ThreadControl.{thread, is_known}

abbrev pub running_count : Option ℕ → ℕ
running_count None = 0
running_count (Some t) = 1

module _ {P S H : Type 0} where
  -- all threads but t, which runs, are in the system no longer, no ring is claimed, and nobody has a seat at a condition or waits at a
  -- barrier
  unfoldable pub vanish_all_but : ℕ → Change P S H
  vanish_all_but t k = record k {
    threads = record k.threads { known = only_at t k.threads.known; progress = only_at t k.threads.progress; standing = λ q. [] };
    events = all_unclaimed k.events;
    conditions = all_seats_left k.conditions;
    barriers = all_withdrawn k.barriers;
  }

module _ {P S H : Type 0} (s : State P S H) (t : ℕ) where
  -- pth_kill: main ends the process; what the others had is gone by the mark of its answer
  abbrev pub kill : Row P S H
  kill =
      refused EPERM when not (t == main) otherwise
      Kills
      changing vanish_all_but t

module _ {P S H : Type 0} (s : State P S H) where
  -- how many stand in a queue: a suspended thread stands among the suspended alone
  abbrev pub number_in : Queue → Row P S H
  number_in q = says (length (queue s.control q)) changing nothing

  -- pth_ctrl: how many threads there are, in each state, the setting that favours new ones, and what is known of a thread
  abbrev pub ctrl : Query → Row P S H
  ctrl query.Threads = says (present s.control) changing nothing
  ctrl query.New = number_in queue.New
  ctrl query.Ready = number_in queue.Ready
  ctrl query.Running = says (running_count s.control.scheduler.running) changing nothing
  ctrl query.Waiting = number_in queue.Waiting
  ctrl query.Suspended = number_in queue.Suspended
  ctrl query.Dead = number_in queue.Dead
  -- PTH_CTRL_FAVOURNEW: the old setting
  ctrl (query.Favournew n) =
      refused EINVAL when not (n is_from pos 0 to pos 1) otherwise
      says (if s.control.scheduler.favour_new then 1 else 0)
      changing favours_new (n is 1)
  -- PTH_CTRL_GETPRIO, PTH_CTRL_GETNAME
  ctrl (query.Prio n) =
      refused ESRCH when not (is_known s.control n) otherwise
      Says (Int (or_nobody (thread s.control n)).prio)
      changing nothing
  ctrl (query.Name n) =
      refused ESRCH when not (is_known s.control n) otherwise
      Says (Text (or_nobody (thread s.control n)).name)
      changing nothing
