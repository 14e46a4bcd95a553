use Rattle.std.proofs.Common.{IfSome, option_map}
use Rattle.pth_queue.specs.declared.queue.Queue.TheVariants as queue
use Rattle.pth_model.specs.State.{Control}
use Rattle.pth_threads.specs.Threads.{number_of}
use Rattle.pth_world.specs.Shows.{Shows}
use Rattle.pth_world.specs.Sound.{IsKnown}
use Rattle.pth_world.specs.WellFormed.{IsIn}
use Rattle.pth_waits.proofs.Searching.{to_visit, Searched}
use Rattle.pth_waits.proofs.joins.first_joinable.Given as goal

abbrev pub invariant-loop-next : goal.invariant-loop-next
invariant-loop-next g l = record {
  searched : (k : Control g.row.P.Denot g.row.P-State.Denot g.row.P-Shared.Denot) → Shows l.fn.w k → Searched k (option_map number_of l.next);
  known : IfSome l.next (λ t. IsKnown l.fn.w.threads t.0);
  stands : IfSome l.next (λ t. IsIn queue.Dead l.fn.w.threads t.0);
}

abbrev pub decreases-loop-next : goal.decreases-loop-next
decreases-loop-next g l = to_visit l.fn.w l.next
