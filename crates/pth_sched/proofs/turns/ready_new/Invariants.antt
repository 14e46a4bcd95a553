use Rattle.std.proofs.Common.{◌≡◌, ◌+◌, ◌<◌, ◌≤◌, ℕ, length}
use Rattle.pth_model.specs.Part.{readies_new}
use Rattle.pth_model.specs.State.{Control}
use Rattle.pth_world.specs.Ranks.{IsUnder, greatest_return}
use Rattle.pth_world.specs.Shows.{Shows}
use Rattle.pth_world.specs.Touches.{KeepsRest}
use Rattle.pth_world.specs.WellFormed.{WellFormed, WaitsToRun}
use Rattle.pth_sched.specs.Passing.{HasRoom}
use Rattle.pth_sched.proofs.Readying.{Comes, Rises}
use Rattle.pth_sched.proofs.turns.ready_new.Given as goal

abbrev pub invariant-loop-t : goal.invariant-loop-t
invariant-loop-t g l = record {
  comes : (k : Control g.row.P.Denot g.row.P-State.Denot g.row.P-Shared.Denot) → Shows l.fn.w k → Comes l.w (readies_new k);
  whole : WellFormed l.w;
  scheduler : KeepsRest l.fn.w l.w;
  made : l.w.threads.records.made ≡ l.fn.w.threads.records.made;
  room : HasRoom l.w.threads.queues;
  rises : (bound : ℕ) → greatest_return ≤ bound → IsUnder bound l.fn.w.threads.queues.ready → Rises l.fn.w.threads l.w.threads bound;
  some : 0 < length l.fn.w.threads.queues.ready + length l.fn.w.threads.queues.new → 0 < length l.w.threads.queues.ready + length l.w.threads.queues.new;
  stays : (u : ℕ) → WaitsToRun l.fn.w.threads u → WaitsToRun l.w.threads u;
}

abbrev pub decreases-loop-t : goal.decreases-loop-t
decreases-loop-t g l = length l.w.threads.queues.new
