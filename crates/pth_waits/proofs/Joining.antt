-- A join takes a dead thread, and the call that blocks another thread still does.
use Rattle.std.proofs.Common.{◌≡◌, ◌≢◌, ℕ, Option, Some, None, ◌∙◌, ap, sym}
use Rattle.pth_base.proofs.Tables.{put_other}
use Rattle.pth_queue.specs.declared.queue.Queue.TheVariants as queue
use Rattle.pth_model.specs.Changes.{blocked_in, blocked_of, forgets, leaves_queue, removes}
use Rattle.pth_model.specs.State.{Control}
use Rattle.pth_world.proofs.Moves.{queued_rests}
use Rattle.pth_world.specs.Shows.{Shows}
use Rattle.pth_world.specs.WellFormed.{WellFormed, IsIn}
use Rattle.pth_world.specs.World.{WorldOf}

pub joined_held : {P S H : Type 0} (w v : WorldOf P S H) (t other : ℕ) → WellFormed w → w.scheduler.running ≡ Some t → IsIn queue.Dead w.threads other → ((k : Control P S H) → Shows w k → Shows v (removes other k))
    → (k j : Control P S H) → Shows w k → Shows v j → blocked_of j t ≡ blocked_of k t
unfolding forgets leaves_queue
joined_held w v t other whole runs dead shows k j sh sj =
    let apart : t ≢ other = λ same. queued_rests w other queue.Dead whole dead (runs ∙ ap Some same) in
    ap (λ (p : ℕ → Option _). blocked_in (p t)) (sj.threads.progress ∙ sym (shows k sh).threads.progress) ∙ ap blocked_in (put_other k.threads.progress other None t apart)
