use Rattle.std.proofs.Common.{codes}
use Rattle.pth_print.proofs.Cuts.{adds_then, adds_same}
use Rattle.pth_print.proofs.Threads.{threads_spaced}
use Rattle.pth_print.proofs.end_line.add_end.Goals as goal

pub returns-in_ok-push-in-Stalled : goal.returns-in_ok-push-in-Stalled
returns-in_ok-push-in-Stalled c =
    rw (c.in-Stalled.is) (adds_then _ _ _ (codes "stalled") _ c.add_threads.result c.in_ok-push-in-Stalled.ensures.ok (adds_same _ _ _ _ c.add_threads.result (threads_spaced c.args.live.now) c.add_threads.ensures))
