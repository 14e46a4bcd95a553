use Rattle.std.proofs.Common.{subst, append-nil}
use Rattle.std.proofs.lemmas.Result.{err_from_is_err_and}
use Rattle.pth_base.specs.Cut.{IsCut}
use Rattle.pth_print.proofs.Cuts.{cut_at}
use Rattle.pth_print.proofs.Threads.{spaced_thread}
use Rattle.pth_print.proofs.end_line.add_threads.Goals as goal

pub returns-in_err-add_words : goal.returns-in_err-add_words
returns-in_err-add_words c =
    let p = err_from_is_err_and c.from_residual.result c.from_residual.ensures.1 in
    let cut = subst (IsCut c.loop-tid.out c.add_words.new.out) (append-nil _) c.in_err-add_words.ensures.err in
    rw (p.1) (record { ok = tt; err = cut_at spaced_thread c.args.threads.now c.args.out.now c.loop-tid.out _ c.loop-tid.tid-index (record { 0 = 0 }) c.loop-tid-test.true c.loop-tid.invariant cut })
