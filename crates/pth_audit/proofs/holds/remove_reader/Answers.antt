use Rattle.std.proofs.Common.{◌∙◌, ap, false, cond, ℤ, w64}
use Rattle.std.specs.Ordering.{is_eq}
use Rattle.std.proofs.lemmas.Int.{to_z-of_z}
use Rattle.pth_audit.specs.Holds.{by_lock, reads_under}
use Rattle.pth_audit.proofs.HoldsReaders.{reader_removed}
use Rattle.pth_audit.proofs.holds.remove_reader.Goals as goal

pub returns : goal.returns
returns c =
    reader_removed c.args.readers.now c.remove-was.new.self c.args.t c.args.l
    (λ q. c.remove-was.ensures.updates.0 q ∙ ap (λ (l : ℤ). cond (is_eq (by_lock (l, c.args.t) q)) false (reads_under c.args.readers.now q.1 q.0)) (to_z-of_z w64 c.args.l c.ranges.l))
