use Rattle.std.proofs.Common.{◌∙◌, ap, true, cond, ℤ, w64}
use Rattle.std.specs.Ordering.{is_eq}
use Rattle.std.proofs.lemmas.Int.{to_z-of_z}
use Rattle.pth_audit.specs.Holds.{by_lock, reads_under}
use Rattle.pth_audit.proofs.HoldsReaders.{reader_added}
use Rattle.pth_audit.proofs.holds.add_reader.Goals as goal

pub returns : goal.returns
returns c =
    reader_added c.args.readers.now c.insert.new.self c.args.t c.args.l
    (λ q. c.in_ok-_fresh.ensures.updates.0 q ∙ ap (λ (l : ℤ). cond (is_eq (by_lock (l, c.args.t) q)) true (reads_under c.args.readers.now q.1 q.0)) (to_z-of_z w64 c.args.l c.ranges.l))
