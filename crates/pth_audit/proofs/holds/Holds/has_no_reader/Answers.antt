use Rattle.std.proofs.Common.{◌∙◌, ap, ℤ, w64}
use Rattle.std.specs.List.{list_any}
use Rattle.std.specs.Ordering.{int_eq}
use Rattle.std.proofs.lemmas.Int.{to_z-of_z}
use Rattle.pth_audit.proofs.HoldsFree.{no_reader_of}
use Rattle.pth_audit.proofs.holds.Holds.has_no_reader.Goals as goal

pub returns : goal.returns
returns c =
    no_reader_of c.args.l c.args.self.now.readers c.is_read.result
    (c.is_read.ensures ∙ ap (λ (l : ℤ). list_any (λ x. int_eq x.0 l) c.args.self.now.readers.keys) (to_z-of_z w64 c.args.l c.ranges.l))
