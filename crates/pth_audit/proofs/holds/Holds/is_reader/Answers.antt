use Rattle.std.proofs.Common.{◌∙◌, ap, ℤ, w64}
use Rattle.std.proofs.lemmas.Int.{to_z-of_z}
use Rattle.pth_audit.specs.Holds.{has_read}
use Rattle.pth_audit.proofs.holds.Holds.is_reader.Goals as goal

pub returns : goal.returns
returns c = c.contains.ensures ∙ ap (λ (l : ℤ). has_read c.args.self.now c.args.t l) (to_z-of_z w64 c.args.l c.ranges.l)
