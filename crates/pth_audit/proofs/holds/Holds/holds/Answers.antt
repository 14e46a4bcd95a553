use Rattle.std.proofs.Common.{◌∙◌, ap, w64}
use Rattle.std.proofs.lemmas.Int.{to_z-of_z}
use Rattle.pth_audit.specs.Holds.{has_written, has_read}
use Rattle.pth_audit.proofs.HoldsMaps.{first_passes, first_fails}
use Rattle.pth_audit.proofs.holds.Holds.holds.Goals as goal

pub returns-then-is_writer : goal.returns-then-is_writer
returns-then-is_writer c =
    first_passes c.is_writer.result _ (has_read c.args.self.now c.args.t c.args.l)
    (c.is_writer.ensures ∙ ap (has_written c.args.self.now c.args.t) (to_z-of_z w64 c.args.l c.ranges.l)) c.if-is_writer.true

pub returns-else-is_writer : goal.returns-else-is_writer
returns-else-is_writer c =
    let l = to_z-of_z w64 c.args.l c.ranges.l in
    first_fails c.is_writer.result c.is_reader.result _ _ (c.is_writer.ensures ∙ ap (has_written c.args.self.now c.args.t) l) c.if-is_writer.false
    (c.is_reader.ensures ∙ ap (has_read c.args.self.now c.args.t) l)
