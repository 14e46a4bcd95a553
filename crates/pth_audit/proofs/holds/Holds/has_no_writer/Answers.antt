use Rattle.std.proofs.Common.{◌∙◌, ap, ℕ, int_cmp, w64, Option, subst}
use Rattle.std.specs.Bool.{Decides}
use Rattle.std.specs.BTreeMap.{get}
use Rattle.std.proofs.lemmas.Int.{to_z-of_z}
use Rattle.pth_audit.proofs.HoldsMaps.{IsUnwritten}
use Rattle.pth_audit.proofs.holds.Holds.has_no_writer.Goals as goal

pub returns : goal.returns
returns c =
    subst (λ (w : Option ℕ). Decides c.is_unwritten.result (IsUnwritten w))
    (c.writer.ensures ∙ ap (get int_cmp c.args.self.now.writers) (to_z-of_z w64 c.args.l c.ranges.l)) c.is_unwritten.ensures
