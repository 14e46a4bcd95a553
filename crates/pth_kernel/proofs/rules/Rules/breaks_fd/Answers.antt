use Rattle.std.proofs.Common.{◌≡◌, not, ◌||◌, ◌∙◌, sym, ap, refl}
use Rattle.pth_kernel.specs.Trace.{is_fd_known, brings_known}
use Rattle.pth_kernel.proofs.Knowing.{or_then, or_else}
use Rattle.pth_kernel.proofs.rules.Rules.breaks_fd.Goals as goal
use Rattle.pth_kernel.proofs.rules.Rules.breaks_fd.Goals.{then-not-is_known, else-not-is_known}

pub returns-then-is_input : goal.returns-then-is_input
returns-then-is_input c live above k =
    let s = c.args.stamp.now in
    let unknown = ap not (c.is_known.ensures live above k) in
    let two : c.if-not-is_known.value ≡ (not (is_fd_known live above s.fd.0) || brings_known live above s.what) = elim c.if-not-is_known.branch [ then-not-is_known v ↦ or_then _ _ _ _ unknown (ap not v.if-not-is_known.true) v.value-is | else-not-is_known v ↦ or_else _ _ _ _ _ unknown (ap not v.if-not-is_known.false) v.value-is (v.brings_known.ensures live above k) ] in
    or_else _ _ _ _ _ two c.if-brings_known.false refl (rw (sym c.is_input.ensures ∙ c.if-is_input.true) (c.has_ended.ensures live above k))
