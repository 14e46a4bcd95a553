use Rattle.std.proofs.Common.{◌≡◌, ◌||◌, refl}
use Rattle.pth_kernel.specs.Trace.{is_out_of_range, is_before_last, breaks_fd}
use Rattle.pth_kernel.proofs.Knowing.{or_then, or_else}
use Rattle.pth_kernel.proofs.rules.Rules.faults.Goals as goal
use Rattle.pth_kernel.proofs.rules.Rules.faults.Goals.{then-is_before_last, else-is_before_last, then-is_out_of_range, else-is_out_of_range}

pub returns-then-breaks_fd : goal.returns-then-breaks_fd
returns-then-breaks_fd c live above k =
    let s = c.args.stamp.now in
    let two : c.if-is_out_of_range.value ≡ (is_out_of_range s || is_before_last above s.at) = elim c.if-is_out_of_range.branch [ then-is_out_of_range v ↦ or_then _ _ _ _ c.is_out_of_range.ensures v.if-is_out_of_range.true v.value-is | else-is_out_of_range v ↦ or_else _ _ _ _ _ c.is_out_of_range.ensures v.if-is_out_of_range.false v.value-is (v.is_before_last.ensures live above k) ] in
    let three : c.if-is_before_last.value ≡ (is_out_of_range s || is_before_last above s.at || breaks_fd live above s) = elim c.if-is_before_last.branch [ then-is_before_last v ↦ or_then _ _ _ _ two v.if-is_before_last.true v.value-is | else-is_before_last v ↦ or_else _ _ _ _ _ two v.if-is_before_last.false v.value-is (v.breaks_fd.ensures live above k) ] in
    or_then _ _ _ _ three c.if-breaks_fd.true refl

pub returns-else-breaks_fd : goal.returns-else-breaks_fd
returns-else-breaks_fd c live above k =
    let s = c.args.stamp.now in
    let two : c.if-is_out_of_range.value ≡ (is_out_of_range s || is_before_last above s.at) = elim c.if-is_out_of_range.branch [ then-is_out_of_range v ↦ or_then _ _ _ _ c.is_out_of_range.ensures v.if-is_out_of_range.true v.value-is | else-is_out_of_range v ↦ or_else _ _ _ _ _ c.is_out_of_range.ensures v.if-is_out_of_range.false v.value-is (v.is_before_last.ensures live above k) ] in
    let three : c.if-is_before_last.value ≡ (is_out_of_range s || is_before_last above s.at || breaks_fd live above s) = elim c.if-is_before_last.branch [ then-is_before_last v ↦ or_then _ _ _ _ two v.if-is_before_last.true v.value-is | else-is_before_last v ↦ or_else _ _ _ _ _ two v.if-is_before_last.false v.value-is (v.breaks_fd.ensures live above k) ] in
    or_else _ _ _ _ _ three c.if-breaks_fd.false refl (c.is_full.ensures live above k)
