use Rattle.std.proofs.Common.{inr, refl}
use Rattle.pth_streams.proofs.Pieces.{none_of}
use Rattle.pth_filter.proofs.finish.report_fault.Goals as goal

pub returns-then-is_err : goal.returns-then-is_err
returns-then-is_err g c = inr (c.status.ensures, (none_of _ _, refl))
