use Rattle.pth_io.proofs.Selecting.{any_found}
use Rattle.pth_io.proofs.select.is_any_ready.Goals as goal

pub returns : goal.returns
returns c = any_found _ _ _ _ c.of.result _ c.of.ensures c.count.ensures
