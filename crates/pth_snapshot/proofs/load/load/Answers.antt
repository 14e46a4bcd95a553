use Rattle.pth_snapshot.proofs.Loading.{start_between}
use Rattle.pth_snapshot.proofs.load.load.Goals as goal

pub bring-requires-clause-between : goal.bring-requires-clause-between
bring-requires-clause-between c = start_between _ _ c.in-Ok-new.machine c.in-Ok-new.ensures.stands c.in-Ok-new.ensures.outcome
