use Rattle.pth_waits.proofs.Acquiring.{others_refused}
use Rattle.pth_waits.proofs.Attempting.{refused_ready}
use Rattle.pth_waits.proofs.locking.turn_away.Goals as goal

pub returns-then-only_tries-clause-ready : goal.returns-then-only_tries-clause-ready
returns-then-only_tries-clause-ready g c call s other st = refused_ready c.args.w.now c.args.t.0 call c.args.ring c.args.errno s other st

pub returns-in_default-clause-verdict : goal.returns-in_default-clause-verdict
returns-in_default-clause-verdict g c s st ring = others_refused c.args.errno _ c.in_default.not-EBUSY

pub returns-in_default-clause-ready : goal.returns-in_default-clause-ready
returns-in_default-clause-ready g c call s other st = refused_ready c.args.w.now c.args.t.0 call c.args.ring c.args.errno s other st
