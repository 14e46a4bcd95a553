use Rattle.std.proofs.Common.{None}
use Rattle.pth_audit.proofs.Places.{value_after_change}
use Rattle.pth_audit.proofs.values.unset_at.Goals as goal

pub returns : goal.returns
returns c = value_after_change c.args.values.now c.remove-old.new.self c.args.place.now.0 c.args.place.now.1 None c.remove-old.ensures.updates
