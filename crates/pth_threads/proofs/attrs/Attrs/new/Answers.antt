use Rattle.pth_threads.proofs.Objects.{no_objects, kept_none}
use Rattle.pth_threads.proofs.attrs.Attrs.new.Goals as goal

pub invariant_of-result : goal.invariant_of-result
invariant_of-result c = kept_none (record { objects = c.new.result; top = c.args.top }) c.new.ensures.things c.new.ensures.limit c.requires

pub returns-clause-objects : goal.returns-clause-objects
returns-clause-objects c = no_objects (record { objects = c.new.result; top = c.args.top }) c.new.ensures.slots
