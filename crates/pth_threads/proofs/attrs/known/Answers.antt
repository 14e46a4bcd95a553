use Rattle.std.proofs.Common.{sym, ◌∙◌}
use Rattle.pth_threads.proofs.Objects.{not_known, entry_known}
use Rattle.pth_threads.proofs.attrs.known.Goals as goal

pub returns-in-Some-clause-entry : goal.returns-in-Some-clause-entry
returns-in-Some-clause-entry c = sym (entry_known c.args.threads.now c.args.t.0 c.in-Some.slot.0 c.in-Some.ensures.slot ∙ c.get.ensures.entry)

pub returns-in-None-clause-entry : goal.returns-in-None-clause-entry
returns-in-None-clause-entry c = sym (not_known c.args.threads.now c.args.t.0 c.in-None.ensures.slot)
