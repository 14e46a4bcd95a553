use Rattle.pth_audit.proofs.Auditing.{lawful_none}
use Rattle.pth_audit.proofs.auditor.Auditor.new.Goals as goal

pub returns : goal.returns
returns c = record { lawful = lawful_none; endings = c.new.ensures; holds = c.new-2.ensures; mail = c.new-3.ensures }
