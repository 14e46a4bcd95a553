use Rattle.pth_port.proofs.Naming.{nothing_mail, nothing_names, nothing_kept}
use Rattle.pth_port.proofs.ports.Ports.new.Goals as goal

pub invariant_of-result : goal.invariant_of-result
invariant_of-result c = rw (c.new.ensures.empty, c.new-2.ensures.empty) nothing_kept

pub returns-clause-mail : goal.returns-clause-mail
returns-clause-mail c = rw (c.new.ensures.empty, c.new-2.ensures.empty) nothing_mail

pub returns-clause-names : goal.returns-clause-names
returns-clause-names c = rw (c.new.ensures.empty, c.new-2.ensures.empty) nothing_names
