use Rattle.std.proofs.Common.{◌≡◌}
use Rattle.pth_port.specs.Ports.{first_named}
use Rattle.pth_port.proofs.entries.port_named.Given as goal

-- the first of those that are left is the first of all
abbrev pub invariant-loop-p : goal.invariant-loop-p
invariant-loop-p l = first_named l.name l.p-iterator ≡ first_named l.name l.ports.entries
