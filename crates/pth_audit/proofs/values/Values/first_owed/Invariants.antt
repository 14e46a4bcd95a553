use Rattle.std.proofs.Common.{◌≡◌}
use Rattle.pth_audit.specs.Endings.{first_owed, value_in}
use Rattle.pth_audit.proofs.values.Values.first_owed.Given as goal

-- the first of those that are left is the first of all
abbrev pub invariant-loop-key : goal.invariant-loop-key
invariant-loop-key l = first_owed (value_in l.self.values l.t.0) l.last l.key-iterator ≡ first_owed (value_in l.self.values l.t.0) l.last l.self.keys.entries
