use Rattle.std.proofs.Common.{◌≡◌}
use Rattle.pth_store.specs.Keys.{first_live, tables_of}
use Rattle.pth_store.proofs.keys.Keys.first_live.Given as goal

abbrev pub invariant-loop-k : goal.invariant-loop-k
invariant-loop-k l = first_live (tables_of l.self) l.s.0 l.from ≡ first_live (tables_of l.self) l.s.0 l.k
