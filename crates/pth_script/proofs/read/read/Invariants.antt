use Rattle.std.proofs.Common.{◌+◌, ◌≤◌, List, length}
use Rattle.pth_script.specs.TextRows.{TextRow}
use Rattle.pth_script.specs.Follows.{Reads}
use Rattle.pth_script.proofs.read.read.Given as goal

abbrev pub invariant-lines : goal.invariant-lines
invariant-lines l = (before : List TextRow) × Reads l.reader before l.bytes l.line l.rest × (l.line + length l.rest ≤ length l.bytes + 1) × (length l.bytes ≤ length l.rest + 16777216)

abbrev pub decreases-lines : goal.decreases-lines
decreases-lines l = length l.rest
