use Rattle.std.proofs.Common.{◌≡◌, drop}
use Rattle.pth_spelling.specs.Named.{named_in, table_of}
use Rattle.pth_spelling.proofs.named.named.Given as goal

abbrev pub invariant-loop-row : goal.invariant-loop-row
invariant-loop-row g l = named_in (table_of l.table) l.word ≡ named_in (table_of (drop l.row-index l.table)) l.word
