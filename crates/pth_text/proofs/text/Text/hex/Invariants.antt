use Rattle.std.proofs.Common.{◌≡◌, ◌++◌, take, length}
use Rattle.pth_text.specs.Hex.{hex_of}
use Rattle.pth_text.proofs.text.Text.hex.Given as goal

abbrev pub invariant-loop-x : goal.invariant-loop-x
invariant-loop-x l = record {
  grown : l.self-inside.bytes.items ≡ l.initial.self-inside.bytes.items ++ hex_of (take l.x-index l.b);
  start : l.len ≡ length l.initial.self-inside.bytes.items;
}
