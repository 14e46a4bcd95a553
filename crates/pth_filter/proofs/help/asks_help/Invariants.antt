use Rattle.std.proofs.Common.{◌≡◌, drop, map, string_bytes}
use Rattle.pth_filter.specs.Help.{asks_help}
use Rattle.pth_filter.proofs.help.asks_help.Given as goal

abbrev pub invariant-loop-word : goal.invariant-loop-word
invariant-loop-word l = asks_help (map string_bytes l.words) ≡ asks_help (map string_bytes (drop l.word-index l.words))
