use Rattle.std.proofs.Common.{◌≡◌, ◌++◌, length, true}
use Rattle.std.specs.List.{list_all}
use Rattle.pth_text.specs.Hex.{pair_bytes, is_hex_digit}
use Rattle.pth_text.proofs.hex.push_pairs.Given as goal

abbrev pub invariant-loop-rest : goal.invariant-loop-rest
invariant-loop-rest l = record {
  same : l.bytes.items ++ pair_bytes l.rest ≡ l.initial.bytes.items ++ pair_bytes l.digits;
  digits : list_all (λ c. is_hex_digit c) l.rest ≡ true;
}

abbrev pub decreases-loop-rest : goal.decreases-loop-rest
decreases-loop-rest l = length l.rest
