use Rattle.std.proofs.Common.{◌≡◌, ◌<◌, ◌^◌, drop}
use Rattle.pth_text.proofs.Numbers.{number_after}
use Rattle.pth_text.proofs.number.digits_number.Given as goal

abbrev pub invariant-loop-b : goal.invariant-loop-b
invariant-loop-b l = record {
  rest : number_after 0 l.digits ≡ number_after l.n (drop l.b-index l.digits);
  low : l.n < 10 ^ l.b-index;
}
