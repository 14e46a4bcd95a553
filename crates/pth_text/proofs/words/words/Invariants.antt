use Rattle.std.proofs.Common.{◌≡◌}
use Rattle.pth_text.proofs.words.words.Given as goal

abbrev pub invariant-loop-word : goal.invariant-loop-word
invariant-loop-word l = l.words.items ≡ l.yielded
