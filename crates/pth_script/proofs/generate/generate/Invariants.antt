use Rattle.std.proofs.Common.{◌≡◌, ◌<◌, ◌++◌}
use Rattle.pth_script.specs.Generated.{head_text, number_after, spawned_texts}
use Rattle.pth_script.proofs.generate.generate.Given as goal

abbrev pub invariant-threads : goal.invariant-threads
invariant-threads l = record {
  made : l.text ≡ head_text ++ spawned_texts l.n l.i;
  number : l.number ≡ number_after l.n l.i;
  small : l.number < 2147483648;
}
