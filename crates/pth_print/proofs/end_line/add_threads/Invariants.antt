use Rattle.std.proofs.Common.{◌≡◌, ◌++◌, codes, flat_map, take}
use Rattle.pth_print.specs.WordTexts.{tid_word}
use Rattle.pth_print.proofs.end_line.add_threads.Given as goal

abbrev pub invariant-loop-tid : goal.invariant-loop-tid
invariant-loop-tid l = l.out ≡ l.initial.out ++ flat_map (λ t. codes " " ++ tid_word t.0) (take l.tid-index l.threads)
