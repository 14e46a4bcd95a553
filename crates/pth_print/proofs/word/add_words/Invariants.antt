use Rattle.std.proofs.Common.{◌≡◌, ◌++◌, take}
use Rattle.pth_print.specs.WordTexts.{phrase_of}
use Rattle.pth_print.proofs.word.add_words.Given as goal

abbrev pub invariant-loop-word : goal.invariant-loop-word
invariant-loop-word l = l.out ≡ l.initial.out ++ phrase_of (take l.word-index l.words)
