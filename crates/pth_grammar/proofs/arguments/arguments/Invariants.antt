use Rattle.std.proofs.Common.{◌≡◌}
use Rattle.pth_grammar.specs.CallLines.{arguments_of}
use Rattle.pth_grammar.proofs.ArgumentLemmas.{onto, left}
use Rattle.pth_spelling.specs.Texts.{texts}
use Rattle.pth_grammar.proofs.arguments.arguments.Given as goal

abbrev pub invariant-loop-i : goal.invariant-loop-i
invariant-loop-i l = onto l.arguments (left l.forms l.words l.i) ≡ arguments_of l.forms (texts l.words)
