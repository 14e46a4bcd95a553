-- The operands of a line as the code has them.
use Rattle.std.specs.Prelude.{List}
use Rattle.pth_line.specs.CallLines.{args_in}
use Rattle.pth_line.specs.declared.places.Places.{Places}
use Rattle.pth_operand.specs.Values.{scope}
use Rattle.pth_spelling.specs.Args.{Arg}

-- the operands, each with its number or its bytes
abbrev pub placed : Places → List Arg
placed p = args_in (scope p.frame.now p.cells.now) p.arguments.now
