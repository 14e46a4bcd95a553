-- The shapes of lines as the code has them.
use Rattle.pth_grammar.specs.Shapes.{Shape, Unknown, Short, Unequal, Asks}
use Rattle.pth_spelling.specs.Texts.{texts}
use Rattle.pth_grammar.specs.declared.shape.Shape as code
use Rattle.pth_grammar.specs.declared.shape.Shape.TheVariants as shape

-- what the code's shape stands for
abbrev pub asked : code.Shape → Shape
asked shape.Unknown = Unknown
asked shape.Short = Short
asked shape.Unequal = Unequal
asked (shape.Asks fs ws) = Asks fs.now (texts ws.now)
