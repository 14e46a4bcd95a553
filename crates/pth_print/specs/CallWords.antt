-- Calls as words.
use Rattle.std.specs.Prelude.{ℕ, List, [], ◌∷◌, Option, Some, None, codes, map}
use Rattle.pth_base.specs.declared.call.Call.{Call}
use Rattle.pth_base.specs.declared.call.Call.TheVariants as call
use Rattle.pth_spelling.specs.Syntax.{syntax_of}
use Rattle.pth_print.specs.ArgWords.{arg_word}
use Rattle.pth_spelling.specs.Args.{Arg}
use Rattle.pth_print.specs.Parts.{Parts, parts_of}
use Rattle.pth_print.specs.WordTexts.{number_word}

-- operands
abbrev pub arg_words : List Arg → List (List ℕ)
arg_words os = map (λ o. arg_word o) os

-- the word of a call and its operands
abbrev pub words_of : Option Parts → List (List ℕ)
words_of (Some p) = (syntax_of p.word).text ∷ arg_words p.operands
words_of None = []

-- a call, or a line of a body that calls nothing
abbrev pub call_words : Call → List (List ℕ)
call_words call.Plain = codes "plain" ∷ []
call_words (call.Note v) = codes "note" ∷ number_word v ∷ []
call_words c = words_of (parts_of c)
