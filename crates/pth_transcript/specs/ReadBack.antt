-- How words are read back as a call.
use Rattle.std.specs.Prelude.{◌≡◌, ℕ, List, Option, Some, None}
use Rattle.pth_base.specs.declared.call.Call.{Call}
use Rattle.pth_line.specs.CallLines.{call_in}
use Rattle.pth_operand.specs.Values.{Scope}
use Rattle.pth_line.specs.declared.call_line.CallLine.{CallLine}
use Rattle.pth_line.specs.declared.line.Line.TheVariants as body
use Rattle.pth_grammar.specs.LineMeanings.{line_of}
use Rattle.pth_print.specs.CallWords.{call_words}
use Rattle.pth_transcript.specs.Readable.{IsReadable}

-- the line makes the call, whatever the registers hold
abbrev pub MakesCall : CallLine → Call → Type 0
MakesCall line c = (s : Scope) → call_in s line ≡ c

-- the words are a line of a script that makes the call
pub record IsScripted (words : List (List ℕ)) (c : Call) : Type 0 where
  pub line : CallLine
  pub read : line_of words ≡ Some (body.Call None line)
  pub made : MakesCall line c

-- what is found is the call of which the words are printed
abbrev pub IsReadBack : List (List ℕ) → Option Call → Type 0
IsReadBack words found = (c : Call) → IsReadable c → words ≡ call_words c → found ≡ Some c
