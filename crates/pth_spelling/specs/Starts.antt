-- How lines begin.
use Rattle.std.specs.Prelude.{ℕ, List, [], ◌∷◌, Option, Some, None}
use Rattle.pth_operand.specs.declared.operand.Register.{Register}
use Rattle.pth_spelling.specs.Keywords.{call_word, keyword_of}
use Rattle.pth_spelling.specs.WordMeanings.{register_of}
use Rattle.pth_spelling.specs.declared.keyword.CallWord.{CallWord}
use Rattle.pth_spelling.specs.declared.keyword.Keyword.{Keyword}
use Rattle.pth_spelling.specs.declared.start.Start.{Start}
use Rattle.pth_spelling.specs.declared.start.Start.TheVariants as start

-- the call that words after a register name
abbrev pub called : List (List ℕ) → Option CallWord
called [] = None
called (e ∷ []) = None
called (e ∷ k ∷ ws) = call_word k

-- by the register that is the first word, if it is one
abbrev pub started : Option Register → List ℕ → List (List ℕ) → Start
started (Some r) w ws = start.Answer r (called ws)
started None w ws = start.Word (keyword_of w)

-- how a line of words begins
unfoldable pub start_of : List (List ℕ) → Start
start_of [] = start.Word None
start_of (w ∷ ws) = started (register_of w) w ws

abbrev pub keyword_in : Start → Option Keyword
keyword_in (start.Word k) = k
keyword_in (start.Answer r k) = None

-- the keyword that begins a line; a line that begins with a register has none
unfoldable pub begins : List (List ℕ) → Option Keyword
begins ws = keyword_in (start_of ws)
