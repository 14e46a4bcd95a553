-- What a line of words asks for, and the rules that its words break.
use Rattle.std.specs.Prelude.{ℕ, Bool, true, false, not, List, [], ◌∷◌, length, Option, Some, None, ◌==◌, if◌then◌else◌, codes, option_and_then, option_map, drop}
use Rattle.std.specs.List.{find}
use Rattle.std.specs.Str.{bytes_eq}
use Rattle.pth_grammar.specs.Forms.{forms_of, call_forms}
use Rattle.pth_spelling.specs.Starts.{start_of}
use Rattle.pth_spelling.specs.declared.keyword.CallWord.{CallWord}
use Rattle.pth_spelling.specs.declared.start.Start.{Start}
use Rattle.pth_spelling.specs.declared.start.Start.TheVariants as start
use Rattle.pth_spelling.specs.FormRules.{wrong}
use Rattle.pth_spelling.specs.declared.form.Form.{Form}
use Rattle.pth_text.specs.declared.rule.Rule.{Rule}
use Rattle.pth_text.specs.declared.rule.Rule.TheVariants as rule
use Rattle.pth_grammar.specs.declared.section.Section.{Section}
use Rattle.pth_grammar.specs.declared.section.Section.TheVariants as sec

-- ---- what a line asks for

-- an unknown word; a register with less than a call; a register with no `=`; or forms, and the words that must have them
pub data Shape : Type 0 where
  Unknown : Shape
  Short : Shape
  Unequal : Shape
  Asks : List Form → List (List ℕ) → Shape

-- the forms, where the line may begin so
abbrev pub shape_by_forms : List (List ℕ) → Option (List Form) → Shape
shape_by_forms ws None = Unknown
shape_by_forms ws (Some fs) = Asks fs ws

-- the words after a register, and the call that they name, if they name one
abbrev pub after_register : Option CallWord → List (List ℕ) → Shape
after_register k [] = Short
after_register k (e ∷ []) = Short
after_register k (e ∷ w ∷ ws) = if bytes_eq e (codes "=") then shape_by_forms ws (option_map (λ k. call_forms k ws) k) else Unequal

-- the words after the first, by how the line begins; a register may begin a line of a body only
abbrev pub shape_begun : Start → Section → List (List ℕ) → Shape
shape_begun (start.Word k) s ws = shape_by_forms ws (option_and_then (λ k. forms_of s k ws) k)
shape_begun (start.Answer r k) sec.Body ws = after_register k ws
shape_begun (start.Answer r k) _ ws = Unknown

-- what a line of a section asks for
unfoldable pub shape_of : Section → List (List ℕ) → Shape
shape_of s ws = shape_begun (start_of ws) s (drop 1 ws)

-- ---- what its words break

-- the words of a line break a rule
unfoldable pub words_break : Rule → Shape → Bool
words_break rule.Word Unknown = true
words_break rule.Word (Asks fs ws) = wrong rule.Word fs ws
words_break rule.Count Short = true
words_break rule.Count (Asks fs ws) = not (length fs == length ws)
words_break rule.Operand Unequal = true
words_break rule.Operand (Asks fs ws) = wrong rule.Operand fs ws
words_break rule.Hex (Asks fs ws) = wrong rule.Hex fs ws
words_break _ _ = false

-- the rules on words, in their order
abbrev pub word_rules : List Rule
word_rules = rule.Word ∷ rule.Count ∷ rule.Operand ∷ rule.Hex ∷ []

-- the first of them that the words of a line break
unfoldable pub words_fault : Section → List (List ℕ) → Option Rule
words_fault s ws = find (λ r. words_break r (shape_of s ws)) word_rules
