-- What the words of a line stand for.
use Rattle.std.specs.Prelude.{ℕ, List, [], ◌∷◌, Option, Some, None, option_and_then, option_map, drop, ℤ}
use Rattle.pth_line.specs.declared.act_line.ActLine.{ActLine}
use Rattle.pth_line.specs.declared.act_line.ActLine.TheVariants as act
use Rattle.pth_line.specs.declared.check.Check.{Check}
use Rattle.pth_line.specs.declared.line.Line.{Line}
use Rattle.pth_line.specs.declared.line.Line.TheVariants as line
use Rattle.pth_grammar.specs.CallLines.{call_line}
use Rattle.pth_spelling.specs.Starts.{start_of}
use Rattle.pth_grammar.specs.Reading.{act_values, read1, read2, read4}
use Rattle.pth_grammar.specs.declared.acts.Values.{Values}
use Rattle.pth_grammar.specs.declared.acts.Values.TheVariants as values
use Rattle.pth_spelling.specs.WordMeanings.{natural_of, register_of, operand_of, value_of, shared_of, relation_of}
use Rattle.pth_spelling.specs.declared.keyword.Keyword.{Keyword}
use Rattle.pth_spelling.specs.declared.keyword.Keyword.TheVariants as key
use Rattle.pth_spelling.specs.declared.start.Start.{Start}
use Rattle.pth_spelling.specs.declared.start.Start.TheVariants as start

-- ---- a body's lines

-- a line that makes no call; the place to which a `goto` goes is not known from its line alone
abbrev pub plain_line : Keyword → List (List ℕ) → Option Line
plain_line key.Set ws = read2 register_of operand_of (λ r x. line.Set r x) ws
plain_line key.Add ws = read2 register_of operand_of (λ r x. line.Add r x) ws
plain_line key.Note ws = read1 operand_of (λ x. line.Note x) ws
plain_line key.Label ws = read1 natural_of (λ k. line.Label k) ws
plain_line key.Goto ws = read4 natural_of operand_of relation_of operand_of (λ k x r y. line.Goto k 0 x r y) ws
plain_line _ ws = None

-- a line that begins with a keyword
abbrev pub line_by : Option Keyword → List (List ℕ) → Option Line
line_by (Some (key.Call k)) ws = option_map (λ c. line.Call None c) (call_line k ws)
line_by (Some k) ws = plain_line k ws
line_by None ws = None

-- a line of a body by how it begins, and the words after its first; `=` and a call line follow a register
abbrev pub line_begun : Start → List (List ℕ) → Option Line
line_begun (start.Word k) ws = line_by k ws
line_begun (start.Answer r (Some k)) (e ∷ w ∷ ws) = option_map (λ c. line.Call (Some r) c) (call_line k ws)
line_begun (start.Answer r k) _ = None

-- what a line of a body stands for
unfoldable pub line_of : List (List ℕ) → Option Line
line_of ws = line_begun (start_of ws) (drop 1 ws)

-- ---- a handler's acts

-- by the keyword that begins it and the values after it
abbrev pub act_with : Keyword → Values → Option ActLine
act_with key.Note (values.One x) = Some (act.Note x)
act_with key.Release (values.One x) = Some (act.Release x)
act_with key.Notify (values.Two x y) = Some (act.Notify x y)
act_with key.Put (values.Two x y) = Some (act.Put x y)
act_with key.SetKey (values.Two x y) = Some (act.SetKey x y)
act_with _ _ = None

-- an act of a keyword and values
abbrev pub valued : Keyword → List (List ℕ) → Option ActLine
valued k ws = option_and_then (λ v. act_with k v) (act_values ws)

-- by the keyword that begins it
abbrev pub act_by : Option Keyword → List (List ℕ) → Option ActLine
act_by (Some key.Note) ws = valued key.Note ws
act_by (Some key.Set) ws = read2 shared_of value_of (λ k x. act.Set k x) ws
act_by (Some key.Release) ws = valued key.Release ws
act_by (Some key.Notify) ws = valued key.Notify ws
act_by (Some key.Put) ws = valued key.Put ws
act_by (Some key.SetKey) ws = valued key.SetKey ws
act_by _ ws = None

-- by how the line begins, and the words after its first
abbrev pub act_begun : Start → List (List ℕ) → Option ActLine
act_begun (start.Word k) ws = act_by k ws
act_begun (start.Answer r k) ws = None

-- what a line of a handler stands for
unfoldable pub act_of : List (List ℕ) → Option ActLine
act_of ws = act_begun (start_of ws) (drop 1 ws)

-- ---- checks

-- without its number
abbrev pub check_by : List (List ℕ) → Option Check
check_by [] = None
check_by (n ∷ []) = None
check_by (n ∷ x ∷ []) = None
check_by (n ∷ x ∷ r ∷ []) = None
check_by (n ∷ x ∷ r ∷ y ∷ []) =
    option_and_then (λ a. option_and_then (λ s. option_map (λ b. record { left = a; relation = s; right = b }) (value_of y)) (relation_of r)) (value_of x)
check_by (n ∷ x ∷ r ∷ y ∷ z ∷ ws) = None

-- what a line that begins with `check` stands for
unfoldable pub check_of : List (List ℕ) → Option Check
check_of [] = None
check_of (w ∷ ws) = check_by ws

-- ---- numbers of lines

-- the natural number that follows the first word
unfoldable pub numbered : List (List ℕ) → Option ℤ
numbered [] = None
numbered (w ∷ []) = None
numbered (w ∷ n ∷ ws) = natural_of n
