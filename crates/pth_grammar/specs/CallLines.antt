-- What the words of a call line stand for, after its first word: an operand for each form of the call.
use Rattle.std.specs.Prelude.{ℕ, List, [], ◌∷◌, Option, Some, None, option_and_then, option_map}
use Rattle.pth_line.specs.declared.argument.Argument.{Argument}
use Rattle.pth_line.specs.declared.argument.Argument.TheVariants as argument
use Rattle.pth_line.specs.declared.call_line.CallLine.{CallLine}
use Rattle.pth_spelling.specs.Keywords.{new_event_word}
use Rattle.pth_spelling.specs.WordMeanings.{operand_of, maybe, name_of, set_of, bytes_of, goals_of, which_of, field_of, thread_state_of, mode_of, direction_of, query_of}
use Rattle.pth_spelling.specs.declared.form.Form.{Form}
use Rattle.pth_spelling.specs.declared.form.Form.TheVariants as form
use Rattle.pth_spelling.specs.declared.keyword.CallWord.{CallWord}
use Rattle.pth_grammar.specs.Forms.{call_forms}

-- the operand that a word of a list names
abbrev pub choice_of : Form → List ℕ → Option Argument
choice_of form.Goals w = option_map (λ goals. argument.Goals goals) (goals_of w)
choice_of form.Which w = option_map (λ all. argument.Which all) (which_of w)
choice_of form.Mode w = option_map (λ write. argument.Mode write) (mode_of w)
choice_of form.Direction w = option_map (λ d. argument.Walk d) (direction_of w)
choice_of form.Field w = option_map (λ f. argument.Field f) (field_of w)
choice_of form.State w = option_map (λ s. argument.State s) (thread_state_of w)
choice_of form.Query w = option_map (λ k. argument.Query k) (query_of w)
choice_of form.Event w = option_map (λ k. argument.Event k) (new_event_word w)
choice_of _ w = None

-- the operand of a form that a word spells
abbrev pub argument_of : Form → List ℕ → Option Argument
argument_of form.Operand w = option_map (λ x. argument.Number x) (operand_of w)
argument_of form.MaybeOperand w = option_map (λ x. argument.MaybeNumber x) (maybe operand_of w)
argument_of form.Name w = option_map (λ name. argument.Name name) (name_of w)
argument_of form.MaybeName w = option_map (λ name. argument.MaybeName name) (maybe name_of w)
argument_of form.Set w = option_map (λ set. argument.Set set) (set_of w)
argument_of form.Bytes w = option_map (λ bytes. argument.Bytes bytes) (bytes_of w)
argument_of f w = choice_of f w

-- the operands that words spell, one for each form
unfoldable pub arguments_of : List Form → List (List ℕ) → Option (List Argument)
arguments_of [] [] = Some []
arguments_of (f ∷ fs) (w ∷ ws) = option_and_then (λ o. option_map (λ os. o ∷ os) (arguments_of fs ws)) (argument_of f w)
arguments_of _ _ = None

unfoldable pub call_line : CallWord → List (List ℕ) → Option CallLine
call_line k ws = option_map (λ os. record { word = k; operands = os }) (arguments_of (call_forms k ws) ws)
