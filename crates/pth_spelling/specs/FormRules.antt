-- The rules that words break by their forms.
use Rattle.std.specs.Prelude.{ℕ, Bool, true, false, ◌&&◌, ◌||◌, not, List, [], ◌∷◌, codes, is_some, drop, option_and_then}
use Rattle.std.specs.Str.{bytes_eq}
use Rattle.pth_text.specs.Hex.{hex_bytes}
use Rattle.pth_text.specs.Number.{numeral_value}
use Rattle.pth_text.specs.declared.rule.Rule.{Rule}
use Rattle.pth_text.specs.declared.rule.Rule.TheVariants as rule
use Rattle.pth_spelling.specs.Keywords.{new_event_word, entry_word}
use Rattle.pth_spelling.specs.WordMeanings.{natural_of, number_from, descriptor_of, operand_of, maybe, register_of, value_of, shared_of, name_of, set_of, has_hex, given_of, goals_of, which_of, relation_of, field_of, thread_state_of, mode_of, direction_of, query_of}
use Rattle.pth_spelling.specs.declared.form.Form.{Form}
use Rattle.pth_spelling.specs.declared.form.Form.TheVariants as form

-- one of the words that are allowed there
abbrev pub is_listed : Form → List ℕ → Bool
is_listed form.Relation w = is_some (relation_of w)
is_listed form.Field w = is_some (field_of w)
is_listed form.State w = is_some (thread_state_of w)
is_listed form.Mode w = is_some (mode_of w)
is_listed form.Direction w = is_some (direction_of w)
is_listed form.Query w = is_some (query_of w)
is_listed form.Event w = is_some (new_event_word w)
is_listed form.Entry w = is_some (entry_word w)
is_listed _ w = true

-- the form and range of other words; pairs of digits are looked at by themselves
abbrev pub has_form : Form → List ℕ → Bool
has_form form.Natural w = is_some (natural_of w)
has_form form.Operand w = is_some (operand_of w)
has_form form.MaybeOperand w = is_some (maybe operand_of w)
has_form form.Register w = is_some (register_of w)
has_form form.Value w = is_some (value_of w)
has_form form.Shared w = is_some (shared_of w)
has_form form.Name w = is_some (name_of w)
has_form form.MaybeName w = is_some (maybe name_of w)
has_form form.Set w = is_some (set_of w)
has_form form.Bytes w = bytes_eq w (codes "buf") || has_hex w
has_form form.Goals w = is_some (goals_of w)
has_form form.Which w = is_some (which_of w)
has_form (form.Within least most) w = is_some (option_and_then (number_from least most) (numeral_value w))
has_form form.Descriptor w = is_some (descriptor_of w)
has_form _ w = true

-- pairs of digits, alone or after `hex:`
abbrev pub has_pairs : Form → List ℕ → Bool
has_pairs form.Bytes w = not (has_hex w) || is_some (given_of (drop 4 w))
has_pairs form.Pairs w = is_some (hex_bytes w)
has_pairs _ w = true

-- a word breaks a rule by its form
unfoldable pub misses : Rule → Form → List ℕ → Bool
misses rule.Word f w = not (is_listed f w)
misses rule.Operand f w = not (has_form f w)
misses rule.Hex f w = not (has_pairs f w)
misses _ f w = false

-- some word breaks the rule by its form
unfoldable pub wrong : Rule → List Form → List (List ℕ) → Bool
wrong r [] ws = false
wrong r (f ∷ fs) [] = false
wrong r (f ∷ fs) (w ∷ ws) = misses r f w || wrong r fs ws

-- a word breaks no rule by its form
unfoldable pub is_fine : Form → List ℕ → Bool
is_fine f w = is_listed f w && (has_pairs f w && has_form f w)

-- no word breaks a rule by its form
unfoldable pub are_fine : List Form → List (List ℕ) → Bool
are_fine [] ws = true
are_fine (f ∷ fs) [] = true
are_fine (f ∷ fs) (w ∷ ws) = is_fine f w && are_fine fs ws
