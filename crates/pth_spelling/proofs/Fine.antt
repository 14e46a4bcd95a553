-- Words that have their forms stand for something.
use Rattle.std.proofs.Common.{◌≡◌, ℕ, Bool, true, false, not, ◌||◌, List, [], ◌∷◌, Option, Some, None, refl}
use Rattle.std.specs.Prelude.{is_some, option_and_then, option_map, codes, drop, if◌then◌else◌}
use Rattle.std.specs.Str.{bytes_eq}
use Rattle.pth_operand.specs.declared.operand.ByteOperand.TheVariants as bytes
use Rattle.pth_text.specs.Hex.{hex_bytes}
use Rattle.pth_text.specs.Number.{numeral_value}
use Rattle.pth_text.specs.declared.rule.Rule.TheVariants as rule
use Rattle.pth_spelling.specs.Keywords.{new_event_word, entry_word}
use Rattle.pth_spelling.specs.WordMeanings.{natural_of, number_from, descriptor_of, register_of, operand_of, value_of, shared_of, name_of, set_of, bytes_of, has_hex, given_of, goals_of, which_of, relation_of, field_of, thread_state_of, mode_of, direction_of, query_of, maybe}
use Rattle.pth_spelling.specs.FormRules.{misses}
use Rattle.pth_spelling.specs.declared.form.Form.{Form}
use Rattle.pth_spelling.specs.declared.form.Form.TheVariants as form

-- ---- words and forms

-- a word breaks no rule by its form
pub record IsFine (f : Form) (w : List ℕ) : Type 0 where
  pub listed : misses rule.Word f w ≡ false
  pub formed : misses rule.Operand f w ≡ false
  pub paired : misses rule.Hex f w ≡ false

-- there is a word for each form, and none breaks a rule by it
abbrev pub AllFine : List Form → List (List ℕ) → Type 0
AllFine [] [] = Unit {0}
AllFine [] (w ∷ ws) = ⊥
AllFine (f ∷ fs) [] = ⊥
AllFine (f ∷ fs) (w ∷ ws) = IsFine f w × AllFine fs ws

-- a word of the form is one that the reader takes
pub record Reads {A : Type 0} (f : Form) (reader : List ℕ → Option A) : Type 0 where
  pub reads : (w : List ℕ) → IsFine f w → is_some (reader w) ≡ true

-- ---- the reader of each form

sure : (b : Bool) → not b ≡ false → b ≡ true
sure true h = refl
sure false h = absurd (cc)

pub natural : Reads form.Natural natural_of
unfolding misses
natural = record { reads = λ w fine. sure (is_some (natural_of w)) fine.formed }

pub operand : Reads form.Operand operand_of
unfolding misses
operand = record { reads = λ w fine. sure (is_some (operand_of w)) fine.formed }

pub maybe_operand : Reads form.MaybeOperand (maybe operand_of)
unfolding misses
maybe_operand = record { reads = λ w fine. sure (is_some (maybe operand_of w)) fine.formed }

pub register : Reads form.Register register_of
unfolding misses
register = record { reads = λ w fine. sure (is_some (register_of w)) fine.formed }

pub value : Reads form.Value value_of
unfolding misses
value = record { reads = λ w fine. sure (is_some (value_of w)) fine.formed }

pub shared : Reads form.Shared shared_of
unfolding misses
shared = record { reads = λ w fine. sure (is_some (shared_of w)) fine.formed }

pub name : Reads form.Name name_of
unfolding misses
name = record { reads = λ w fine. sure (is_some (name_of w)) fine.formed }

pub maybe_name : Reads form.MaybeName (maybe name_of)
unfolding misses
maybe_name = record { reads = λ w fine. sure (is_some (maybe name_of w)) fine.formed }

pub set : Reads form.Set set_of
unfolding misses
set = record { reads = λ w fine. sure (is_some (set_of w)) fine.formed }

pub goals : Reads form.Goals goals_of
unfolding misses
goals = record { reads = λ w fine. sure (is_some (goals_of w)) fine.formed }

pub which : Reads form.Which which_of
unfolding misses
which = record { reads = λ w fine. sure (is_some (which_of w)) fine.formed }

pub relation : Reads form.Relation relation_of
unfolding misses
relation = record { reads = λ w fine. sure (is_some (relation_of w)) fine.listed }

pub field : Reads form.Field field_of
unfolding misses
field = record { reads = λ w fine. sure (is_some (field_of w)) fine.listed }

pub state : Reads form.State thread_state_of
unfolding misses
state = record { reads = λ w fine. sure (is_some (thread_state_of w)) fine.listed }

pub mode : Reads form.Mode mode_of
unfolding misses
mode = record { reads = λ w fine. sure (is_some (mode_of w)) fine.listed }

pub direction : Reads form.Direction direction_of
unfolding misses
direction = record { reads = λ w fine. sure (is_some (direction_of w)) fine.listed }

pub query : Reads form.Query query_of
unfolding misses
query = record { reads = λ w fine. sure (is_some (query_of w)) fine.listed }

pub event : Reads form.Event new_event_word
unfolding misses
event = record { reads = λ w fine. sure (is_some (new_event_word w)) fine.listed }

pub within : (least most : ℕ) → Reads (form.Within least most) (λ w. option_and_then (number_from least most) (numeral_value w))
unfolding misses
within least most = record { reads = λ w fine. sure (is_some (option_and_then (number_from least most) (numeral_value w))) fine.formed }

pub descriptor : Reads form.Descriptor descriptor_of
unfolding misses
descriptor = record { reads = λ w fine. sure (is_some (descriptor_of w)) fine.formed }

pub entry : Reads form.Entry entry_word
unfolding misses
entry = record { reads = λ w fine. sure (is_some (entry_word w)) fine.listed }

pub pairs : Reads form.Pairs hex_bytes
unfolding misses
pairs = record { reads = λ w fine. sure (is_some (hex_bytes w)) fine.paired }

bytes_by : (buf hex : Bool) (given : Option (List ℕ)) → not (buf || hex) ≡ false → not (not hex || is_some given) ≡ false → is_some (if buf then Some bytes.Buffer else (if hex then option_map (λ b. bytes.Given b) given else None)) ≡ true
bytes_by true hex given f p = refl
bytes_by false true (Some b) f p = refl
bytes_by false true None f p = absurd (cc)
bytes_by false false given f p = absurd (cc)

pub byte_operand : Reads form.Bytes bytes_of
unfolding misses bytes_of
byte_operand = record { reads = λ w fine. bytes_by (bytes_eq w (codes "buf")) (has_hex w) (given_of (drop 4 w)) fine.formed fine.paired }
