-- What single words stand for.
use Rattle.std.specs.Prelude.{ℕ, ◌+◌, ◌^◌, ◌==◌, ◌&&◌, ◌||◌, Bool, true, false, List, [], ◌∷◌, length, Option, Some, None, if◌then◌else◌, codes, option_and_then, option_map, is_some, ℤ, pos, negsuc, nat_lt, nat_le, drop, take, slice_index}
use Rattle.std.specs.Int.{is_in_range}
use Rattle.std.specs.Str.{bytes_eq}
use Rattle.std.specs.List.{slice_split, list_all}
use Rattle.pth_spelling.specs.Named.{named_in}
use Rattle.pth_base.specs.Descriptors.{descriptor_limit}
use Rattle.pth_base.specs.declared.attr.AttrField.{AttrField}
use Rattle.pth_base.specs.declared.attr.AttrField.TheVariants as field
use Rattle.pth_base.specs.declared.ids.FdSet.{FdSet}
use Rattle.pth_base.specs.declared.thread.ThreadState.{ThreadState}
use Rattle.pth_base.specs.declared.thread.ThreadState.TheVariants as state
use Rattle.pth_text.specs.Bytes.{code}
use Rattle.pth_text.specs.Number.{numeral_value}
use Rattle.pth_text.specs.Hex.{hex_bytes}
use Rattle.pth_operand.specs.declared.operand.ByteOperand.{ByteOperand}
use Rattle.pth_operand.specs.declared.operand.ByteOperand.TheVariants as bytes
use Rattle.pth_operand.specs.declared.operand.Operand.{Operand}
use Rattle.pth_operand.specs.declared.operand.Operand.TheVariants as operand
use Rattle.pth_operand.specs.declared.operand.Register.{Register}
use Rattle.pth_operand.specs.declared.operand.Register.TheVariants as reg
use Rattle.pth_operand.specs.declared.operand.Value.{Value}
use Rattle.pth_operand.specs.declared.operand.Value.TheVariants as value
use Rattle.pth_operand.specs.declared.relation.Relation.{Relation}
use Rattle.pth_spelling.specs.declared.direction.Direction.{Direction}
use Rattle.pth_spelling.specs.declared.keyword.QueryWord.{QueryWord}
use Rattle.pth_spelling.specs.declared.keyword.QueryWord.TheVariants as query
use Rattle.pth_operand.specs.declared.relation.Relation.TheVariants as rel

-- ---- numbers

-- a number that is not negative, below n
abbrev pub below : ℕ → ℤ → Option ℕ
below n (pos k) = if nat_lt k n then Some k else None
below n (negsuc k) = None

-- a number from low to high
abbrev pub number_from : (low high : ℕ) → ℤ → Option ℕ
number_from low high (pos k) = if is_in_range low high k then Some k else None
number_from low high (negsuc k) = None

-- a descriptor
unfoldable pub descriptor_of : List ℕ → Option ℕ
descriptor_of w = option_and_then (below descriptor_limit) (numeral_value w)

-- a number that is not negative
abbrev pub not_negative : ℤ → Option ℤ
not_negative (pos k) = Some (pos k)
not_negative (negsuc k) = None

-- a word that spells a number which is not negative
unfoldable pub natural_of : List ℕ → Option ℤ
natural_of w = option_and_then not_negative (numeral_value w)

-- ---- registers and operands

-- `v0` to `v63`
unfoldable pub shared_of : List ℕ → Option ℕ
shared_of w = if slice_index w 0 == code "v" then option_and_then (below 64) (numeral_value (drop 1 w)) else None

-- `a0` to `a15`
unfoldable pub own_of : List ℕ → Option ℕ
own_of w = if slice_index w 0 == code "a" then option_and_then (below 16) (numeral_value (drop 1 w)) else None

-- a register of either kind
unfoldable pub register_of : List ℕ → Option Register
register_of w = (if is_some (own_of w) then option_map (λ k. reg.Own k) (own_of w) else option_map (λ k. reg.Shared k) (shared_of w))

-- a number of a body's line: given, of the last error, or in a register
unfoldable pub operand_of : List ℕ → Option Operand
operand_of w =
    if is_some (numeral_value w) then option_map (λ n. operand.Number n) (numeral_value w)
    else (if bytes_eq w (codes "err") then Some operand.Error
    else option_map (λ r. operand.Register r) (register_of w))

-- a number of an act or a check: given, the argument, or in a shared register
unfoldable pub value_of : List ℕ → Option Value
value_of w =
    if is_some (numeral_value w) then option_map (λ n. value.Number n) (numeral_value w)
    else (if bytes_eq w (codes "arg") then Some value.Argument
    else option_map (λ k. value.Shared k) (shared_of w))

-- `-` is none; other words must have the form
abbrev pub maybe : {A : Type 0} → (List ℕ → Option A) → List ℕ → Option (Option A)
maybe f w = if bytes_eq w (codes "-") then Some None else option_map (λ x. Some x) (f w)

-- ---- names, sets and bytes

-- `a` to `z`, `0` to `9`, `_` and `.`
abbrev pub is_name_byte : ℕ → Bool
is_name_byte b = (nat_le (code "a") b && nat_le b (code "z")) || ((nat_le (code "0") b && nat_le b (code "9")) || (b == code "_" || b == code "."))

-- 1 to 80 such bytes
abbrev pub is_name : List ℕ → Bool
is_name w = nat_le 1 (length w) && (nat_le (length w) 80 && list_all (λ b. is_name_byte b) w)

-- a name is cut at 40 bytes
unfoldable pub name_of : List ℕ → Option (List ℕ)
name_of w = if is_name w then Some (take 40 w) else None

-- members that rise from a number on, below 64; each has its bit
abbrev pub members_of : ℕ → List (List ℕ) → Option ℕ
members_of least [] = Some 0
members_of least (p ∷ ps) =
    option_and_then (λ k. if nat_le least k then option_map (λ set. 2 ^ k + set) (members_of (k + 1) ps) else None)
    (option_and_then (below 64) (numeral_value p))

-- `-` for none, or members joined by commas
unfoldable pub set_of : List ℕ → Option FdSet
set_of w = option_map (λ set. record { 0 = set }) (if bytes_eq w (codes "-") then Some 0 else members_of 0 (slice_split (λ b. b == code ",") w))

-- it begins with `hex:`
abbrev pub has_hex : List ℕ → Bool
has_hex w = bytes_eq (take 4 w) (codes "hex:")

-- the bytes after `hex:`, which may be none
abbrev pub given_of : List ℕ → Option (List ℕ)
given_of [] = Some []
given_of (d ∷ ds) = hex_bytes (d ∷ ds)

-- `buf`, or `hex:` and bytes
unfoldable pub bytes_of : List ℕ → Option ByteOperand
bytes_of w =
    if bytes_eq w (codes "buf") then Some bytes.Buffer
    else (if has_hex w then option_map (λ b. bytes.Given b) (given_of (drop 4 w))
    else None)

-- the sum of 1 for `r`, 2 for `w` and 4 for `x`
abbrev pub goal_words : List (List ℕ × ℕ)
goal_words =
    (codes "r", 1)
    ∷ (codes "w", 2)
    ∷ (codes "rw", 3)
    ∷ (codes "x", 4)
    ∷ (codes "rx", 5)
    ∷ (codes "wx", 6)
    ∷ (codes "rwx", 7)
    ∷ []

unfoldable pub goals_of : List ℕ → Option ℕ
goals_of w = named_in goal_words w

-- ---- words of a list

-- whether all events of a ring are meant
abbrev pub which_words : List (List ℕ × Bool)
which_words =
    (codes "this", false)
    ∷ (codes "all", true)
    ∷ []

unfoldable pub which_of : List ℕ → Option Bool
which_of w = named_in which_words w

-- a relation between two numbers
abbrev pub relation_words : List (List ℕ × Relation)
relation_words =
    (codes "eq", rel.Eq)
    ∷ (codes "ne", rel.Ne)
    ∷ (codes "lt", rel.Lt)
    ∷ (codes "le", rel.Le)
    ∷ (codes "gt", rel.Gt)
    ∷ (codes "ge", rel.Ge)
    ∷ []

unfoldable pub relation_of : List ℕ → Option Relation
relation_of w = named_in relation_words w

-- a field of an attribute object
abbrev pub field_words : List (List ℕ × AttrField)
field_words =
    (codes "prio", field.Prio)
    ∷ (codes "name", field.Name)
    ∷ (codes "joinable", field.Joinable)
    ∷ (codes "cancel", field.Cancel)
    ∷ (codes "dispatches", field.Dispatches)
    ∷ (codes "state", field.State)
    ∷ (codes "bound", field.Bound)
    ∷ []

unfoldable pub field_of : List ℕ → Option AttrField
field_of w = named_in field_words w

-- a thread's state that an event may wait for
abbrev pub state_words : List (List ℕ × ThreadState)
state_words =
    (codes "new", state.New)
    ∷ (codes "ready", state.Ready)
    ∷ (codes "waiting", state.Waiting)
    ∷ (codes "dead", state.Dead)
    ∷ []

unfoldable pub thread_state_of : List ℕ → Option ThreadState
thread_state_of w = named_in state_words w

-- whether a lock is taken for writing
abbrev pub mode_words : List (List ℕ × Bool)
mode_words =
    (codes "rd", false)
    ∷ (codes "rw", true)
    ∷ []

unfoldable pub mode_of : List ℕ → Option Bool
mode_of w = named_in mode_words w

-- whether a walk goes forward, and whether it goes on to an event that occurred
abbrev pub direction_words : List (List ℕ × Direction)
direction_words =
    (codes "next", record { forward = true; until_occurred = false })
    ∷ (codes "prev", record { forward = false; until_occurred = false })
    ∷ (codes "next_occurred", record { forward = true; until_occurred = true })
    ∷ (codes "prev_occurred", record { forward = false; until_occurred = true })
    ∷ []

unfoldable pub direction_of : List ℕ → Option Direction
direction_of w = named_in direction_words w

-- what the scheduler is asked
abbrev pub query_words : List (List ℕ × QueryWord)
query_words =
    (codes "threads", query.Threads)
    ∷ (codes "new", query.New)
    ∷ (codes "ready", query.Ready)
    ∷ (codes "running", query.Running)
    ∷ (codes "waiting", query.Waiting)
    ∷ (codes "suspended", query.Suspended)
    ∷ (codes "dead", query.Dead)
    ∷ (codes "favournew", query.Favournew)
    ∷ (codes "prio", query.Prio)
    ∷ (codes "name", query.Name)
    ∷ []

unfoldable pub query_of : List ℕ → Option QueryWord
query_of w = named_in query_words w
