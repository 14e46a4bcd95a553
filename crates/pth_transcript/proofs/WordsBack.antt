-- What is printed of an operand is read back.
use Rattle.std.proofs.Common.{◌≡◌, ◌≢◌, ◌≤◌, ℕ, zero, suc, ℤ, Bool, true, false, cond, List, codes, Option, Some, None, w64, FitsSigned, refl, ap, arith}
use Rattle.std.specs.Prelude.{option_map}
use Rattle.std.specs.Str.{bytes_eq}
use Rattle.std.proofs.lemmas.Slice.Eq.{bytes_eq-Decides}
use Rattle.pth_base.specs.declared.attr.AttrField.{AttrField}
use Rattle.pth_base.specs.declared.attr.AttrField.TheVariants as field
use Rattle.pth_base.specs.declared.thread.ThreadState.{ThreadState}
use Rattle.pth_base.specs.declared.thread.ThreadState.TheVariants.{New, Ready, Running, Waiting, Dead}
use Rattle.pth_operand.specs.declared.operand.Operand.TheVariants as operand
use Rattle.pth_text.specs.Number.{numeral_value}
use Rattle.pth_text.proofs.Numbers.{written_number_is_read}
use Rattle.pth_spelling.specs.Keywords.{call_word, new_event_word}
use Rattle.pth_spelling.specs.Named.{named_in}
use Rattle.pth_spelling.specs.Syntax.{new_event_syntax}
use Rattle.pth_spelling.specs.WordMeanings.{operand_of, register_of, own_of, shared_of, maybe, name_of, goals_of, which_of, field_of, thread_state_of, mode_of, direction_of, query_of}
use Rattle.pth_spelling.specs.declared.keyword.NewEventWord.{NewEventWord}
use Rattle.pth_spelling.specs.declared.keyword.NewEventWord.TheVariants as new_events
use Rattle.pth_spelling.specs.declared.keyword.QueryWord.{QueryWord}
use Rattle.pth_spelling.specs.declared.keyword.QueryWord.TheVariants as queries
use Rattle.pth_print.specs.ArgWords.{arg_word, goals_word, state_word, walk_word, which_word, field_word, mode_word, query_word}
use Rattle.pth_print.specs.Args as arg
use Rattle.pth_print.specs.WordTexts.{number_word}
use Rattle.pth_transcript.specs.Readable.{IsReadableArg}

-- ---- numbers and names

-- a number
pub number_back : (n : ℤ) → FitsSigned w64 n → operand_of (number_word n) ≡ Some (operand.Number n)
unfolding operand_of
number_back n fits = rw (written_number_is_read n fits) refl

-- the same, by whether the word is `-`
some_by : {A : Type 0} (f : List ℕ → Option A) (w : List ℕ) (x : A) (b : Bool) → bytes_eq w (codes "-") ≡ b → f (codes "-") ≡ None → f w ≡ Some x
    → cond b (Some None) (option_map (λ x. Some x) (f w)) ≡ Some (Some x)
some_by f w x true dash none e =
    let same : w ≡ codes "-" = (bytes_eq-Decides w (codes "-")).0 dash in
    let other = ap f same in
    absurd (cc)
some_by f w x false dash none e = ap (option_map (λ x. Some x)) e

-- what is not `-`, where `-` has no meaning of its own
some_back : {A : Type 0} (f : List ℕ → Option A) (w : List ℕ) (x : A) → f (codes "-") ≡ None → f w ≡ Some x → maybe f w ≡ Some (Some x)
some_back f w x none e = some_by f w x (bytes_eq w (codes "-")) refl none e

-- `-` is no number
no_number : operand_of (codes "-") ≡ None
unfolding operand_of register_of own_of shared_of numeral_value
no_number = refl

-- `-` is no name
no_name : name_of (codes "-") ≡ None
unfolding name_of
no_name = refl

-- a number, or none
pub maybe_number_back : (n : Option ℤ) → IsReadableArg (arg.MaybeNumber n)
    → maybe operand_of (arg_word (arg.MaybeNumber n)) ≡ Some (option_map (λ n. operand.Number n) n)
maybe_number_back (Some n) fits = some_back operand_of (number_word n) (operand.Number n) no_number (number_back n fits)
maybe_number_back None fits = refl

-- a name, or none
pub maybe_name_back : (name : Option (List ℕ)) → IsReadableArg (arg.MaybeName name) → maybe name_of (arg_word (arg.MaybeName name)) ≡ Some name
maybe_name_back (Some name) e = some_back name_of name name no_name e
maybe_name_back None e = refl

-- ---- words of a list

-- goals
pub goals_back : (goals : ℕ) → 1 ≤ goals → goals ≤ 7 → goals_of (goals_word goals) ≡ Some goals
unfolding goals_of named_in
goals_back zero some few = absurd (omega arith)
goals_back (suc zero) some few = refl
goals_back (suc (suc zero)) some few = refl
goals_back (suc (suc (suc zero))) some few = refl
goals_back (suc (suc (suc (suc zero)))) some few = refl
goals_back (suc (suc (suc (suc (suc zero))))) some few = refl
goals_back (suc (suc (suc (suc (suc (suc zero)))))) some few = refl
goals_back (suc (suc (suc (suc (suc (suc (suc zero))))))) some few = refl
goals_back (suc (suc (suc (suc (suc (suc (suc (suc more)))))))) some few = absurd (omega arith)

-- which events are freed
pub which_back : (all : Bool) → which_of (which_word all) ≡ Some all
unfolding which_of named_in
which_back true = refl
which_back false = refl

-- a field of an attribute object
pub field_back : (f : AttrField) → field_of (field_word f) ≡ Some f
unfolding field_of named_in
field_back field.Prio = refl
field_back field.Name = refl
field_back field.Joinable = refl
field_back field.Cancel = refl
field_back field.Dispatches = refl
field_back field.State = refl
field_back field.Bound = refl

-- a state that an event may wait for
pub state_back : (s : ThreadState) → s ≢ Running → thread_state_of (state_word s) ≡ Some s
unfolding thread_state_of named_in
state_back New other = refl
state_back Ready other = refl
state_back Running other = absurd (other refl)
state_back Waiting other = refl
state_back Dead other = refl

-- to write, or to read
pub mode_back : (write : Bool) → mode_of (mode_word write) ≡ Some write
unfolding mode_of named_in
mode_back true = refl
mode_back false = refl

-- a walk
pub direction_back : (forward until_occurred : Bool)
    → direction_of (walk_word forward until_occurred) ≡ Some (record { forward = forward; until_occurred = until_occurred })
unfolding direction_of named_in
direction_back true true = refl
direction_back true false = refl
direction_back false true = refl
direction_back false false = refl

-- what the scheduler is asked
pub query_back : (q : QueryWord) → query_of (query_word q) ≡ Some q
unfolding query_of named_in
query_back queries.Threads = refl
query_back queries.New = refl
query_back queries.Ready = refl
query_back queries.Running = refl
query_back queries.Waiting = refl
query_back queries.Suspended = refl
query_back queries.Dead = refl
query_back queries.Favournew = refl
query_back queries.Prio = refl
query_back queries.Name = refl

-- the kind of a new event
pub event_back : (k : NewEventWord) → new_event_word (new_event_syntax k).text ≡ Some k
unfolding new_event_word call_word named_in
event_back new_events.Fd = refl
event_back new_events.Select = refl
event_back new_events.Time = refl
event_back new_events.Msg = refl
event_back new_events.Cond = refl
event_back new_events.Tid = refl
event_back new_events.Func = refl
