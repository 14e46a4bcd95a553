-- Operands of calls as words.
use Rattle.std.specs.Prelude.{ℕ, ℤ, ◌/◌, ◌%◌, ◌==◌, List, [], ◌∷◌, ◌++◌, Bool, true, false, Some, None, codes, if◌then◌else◌}
use Rattle.pth_base.specs.declared.attr.AttrField.{AttrField}
use Rattle.pth_base.specs.declared.attr.AttrField.TheVariants as field
use Rattle.pth_base.specs.declared.thread.ThreadState.{ThreadState}
use Rattle.pth_base.specs.declared.thread.ThreadState.TheVariants.{New, Ready, Running, Waiting, Dead}
use Rattle.pth_spelling.specs.Syntax.{new_event_syntax}
use Rattle.pth_spelling.specs.declared.keyword.QueryWord.{QueryWord}
use Rattle.pth_spelling.specs.declared.keyword.QueryWord.TheVariants as queries
use Rattle.pth_spelling.specs.Args.{Arg}
use Rattle.pth_spelling.specs.Args as arg
use Rattle.pth_print.specs.Sets.{set_word}
use Rattle.pth_print.specs.WordTexts.{hex_word, number_word}

-- goals are the sum of 1 for readable, 2 for writeable and 4 for exceptional
abbrev pub goals_word : ℕ → List ℕ
goals_word goals =
    (if goals % 2 == 1 then codes "r" else []) ++ (if goals / 2 % 2 == 1 then codes "w" else []) ++ (if goals / 4 % 2 == 1 then codes "x" else [])

-- a thread's state
abbrev pub state_word : ThreadState → List ℕ
state_word New = codes "new"
state_word Ready = codes "ready"
state_word Running = codes "running"
state_word Waiting = codes "waiting"
state_word Dead = codes "dead"

-- a walk's direction, and whether it goes on to an event that occurred
abbrev pub walk_word : Bool → Bool → List ℕ
walk_word true false = codes "next"
walk_word false false = codes "prev"
walk_word true true = codes "next_occurred"
walk_word false true = codes "prev_occurred"

-- which events are freed: all of a ring, or one
abbrev pub which_word : Bool → List ℕ
which_word all = if all then codes "all" else codes "this"

-- a field
abbrev pub field_word : AttrField → List ℕ
field_word field.Prio = codes "prio"
field_word field.Name = codes "name"
field_word field.Joinable = codes "joinable"
field_word field.Cancel = codes "cancel"
field_word field.Dispatches = codes "dispatches"
field_word field.State = codes "state"
field_word field.Bound = codes "bound"

-- to write, or to read
abbrev pub mode_word : Bool → List ℕ
mode_word write = if write then codes "rw" else codes "rd"

-- what is asked
abbrev pub query_word : QueryWord → List ℕ
query_word queries.Threads = codes "threads"
query_word queries.New = codes "new"
query_word queries.Ready = codes "ready"
query_word queries.Running = codes "running"
query_word queries.Waiting = codes "waiting"
query_word queries.Suspended = codes "suspended"
query_word queries.Dead = codes "dead"
query_word queries.Favournew = codes "favournew"
query_word queries.Prio = codes "prio"
query_word queries.Name = codes "name"

-- an operand
abbrev pub arg_word : Arg → List ℕ
arg_word (arg.Number n) = number_word n
arg_word (arg.MaybeNumber (Some n)) = number_word n
arg_word (arg.MaybeNumber None) = codes "-"
arg_word (arg.Name name) = name
arg_word (arg.MaybeName (Some name)) = name
arg_word (arg.MaybeName None) = codes "-"
arg_word (arg.Set set) = set_word set
arg_word (arg.Bytes bytes) = hex_word bytes
arg_word (arg.Goals goals) = goals_word goals
arg_word (arg.Which all) = which_word all
arg_word (arg.Mode write) = mode_word write
arg_word (arg.Walk forward until_occurred) = walk_word forward until_occurred
arg_word (arg.Field f) = field_word f
arg_word (arg.State s) = state_word s
arg_word (arg.Query k) = query_word k
arg_word (arg.Event k) = (new_event_syntax k).text
