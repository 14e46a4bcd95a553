-- What the words of the command line ask for, by clap's definition of which words a command takes and what they say.
use Rattle.std.specs.Prelude.{◌≡◌, ◌==◌, ℕ, nat_lt, Bool, true, ◌||◌, List, [], ◌∷◌, Option, Some, None, codes, option_map, unwrap_or, if◌then◌else◌, Result, Ok, Err}
use Rattle.clap.specs.Words.{App, Kinds, Row, Rule, Text, fault_of, first_of, matches_of, new_app, new_rule, with_rule}
use Rattle.clap.specs.declared.builder.value_parser.ValueParser.TheVariants as parser
use Rattle.pth_command.specs.CommandLine.{number_under}
use Rattle.pth_drawing.specs.Bounds.{most_turns}
use Rattle.pth_drawing.specs.declared.words.Choice.{Choice}
use Rattle.pth_print.specs.declared.fault_line.Fault.{Fault}
use Rattle.pth_print.specs.declared.fault_line.Fault.TheVariants as fault

-- ---- the command

-- an option with a number
abbrev pub number_rule : Text → Rule
number_rule name = record (new_rule name) { long = Some name; parser = Some (parser.Unsigned 0 18446744073709551615) }

-- the name that stands for the transcript
abbrev pub file_rule : Rule
file_rule = new_rule (codes "FILE")

-- the command before it has options: all words are its own, and there are no flags for help and version
abbrev pub bare : App
bare = let app = new_app (codes "pth_picture") in
    record app { top = record app.top { no_binary_name = true; disable_help_flag = true } }

-- `pth_picture [--from TURN] [--turns N] [FILE]`
unfoldable pub picture : App
picture = with_rule (with_rule (with_rule bare (number_rule (codes "from"))) (number_rule (codes "turns"))) file_rule

-- ---- what is asked for

pub record Asked : Type 0 where
  -- the first turn that is drawn, counted from 1
  pub from : ℕ
  -- how many turns are drawn at most
  pub turns : ℕ
  -- the name that stands for the transcript
  pub file : Option Text

-- what the rows of a parse say: if they do not say it, 400 turns from the first on
abbrev pub asked_in : List Row → Asked
asked_in rows = record {
  from = unwrap_or (number_under (codes "from") rows) 1;
  turns = unwrap_or (number_under (codes "turns") rows) 400;
  file = first_of (codes "FILE") rows;
}

-- turns are counted from 1, and from one turn to as many as may be are drawn
abbrev pub is_refused : Asked → Bool
is_refused asked = (asked.from == 0) || ((asked.turns == 0) || nat_lt most_turns asked.turns)

abbrev pub agreed : Asked → Option Asked
agreed asked = if is_refused asked then None else Some asked

-- nothing if a step of the parse fails, or what is asked for may not be
abbrev pub unless_failed : Kinds → Asked → Option Asked
unless_failed [] asked = agreed asked
unless_failed (fault ∷ faults) asked = None

-- what the words ask for; nothing if they are refused
unfoldable pub asked_by : List Text → Option Asked
asked_by words = unless_failed (fault_of picture words) (asked_in (matches_of picture words))

-- a choice as what is asked for
abbrev pub asked_of : Choice → Asked
asked_of c = record { from = c.from; turns = c.turns; file = option_map (λ name. name.now) c.file }

-- the choice is what was asked for, and the words are refused exactly if they are, but for want of memory
abbrev pub Chooses : Option Asked → Result Choice Fault → Type 0
Chooses asked (Ok choice) = asked ≡ Some (asked_of choice)
Chooses asked (Err fault.Words) = asked ≡ None
Chooses asked (Err fault.OutOfMemory) = Unit {0}
Chooses asked (Err other) = ⊥
