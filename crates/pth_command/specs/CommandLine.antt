-- What the words of the command line ask for, by clap's definition of which words a command takes and what they say.
use Rattle.std.specs.Prelude.{◌≡◌, ◌≤◌, ◌==◌, ℕ, nat_lt, Bool, false, ◌&&◌, ◌||◌, is_some, List, [], ◌∷◌, Option, Some, None, codes, option_map, option_and_then, unwrap_or, if◌then◌else◌, Result, Ok, Err}
use Rattle.std.specs.Option.{option_map_or}
use Rattle.std.specs.Str.{bytes_eq}
use Rattle.std.specs.Str.Parse.{digits_value, true_text, without_leading_plus}
use Rattle.clap.specs.ValueTests.{accepts}
use Rattle.clap.specs.Words.{Kinds, Row, Text, fault_of, first_of, matches_of, one_of}
use Rattle.clap.specs.declared.builder.value_parser.ValueParser.TheVariants as parser
use Rattle.pth_command.specs.Command.{play, default_steps}
use Rattle.pth_command.specs.declared.choice.Choice.{Choice}
use Rattle.pth_command.specs.declared.command_line.WordsErr.{WordsErr}
use Rattle.pth_command.specs.declared.command_line.WordsErr.TheVariants as words

-- what is asked for
pub record Asked : Type 0 where
  -- how many steps a run makes at most
  pub steps : ℕ
  -- whether a dispatch tells how long its thread has waited, and how long it may wait
  pub audit : Bool
  -- whether a line of counts stands in place of the transcript
  pub summary : Bool
  -- whether the text in version 2 is written and nothing is run
  pub upgrade : Bool
  -- how many threads the workload has that stands in place of a script, if one is asked for
  pub generate : Option ℕ
  -- the name that stands for the script
  pub file : Option Text

-- the number that a text is in decimal digits, below 2^64
abbrev pub unsigned_of : Text → Option ℕ
unsigned_of text = if accepts false (parser.Unsigned 0 18446744073709551615) text then Some (digits_value 10 (without_leading_plus text)) else None

-- the number that stands under a name
abbrev pub number_under : Text → List Row → Option ℕ
number_under name rows = option_and_then unsigned_of (one_of name rows)

-- whether the flag with a name is set
abbrev pub is_set : Text → List Row → Bool
is_set name rows = option_map_or (λ text. bytes_eq text true_text) (one_of name rows) false

-- what the rows of a parse say; the command has a default for the steps, so a number is always there
abbrev pub asked_in : List Row → Asked
asked_in rows = record {
  steps = unwrap_or (number_under (codes "steps") rows) default_steps;
  audit = is_set (codes "audit") rows;
  summary = is_set (codes "summary") rows;
  upgrade = is_set (codes "upgrade") rows;
  generate = number_under (codes "generate") rows;
  file = first_of (codes "FILE") rows;
}

-- how many threads a workload has: 1 to 1,000
abbrev pub IsWorkload : ℕ → Type 0
IsWorkload n = (1 ≤ n) × (n ≤ 1000)

-- a workload is asked for that has too few threads or too many, or beside which a FILE is named
abbrev pub is_no_workload : Option ℕ → Option Text → Bool
is_no_workload None file = false
is_no_workload (Some n) file = is_some file || (n == 0) || nat_lt 1000 n

-- what is asked for, if it goes together: no audit and no summary of a run beside the text in version 2, for which nothing is run, and no
-- FILE beside a workload, which stands in its place
abbrev pub agreed : Asked → Option Asked
agreed asked = if (asked.upgrade && (asked.audit || asked.summary)) || is_no_workload asked.generate asked.file then None else Some asked

-- nothing if a step of the parse fails, or what is asked for does not go together
abbrev pub unless_failed : Kinds → Asked → Option Asked
unless_failed [] asked = agreed asked
unless_failed (fault ∷ faults) asked = None

-- what the words ask for; nothing if they are refused
unfoldable pub asked_by : List Text → Option Asked
asked_by words = unless_failed (fault_of play words) (asked_in (matches_of play words))

-- a choice as what is asked for
abbrev pub asked_of : Choice → Asked
asked_of c = record { steps = c.steps; audit = c.audit; summary = c.summary; upgrade = c.upgrade; generate = c.generate; file = option_map (λ name. name.now) c.file }

-- the choice is what was asked for, and `Refused` comes exactly if the words are refused, but for want of memory
abbrev pub Chooses : Option Asked → Result Choice WordsErr → Type 0
Chooses asked (Ok choice) = asked ≡ Some (asked_of choice)
Chooses asked (Err words.Refused) = asked ≡ None
Chooses asked (Err words.OutOfMemory) = Unit {0}
