-- The command `pth_play [--steps N] [--audit] [--summary] [--upgrade] [--generate N] [FILE]`, as clap's description of it.
use Rattle.std.specs.Prelude.{ℕ, true, [], ◌∷◌, Some, codes}
use Rattle.pth_base.specs.Limits.{most_steps}
use Rattle.clap.specs.Words.{App, Rule, Text, new_app, new_rule, with_rule}
use Rattle.clap.specs.declared.builder.ArgAction.TheVariants.{SetTrue}
use Rattle.clap.specs.declared.builder.value_parser.ValueParser.TheVariants as parser

-- how many steps a run makes at most if the words do not say it: as a number, and as a word
abbrev pub default_steps : ℕ
default_steps = 1000000

abbrev pub default_text : Text
default_text = codes "1000000"

-- how many steps a run makes at most
abbrev pub steps_rule : Rule
steps_rule = record (new_rule (codes "steps")) {
  long = Some (codes "steps");
  parser = Some (parser.Unsigned 1 most_steps);
  defaults = default_text ∷ [];
}

-- an option that is given or not
abbrev pub flag_rule : Text → Rule
flag_rule name = record (new_rule name) { long = Some name; action = Some SetTrue }

-- how long a thread has waited and may wait, beside its dispatch
abbrev pub audit_rule : Rule
audit_rule = flag_rule (codes "audit")

-- a line of counts in place of the transcript
abbrev pub summary_rule : Rule
summary_rule = flag_rule (codes "summary")

-- the text in version 2 in place of a run
abbrev pub upgrade_rule : Rule
upgrade_rule = flag_rule (codes "upgrade")

-- a workload in place of a script
abbrev pub generate_rule : Rule
generate_rule = record (new_rule (codes "generate")) { long = Some (codes "generate"); parser = Some (parser.Unsigned 0 18446744073709551615) }

-- the name that stands for the script
abbrev pub file_rule : Rule
file_rule = new_rule (codes "FILE")

-- the command before it has options: all words are its own, and there are no flags for help and version
abbrev pub bare : App
bare = let app = new_app (codes "pth_play") in
    record app { top = record app.top { no_binary_name = true; disable_help_flag = true } }

unfoldable pub play : App
play = with_rule (with_rule (with_rule (with_rule (with_rule (with_rule bare steps_rule) audit_rule) summary_rule) upgrade_rule) generate_rule) file_rule
