-- What the words of `pth_why [FILE]` ask for, by clap's definition of which words a command takes and what they say.
use Rattle.std.specs.Prelude.{◌≡◌, true, List, [], ◌∷◌, Option, Some, None, Result, Ok, Err, codes, option_map}
use Rattle.std.specs.Borrow.{Bor}
use Rattle.clap.specs.Words.{App, Kinds, Rule, Text, fault_of, first_of, matches_of, new_app, new_rule, with_rule}
use Rattle.pth_print.specs.declared.fault_line.Fault.{Fault}
use Rattle.pth_print.specs.declared.fault_line.Fault.TheVariants as fault

-- ---- the command

-- the name that stands for the transcript
abbrev pub file_rule : Rule
file_rule = new_rule (codes "FILE")

-- the command before it has operands: all words are its own, and there are no flags for help and version
abbrev pub bare : App
bare = let app = new_app (codes "pth_why") in
    record app { top = record app.top { no_binary_name = true; disable_help_flag = true } }

unfoldable pub explainer : App
explainer = with_rule bare file_rule

-- ---- what is asked for

-- nothing if a step of the parse fails
abbrev pub unless_failed : Kinds → Option Text → Option (Option Text)
unless_failed [] name = Some name
unless_failed (fault ∷ faults) name = None

-- the name that the words give, if they give one; nothing if they are refused
unfoldable pub asked_by : List Text → Option (Option Text)
asked_by words = unless_failed (fault_of explainer words) (first_of (codes "FILE") (matches_of explainer words))

-- a name as its text
abbrev pub name_of : Option (Bor Text) → Option Text
name_of name = option_map (λ n. n.now) name

-- the name is the one that was asked for, and `Words` comes exactly if the words are refused, but for want of memory
abbrev pub Names : Option (Option Text) → Result (Option (Bor Text)) Fault → Type 0
Names asked (Ok name) = asked ≡ Some (name_of name)
Names asked (Err fault.Words) = asked ≡ None
Names asked (Err fault.OutOfMemory) = Unit {0}
Names asked (Err f) = ⊥
