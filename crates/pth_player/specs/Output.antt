-- What the program writes, and its status, for words and the bytes of its input.
use Rattle.std.specs.Prelude.{◌≡◌, ◌⊎◌, ℕ, true, false, List, Option, Some, None, codes}
use Rattle.pth_base.specs.Program.{Functions}
use Rattle.pth_base.specs.declared.outcome.Outcome.{Outcome}
use Rattle.pth_base.specs.declared.outcome.Outcome.TheVariants as outcomes
use Rattle.pth_kernel.specs.Kernel.{KernelOf, kernel_of}
use Rattle.pth_model.specs.State.{Given}
use Rattle.pth_model.specs.Course.{Course}
use Rattle.pth_model.specs.Run.{run, GoesTo}
use Rattle.pth_filter.specs.Filter.{Filter}
use Rattle.pth_filter.specs.Output.{IsOnly, Output, refusal}
use Rattle.pth_print.specs.declared.fault_line.Fault.TheVariants as fault
use Rattle.pth_print.specs.declared.fault_line.Flaw.TheVariants.{Breaks}
use Rattle.pth_line.specs.Script.{Sections, functions_of}
use Rattle.pth_script.specs.Broken.{IsAccepted, IsRefusal}
use Rattle.pth_script.specs.Meaning.{IsScriptOf, IsKernelOf, IsTopOf}
use Rattle.pth_script.specs.Upgrade.{upgraded}
use Rattle.pth_text.specs.declared.rule.Breach.{Breach}
use Rattle.pth_command.specs.CommandLine.{Asked, asked_by}
use Rattle.pth_player.specs.Objects.{cut, object_of}
use Rattle.pth_player.specs.Transcript.{text_of}

-- what the run of a text is given: the script, the kernel and the greatest base priority for which it stands
abbrev pub given_script : Sections × KernelOf × ℕ → Given Sections
given_script read = record { program = read.0; kernel = kernel_of read.1; top = read.2 }

-- no line of the text breaks a rule, and it stands for this script, this kernel and this priority
abbrev pub IsTheScript : Given Sections → List ℕ → Type 0
IsTheScript g text = IsAccepted text × IsScriptOf g.program text × IsKernelOf g.kernel text × IsTopOf g.top text

-- a line of the text, or the place after the last one, breaks a rule
abbrev pub IsRefused : List ℕ → Type 0
IsRefused text = (line : ℕ) × (b : Breach) × IsRefusal text line b

-- the name of the program
abbrev pub program : List ℕ
program = codes "pth_play"

-- the status of an outcome
abbrev pub outcome_status : Outcome → ℕ
outcome_status (outcomes.Ended value) = 0
outcome_status outcomes.Killed = 0
outcome_status outcomes.Stalled = 1
outcome_status outcomes.Running = 6
-- no run has this outcome
outcome_status outcomes.OutOfMemory = 7

-- ---- the output

module _ {P S H : Type 0} where
  -- the output of a run that came so far
  abbrev pub told_output : Asked → Course P S H → Output
  told_output asked c = record {
    text = text_of asked c;
    fault = None;
    status = outcome_status c.turn.outcome;
  }

  -- the output of a run to the number of steps that is asked for: what is told when the run stops
  abbrev pub IsRunOutput : (P → Functions S H) → Given P → Asked → Output → Type 0
  IsRunOutput f g asked out = (parts : ℕ) × GoesTo f g asked.steps 0 parts × (out ≡ told_output asked (run f g parts))

-- the output of a text that is written in version 2
abbrev pub upgrade_output : List ℕ → Output
upgrade_output text = record { text = upgraded text; fault = None; status = 0 }

-- the output for the text of a script: that of its run, or if an upgrade is asked for the text in version 2
abbrev pub IsScriptOutput : Asked → List ℕ → Output → Type 0
IsScriptOutput asked text out =
    ((asked.upgrade ≡ false) × (g : Given Sections) × IsTheScript g text × IsRunOutput functions_of g asked out)
    ⊎ ((asked.upgrade ≡ true) × IsAccepted text × (out ≡ upgrade_output text))

-- the output for an input: that of its script, or the refusal of the first line that breaks a rule
abbrev pub IsInputOutput : Asked → List ℕ → Output → Type 0
IsInputOutput asked text out =
    IsScriptOutput asked text out ⊎ ((line : ℕ) × (b : Breach) × IsRefusal text line b × (out ≡ refusal program (fault.Input line (Breaks b))))

-- the output for what the words ask for, if they are not refused, and the bytes of the object that they name
abbrev pub IsOutput : Option Asked → List ℕ → Output → Type 0
IsOutput None bytes out = out ≡ refusal program fault.Words
IsOutput (Some asked) bytes out = IsInputOutput asked (cut bytes) out

-- and there is no other
abbrev pub IsTheOutput : Option Asked → List ℕ → Output → Type 0
IsTheOutput asked bytes out = IsOnly (IsOutput asked bytes) out

-- the program
abbrev pub play : Filter Asked
play = record { name = program; asked = asked_by; object = λ asked. object_of asked.generate asked.file; IsOutput = IsOutput }
